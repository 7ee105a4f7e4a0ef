-- The clauses of a definition give the new variable the value of what it defines.
use Rattle.std.proofs.Common.{◌≡◌, ℕ, ◌+◌, ◌≤◌, ◌==◌, Bool, true, false, not, ◌||◌, ◌&&◌, cond, List, [], ◌∷◌, map, refl, sym, ap, ◌∙◌, ◌⊎◌, ⊎_elim, rules, arith}
use Rattle.std.proofs.lemmas.Grind.{common_steps}
use Rattle.std.proofs.lemmas.Bool.Decides.{nat_tests}
use Rattle.ut_logic.specs.Truth.{any_true, all_true}
use Rattle.ut_logic.specs.declared.literals.Lit.{Lit}
use Rattle.clausify.specs.Form.{Form}
use Rattle.ut_logic.specs.Clauses.{value_of, negated}
use Rattle.clausify.specs.ClauseForm.{pos, neg, all_clauses, any_clauses, same_clauses, with_new}
use Rattle.clausify.specs.Meaning.{Agree}
use Rattle.clausify.proofs.Grows.{Grows}
use Rattle.clausify.proofs.Meets.{Meets, Within, LitsWithin, lits_true, lits_wider, lits_agree, all_within, any_within, meets-append, meets_front, meets_back}

-- w, with the value b at x
put : (ℕ → Bool) → ℕ → Bool → ℕ → Bool
put w x b y = cond (y == x) b (w y)

put_at : (w : ℕ → Bool) (x : ℕ) (b : Bool) → put w x b x ≡ b
unfolding put
put_at w x b = grind (arith, nat_tests)

put_other : (w : ℕ → Bool) (n : ℕ) (b : Bool) → Agree n w (put w (n + 1) b)
unfolding put
put_other w n b y h = grind (arith, nat_tests)

-- clauses cs over a new variable that are met just where it has the value g
pub defines : (s : Form) (cs : List (List Lit)) (g : (ℕ → Bool) → Bool) → Within (s.vars + 1) cs → ((w u : ℕ → Bool) → Agree s.vars w u → g w ≡ g u)
    → ((w : ℕ → Bool) → Meets w cs → w (s.vars + 1) ≡ g w) → ((w : ℕ → Bool) → w (s.vars + 1) ≡ g w → Meets w cs) → Grows s (with_new s cs) (λ w. w (s.vars + 1) ≡ g w)
defines s cs g h d if_met met_if = record {
  more = cs;
  is = refl;
  upward = omega arith;
  within = h;
  says = if_met;
  one = λ w u m k a x b. ⊎_elim (a x) (λ e. ap w e ∙ (if_met w m ∙ (d w u a ∙ (sym (if_met u k) ∙ sym (ap u e))))) (last x s.vars b);
  some = λ w. let u = put w (s.vars + 1) (g w) in
      (u, put_other w s.vars (g w), met_if u (put_at w (s.vars + 1) (g w) ∙ d w u (put_other w s.vars (g w))));
}
  where
    last : (x n : ℕ) → x ≤ n + 1 → (x ≤ n) ⊎ (x ≡ n + 1)
    last x n h = search (rules, arith)

not_not : (b : Bool) → b ≡ not (not b)
not_not true = refl
not_not false = refl

flip : (p b : Bool) → cond (not p) b (not b) ≡ not (cond p b (not b))
flip true b = refl
flip false b = not_not b

pub value_of-negated : (w : ℕ → Bool) (l : Lit) → value_of w (negated l) ≡ not (value_of w l)
value_of-negated w l = flip l.positive (w l.var)

any-negated : (w : ℕ → Bool) (ls : List Lit) → any_true (lits_true w (map negated ls)) ≡ not (all_true (lits_true w ls))
any-negated w [] = refl
any-negated w (l ∷ ls) = rw (value_of-negated w l, any-negated w ls) (de_morgan (value_of w l) (all_true (lits_true w ls)))
  where
    de_morgan : (a b : Bool) → (not a || not b) ≡ not (a && b)
    de_morgan true b = refl
    de_morgan false b = refl

all-negated : (w : ℕ → Bool) (ls : List Lit) → all_true (lits_true w (map negated ls)) ≡ not (any_true (lits_true w ls))
all-negated w [] = refl
all-negated w (l ∷ ls) = rw (value_of-negated w l, all-negated w ls) (de_morgan (value_of w l) (any_true (lits_true w ls)))
  where
    de_morgan : (a b : Bool) → (not a && not b) ≡ not (a || b)
    de_morgan true b = refl
    de_morgan false b = refl

-- ---- x implies each of ls, as pairs

pair_if : (a b : Bool) → (not a || (b || false)) ≡ true → a ≡ true → b ≡ true
pair_if true b h e = grind (arith, common_steps)
pair_if false b h e = grind (arith, common_steps)

pair_met : (a b : Bool) → (a ≡ true → b ≡ true) → (not a || (b || false)) ≡ true
pair_met true b h = rw (h refl) refl
pair_met false b h = refl

and_both : (a b : Bool) → a ≡ true → b ≡ true → (a && b) ≡ true
and_both a b h g = rw h g

and_first : (a b : Bool) → (a && b) ≡ true → a ≡ true
and_first true b h = refl
and_first false b h = h

and_second : (a b : Bool) → (a && b) ≡ true → b ≡ true
and_second true b h = h
and_second false b h = grind (arith, common_steps)

pairs_if : (w : ℕ → Bool) (x : ℕ) (ls : List Lit) → Meets w (map (λ l. neg x ∷ l ∷ []) ls) → w x ≡ true → all_true (lits_true w ls) ≡ true
pairs_if w x [] m e = refl
pairs_if w x (l ∷ ls) m e = and_both (value_of w l) (all_true (lits_true w ls)) (pair_if (w x) (value_of w l) m.0 e) (pairs_if w x ls m.1 e)

pairs_met : (w : ℕ → Bool) (x : ℕ) (ls : List Lit) → (w x ≡ true → all_true (lits_true w ls) ≡ true) → Meets w (map (λ l. neg x ∷ l ∷ []) ls)
pairs_met w x [] h = tt
pairs_met w x (l ∷ ls) h = (pair_met (w x) (value_of w l) (λ e. and_first (value_of w l) (all_true (lits_true w ls)) (h e)), pairs_met w x ls (λ e. and_second (value_of w l) (all_true (lits_true w ls)) (h e)))

same_if : (a b : Bool) → (a ≡ true → b ≡ true) → (a || not b) ≡ true → a ≡ b
same_if true b h g = sym (h refl)
same_if false true h g = g
same_if false false h g = refl

long_met : (a b : Bool) → a ≡ b → (a || not b) ≡ true
long_met true b h = refl
long_met false true h = h
long_met false false h = refl

-- x is all of ls
pub all_if : (w : ℕ → Bool) (x : ℕ) (ls : List Lit) → Meets w (all_clauses x ls) → w x ≡ all_true (lits_true w ls)
all_if w x ls m = same_if (w x) (all_true (lits_true w ls)) (pairs_if w x ls (meets_front w (map (λ l. neg x ∷ l ∷ []) ls) ((pos x ∷ map negated ls) ∷ []) m))
    (ap (λ b. w x || b) (sym (any-negated w ls)) ∙ (meets_back w (map (λ l. neg x ∷ l ∷ []) ls) ((pos x ∷ map negated ls) ∷ []) m).0)

pub all_met : (w : ℕ → Bool) (x : ℕ) (ls : List Lit) → w x ≡ all_true (lits_true w ls) → Meets w (all_clauses x ls)
all_met w x ls e = meets-append w (map (λ l. neg x ∷ l ∷ []) ls) ((pos x ∷ map negated ls) ∷ []) (pairs_met w x ls (λ h. sym e ∙ h)) (ap (λ b. w x || b) (any-negated w ls) ∙ long_met (w x) (all_true (lits_true w ls)) e, tt)

-- ---- each of ls implies x

back_if : (a b : Bool) → (a || (not b || false)) ≡ true → b ≡ true → a ≡ true
back_if true b h e = refl
back_if false b h e = grind (arith, common_steps)

back_met : (a b : Bool) → (b ≡ true → a ≡ true) → (a || (not b || false)) ≡ true
back_met true b h = refl
back_met false true h = h refl
back_met false false h = refl

or_both : (a b : Bool) (P : Type 0) → (a ≡ true → P) → (b ≡ true → P) → (a || b) ≡ true → P
or_both true b P f g h = f refl
or_both false b P f g h = g h

or_first : (a b : Bool) → a ≡ true → (a || b) ≡ true
or_first a b h = rw h refl

or_second : (a b : Bool) → b ≡ true → (a || b) ≡ true
or_second true b h = refl
or_second false b h = h

backs_if : (w : ℕ → Bool) (x : ℕ) (ls : List Lit) → Meets w (map (λ l. pos x ∷ negated l ∷ []) ls) → any_true (lits_true w ls) ≡ true → w x ≡ true
backs_if w x [] m e = grind (arith, common_steps)
backs_if w x (l ∷ ls) m e = or_both (value_of w l) (any_true (lits_true w ls)) (w x ≡ true) (back_if (w x) (value_of w l) (ap (λ b. w x || (b || false)) (sym (value_of-negated w l)) ∙ m.0)) (backs_if w x ls m.1) e

backs_met : (w : ℕ → Bool) (x : ℕ) (ls : List Lit) → (any_true (lits_true w ls) ≡ true → w x ≡ true) → Meets w (map (λ l. pos x ∷ negated l ∷ []) ls)
backs_met w x [] h = tt
backs_met w x (l ∷ ls) h = (ap (λ b. w x || (b || false)) (value_of-negated w l) ∙ back_met (w x) (value_of w l) (λ e. h (or_first (value_of w l) (any_true (lits_true w ls)) e)), backs_met w x ls (λ e. h (or_second (value_of w l) (any_true (lits_true w ls)) e)))

same_if_back : (a b : Bool) → (b ≡ true → a ≡ true) → (not a || b) ≡ true → a ≡ b
same_if_back true b h g = sym g
same_if_back false true h g = h refl
same_if_back false false h g = refl

long_met_back : (a b : Bool) → a ≡ b → (not a || b) ≡ true
long_met_back true b h = sym h
long_met_back false b h = refl

pub any_if : (w : ℕ → Bool) (x : ℕ) (ls : List Lit) → Meets w (any_clauses x ls) → w x ≡ any_true (lits_true w ls)
any_if w x ls m = same_if_back (w x) (any_true (lits_true w ls)) (backs_if w x ls (meets_front w (map (λ l. pos x ∷ negated l ∷ []) ls) ((neg x ∷ ls) ∷ []) m))
    (meets_back w (map (λ l. pos x ∷ negated l ∷ []) ls) ((neg x ∷ ls) ∷ []) m).0

pub any_met : (w : ℕ → Bool) (x : ℕ) (ls : List Lit) → w x ≡ any_true (lits_true w ls) → Meets w (any_clauses x ls)
any_met w x ls e = meets-append w (map (λ l. pos x ∷ negated l ∷ []) ls) ((neg x ∷ ls) ∷ []) (backs_met w x ls (λ h. e ∙ h)) (long_met_back (w x) (any_true (lits_true w ls)) e, tt)

-- ---- a new variable for all or any of literals

pub defines_all : (s : Form) (ls : List Lit) → LitsWithin s.vars ls → Grows s (with_new s (all_clauses (s.vars + 1) ls)) (λ w. w (s.vars + 1) ≡ all_true (lits_true w ls))
defines_all s ls h = defines s (all_clauses (s.vars + 1) ls) (λ w. all_true (lits_true w ls)) (all_within (s.vars + 1) (s.vars + 1) ls (omega arith, omega arith) (lits_wider s.vars (s.vars + 1) ls (omega arith) h)) (λ w u a. ap all_true (lits_agree s.vars w u ls h a)) (λ w m. all_if w (s.vars + 1) ls m) (λ w e. all_met w (s.vars + 1) ls e)

pub defines_any : (s : Form) (ls : List Lit) → LitsWithin s.vars ls → Grows s (with_new s (any_clauses (s.vars + 1) ls)) (λ w. w (s.vars + 1) ≡ any_true (lits_true w ls))
defines_any s ls h = defines s (any_clauses (s.vars + 1) ls) (λ w. any_true (lits_true w ls)) (any_within (s.vars + 1) (s.vars + 1) ls (omega arith, omega arith) (lits_wider s.vars (s.vars + 1) ls (omega arith) h)) (λ w u a. ap any_true (lits_agree s.vars w u ls h a)) (λ w m. any_if w (s.vars + 1) ls m) (λ w e. any_met w (s.vars + 1) ls e)

-- ---- a variable that is one literal

same_sign : (a b : Bool) → (not a || (b || false)) ≡ true → (a || (not b || false)) ≡ true → a ≡ b
same_sign true true h g = refl
same_sign true false h g = sym h
same_sign false true h g = g
same_sign false false h g = refl

sign_first : (a b : Bool) → a ≡ b → (not a || (b || false)) ≡ true
sign_first true b e = rw (sym e) refl
sign_first false b e = refl

sign_second : (a b : Bool) → a ≡ b → (a || (not b || false)) ≡ true
sign_second true b e = refl
sign_second false b e = rw (sym e) refl

pub same_if_met : (w : ℕ → Bool) (x : ℕ) (l : Lit) → Meets w (same_clauses x l) → w x ≡ value_of w l
same_if_met w x l m = same_sign (w x) (value_of w l) m.0 (ap (λ b. w x || (b || false)) (sym (value_of-negated w l)) ∙ m.1.0)

pub met_if_same : (w : ℕ → Bool) (x : ℕ) (l : Lit) → w x ≡ value_of w l → Meets w (same_clauses x l)
met_if_same w x l e = (sign_first (w x) (value_of w l) e, (ap (λ b. w x || (b || false)) (value_of-negated w l) ∙ sign_second (w x) (value_of w l) e, tt))
