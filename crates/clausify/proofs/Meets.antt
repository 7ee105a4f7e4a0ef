-- Clauses that are met: each has a true literal.
use Rattle.std.proofs.Common.{◌≡◌, ℕ, ◌≤◌, ◌<◌, Bool, true, not, cond, List, [], ◌∷◌, ◌++◌, map, refl, sym, ap, ◌∙◌, arith}
use Rattle.ut_logic.specs.declared.literals.Lit.{Lit}
use Rattle.ut_logic.specs.Clauses.{value_of, negated}
use Rattle.ut_logic.specs.Truth.{any_true}
use Rattle.clausify.specs.ClauseForm.{pos, neg, all_clauses, any_clauses, same_clauses}
use Rattle.clausify.specs.Meaning.{Agree}

-- the truths of literals
abbrev pub lits_true : (ℕ → Bool) → List Lit → List Bool
lits_true w ls = map (value_of w) ls

-- each clause has a true literal
abbrev pub Meets : (ℕ → Bool) → List (List Lit) → Type 0
Meets w [] = Unit {0}
Meets w (c ∷ cs) = (any_true (lits_true w c) ≡ true) × Meets w cs

-- each variable is one of those from 1 to n
abbrev pub LitWithin : ℕ → Lit → Type 0
LitWithin n l = (0 < l.var) × (l.var ≤ n)

abbrev pub LitsWithin : ℕ → List Lit → Type 0
LitsWithin n [] = Unit {0}
LitsWithin n (l ∷ ls) = LitWithin n l × LitsWithin n ls

abbrev pub Within : ℕ → List (List Lit) → Type 0
Within n [] = Unit {0}
Within n (c ∷ cs) = LitsWithin n c × Within n cs

pub lits_wider : (m n : ℕ) (ls : List Lit) → m ≤ n → LitsWithin m ls → LitsWithin n ls
lits_wider m n [] h p = tt
lits_wider m n (l ∷ ls) h p = ((p.0.0, omega (arith, p.0.1, h)), lits_wider m n ls h p.1)

pub wider : (m n : ℕ) (cs : List (List Lit)) → m ≤ n → Within m cs → Within n cs
wider m n [] h p = tt
wider m n (c ∷ cs) h p = (lits_wider m n c h p.0, wider m n cs h p.1)

pub within-append : (n : ℕ) (cs ds : List (List Lit)) → Within n cs → Within n ds → Within n (cs ++ ds)
within-append n [] ds p q = q
within-append n (c ∷ cs) ds p q = (p.0, within-append n cs ds p.1 q)

pub meets-append : (w : ℕ → Bool) (cs ds : List (List Lit)) → Meets w cs → Meets w ds → Meets w (cs ++ ds)
meets-append w [] ds p q = q
meets-append w (c ∷ cs) ds p q = (p.0, meets-append w cs ds p.1 q)

pub meets_front : (w : ℕ → Bool) (cs ds : List (List Lit)) → Meets w (cs ++ ds) → Meets w cs
meets_front w [] ds p = tt
meets_front w (c ∷ cs) ds p = (p.0, meets_front w cs ds p.1)

pub meets_back : (w : ℕ → Bool) (cs ds : List (List Lit)) → Meets w (cs ++ ds) → Meets w ds
meets_back w [] ds p = p
meets_back w (c ∷ cs) ds p = meets_back w cs ds p.1

pub lit_agrees : (n : ℕ) (w u : ℕ → Bool) (l : Lit) → l.var ≤ n → Agree n w u → value_of w l ≡ value_of u l
lit_agrees n w u l h a = ap (λ b. cond l.positive b (not b)) (a l.var h)

pub lits_agree : (n : ℕ) (w u : ℕ → Bool) (ls : List Lit) → LitsWithin n ls → Agree n w u → lits_true w ls ≡ lits_true u ls
lits_agree n w u [] h a = refl
lits_agree n w u (l ∷ ls) h a = rw (lit_agrees n w u l h.0.1 a, lits_agree n w u ls h.1 a) refl

pub meets_alike : (n : ℕ) (w u : ℕ → Bool) (cs : List (List Lit)) → Within n cs → Agree n w u → Meets w cs → Meets u cs
meets_alike n w u [] h a m = tt
meets_alike n w u (c ∷ cs) h a m = (ap any_true (sym (lits_agree n w u c h.0 a)) ∙ m.0, meets_alike n w u cs h.1 a m.1)

-- ---- the clauses of definitions

negated_within : (n : ℕ) (ls : List Lit) → LitsWithin n ls → LitsWithin n (map negated ls)
negated_within n [] h = tt
negated_within n (l ∷ ls) h = (h.0, negated_within n ls h.1)

within_one : (n : ℕ) (cs : List (List Lit)) (c : List Lit) → Within n cs → LitsWithin n c → Within n (cs ++ c ∷ [])
within_one n [] c h g = (g, tt)
within_one n (d ∷ cs) c h g = (h.0, within_one n cs c h.1 g)

pairs_within : (n x : ℕ) (ls : List Lit) → (0 < x) × (x ≤ n) → LitsWithin n ls → Within n (map (λ l. neg x ∷ l ∷ []) ls)
pairs_within n x [] k h = tt
pairs_within n x (l ∷ ls) k h = ((k, (h.0, tt)), pairs_within n x ls k h.1)

backs_within : (n x : ℕ) (ls : List Lit) → (0 < x) × (x ≤ n) → LitsWithin n ls → Within n (map (λ l. pos x ∷ negated l ∷ []) ls)
backs_within n x [] k h = tt
backs_within n x (l ∷ ls) k h = ((k, (h.0, tt)), backs_within n x ls k h.1)

pub all_within : (n x : ℕ) (ls : List Lit) → (0 < x) × (x ≤ n) → LitsWithin n ls → Within n (all_clauses x ls)
all_within n x ls k h = within_one n (map (λ l. neg x ∷ l ∷ []) ls) (pos x ∷ map negated ls) (pairs_within n x ls k h) (k, negated_within n ls h)

pub any_within : (n x : ℕ) (ls : List Lit) → (0 < x) × (x ≤ n) → LitsWithin n ls → Within n (any_clauses x ls)
any_within n x ls k h = within_one n (map (λ l. pos x ∷ negated l ∷ []) ls) (neg x ∷ ls) (backs_within n x ls k h) (k, h)

pub same_within : (n x : ℕ) (l : Lit) → (0 < x) × (x ≤ n) → LitWithin n l → Within n (same_clauses x l)
same_within n x l k h = ((k, (h, tt)), ((k, (h, tt)), tt))
