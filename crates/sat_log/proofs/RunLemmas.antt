-- What every run keeps: known clauses within the variables and sound, marks justified and apart.
use Rattle.std.proofs.Common.{◌≡◌, ◌≢◌, ℕ, zero, suc, ◌-◌, ◌<◌, ◌≤◌, Bool, true, false, not, cond, List, [], ◌∷◌, ◌++◌, ◌⊎◌, inl, inr, refl, sym, ap, ◌∙◌, subst, arith}
use Rattle.std.specs.Prelude.{All, Contains}
use Rattle.std.proofs.lemmas.List.{append-nil, append_assoc, map-append}
use Rattle.std.proofs.lemmas.List.Elements.{All-contains, Contains-append_left, Contains-push_cases}
use Rattle.ut_logic.specs.declared.literals.Lit.{Lit}
use Rattle.log_check.specs.declared.derivations.PivotOf.{PivotOf}
use Rattle.log_check.specs.declared.derivations.Chain.{Chain}
use Rattle.log_check.specs.declared.derivations.DerivationLine.{DerivationLine}
use Rattle.ut_logic.specs.Clauses.{literal, negated, value_of, IsModel, AreWithin}
use Rattle.log_check.specs.Derivations.{ResolvesTo, ChainGives, results}
use Rattle.log_check.proofs.Soundness.{gives_sound, model_push}
use Rattle.log_check.proofs.Resolvents.{contains_head, contains_tail, contains_cases, contains_nothing, cases_literal}
use Rattle.log_check.proofs.Merging.{not_itself}
use Rattle.sat_log.specs.declared.marks.Mark.{Mark}
use Rattle.sat_log.specs.Moves.{State, set_literals, IsSet, IsUnset, IsSetVar, known, Decides, Propagates, Jumps, Moves}
use Rattle.sat_log.specs.Inner.{AreApart}
use Rattle.sat_log.specs.Runs.{start, RunsTo}
use Rattle.sat_log.specs.LeastModel.{IsHeldBy}

pub differ : true ≡ false → ⊥
differ e = cc

pub same_or_turned : (s t : Bool) → (s ≡ t) ⊎ (s ≡ not t)
same_or_turned true true = inl refl
same_or_turned true false = inr refl
same_or_turned false true = inr refl
same_or_turned false false = inl refl

held_at : (b p : Bool) → b ≡ p → cond p b (not b) ≡ true
held_at true true e = refl
held_at true false e = cc
held_at false true e = cc
held_at false false e = refl

at_held : (b p : Bool) → cond p b (not b) ≡ true → b ≡ p
at_held true true e = refl
at_held true false e = cc
at_held false true e = cc
at_held false false e = refl

-- sets of literals

pub set_append : (xs ys : List Mark) → set_literals (xs ++ ys) ≡ set_literals xs ++ set_literals ys
set_append xs ys = map-append (λ (m : Mark). m.lit) xs ys

pub set_from_mark : (ms : List Mark) (m : Mark) → Contains ms m → IsSet ms m.lit
set_from_mark [] m h = absurd (contains_nothing m h)
set_from_mark (x ∷ xs) m h = elim (contains_cases x xs m h) [
  | inl e ↦ subst (λ (t : Mark). IsSet (x ∷ xs) t.lit) e (contains_head x.lit (set_literals xs))
  | inr q ↦ contains_tail x.lit (set_literals xs) m.lit (set_from_mark xs m q)
]

pub set_left : (xs ys : List Mark) (l : Lit) → IsSet xs l → IsSet (xs ++ ys) l
set_left xs ys l h = rw (set_append xs ys) (Contains-append_left (set_literals xs) (set_literals ys) l h)

-- clauses within the variables

abbrev pub Within : ℕ → List Lit → Type 0
Within n c = (l : Lit) → Contains c l → (0 < l.var) × (l.var ≤ n)

abbrev pub AllWithinVars : ℕ → List (List Lit) → Type 0
AllWithinVars n cs = (c : List Lit) → Contains cs c → Within n c

pub within_from : (n : ℕ) (cs : List (List Lit)) → AreWithin n cs → AllWithinVars n cs
within_from n cs h c i l k =
    All-contains (λ (l : Lit). (0 < l.var) × (l.var ≤ n)) c l (All-contains (λ (c : List Lit). All (λ (l : Lit). (0 < l.var) × (l.var ≤ n)) c) cs c h i) k

from_within : (n : ℕ) (cs : List (List Lit)) (acc : List Lit) (ps : List PivotOf) (r : List Lit) → AllWithinVars n cs → Within n acc → ResolvesTo cs acc ps r → Within n r
from_within n cs acc [] r h w g = subst (Within n) g w
from_within n cs acc (p ∷ ps) r h w (c, mid, i, res, g) =
    let there : Contains cs c = (p.clause - 1, omega arith, i.2) in
    from_within n cs mid ps r h (λ l k. elim (res.sound l k) [ inl q ↦ w l q.0 | inr q ↦ h c there l q.0 ]) g

pub gives_within : (n : ℕ) (cs : List (List Lit)) (chain : Chain) (r : List Lit) → AllWithinVars n cs → ChainGives cs chain r → Within n r
gives_within n cs chain r h (c, i, g) =
    let there : Contains cs c = (chain.first - 1, omega arith, i.2) in
    from_within n cs c chain.pairs r h (h c there) g

-- each mark is justified by those before it

-- a decided literal is negative, and each lower variable is set before it; a forced one follows
pub record IsJustified (n : ℕ) (clauses : List (List Lit)) (before : List Mark) (m : Mark) : Type 0 where
  pub negative : m.decided ≡ true → m.lit.positive ≡ false
  pub lower : m.decided ≡ true → (y : ℕ) → 0 < y → y < m.lit.var → IsSetVar before y
  pub implied : m.decided ≡ false → (v : ℕ → Bool) → IsModel v clauses → IsHeldBy before v → v m.lit.var ≡ m.lit.positive

abbrev pub AreJustified : ℕ → List (List Lit) → List Mark → List Mark → Type 0
AreJustified n clauses before [] = Unit {0}
AreJustified n clauses before (m ∷ ms) = IsJustified n clauses before m × AreJustified n clauses (before ++ m ∷ []) ms

justified_front : (n : ℕ) (clauses : List (List Lit)) (before xs ys : List Mark) → AreJustified n clauses before (xs ++ ys) → AreJustified n clauses before xs
justified_front n clauses before [] ys h = tt
justified_front n clauses before (x ∷ xs) ys h = (h.0, justified_front n clauses (before ++ x ∷ []) xs ys h.1)

justified_push : (n : ℕ) (clauses : List (List Lit)) (before xs : List Mark) (m : Mark) → AreJustified n clauses before xs → IsJustified n clauses (before ++ xs) m → AreJustified n clauses before (xs ++ m ∷ [])
justified_push n clauses before [] m h j = (rw append-nil at j, tt)
justified_push n clauses before (x ∷ xs) m h j =
    (h.0, justified_push n clauses (before ++ x ∷ []) xs m h.1 (rw append_assoc j))

-- no variable is set twice

pub apart_front : (xs ys : List Mark) → AreApart (xs ++ ys) → AreApart xs
apart_front [] ys h = tt
apart_front (x ∷ xs) ys h = (λ k i. h.0 k (Contains-append_left xs ys k i), apart_front xs ys h.1)

apart_push : (xs : List Mark) (m : Mark) → AreApart xs → ((k : Mark) → Contains xs k → k.lit.var ≢ m.lit.var) → AreApart (xs ++ m ∷ [])
apart_push [] m h n = (λ k i. absurd (contains_nothing k i), tt)
apart_push (x ∷ xs) m h n = (
  λ k i. elim (Contains-push_cases xs m k i) [
    | inl q ↦ h.0 k q
    | inr q ↦ subst (λ (t : Mark). x.lit.var ≢ t.lit.var) q (n x (contains_head x xs))
  ],
  apart_push xs m h.1 (λ k i. n k (contains_tail x xs k i)),
)

-- what a run keeps

pub record IsKept (n : ℕ) (clauses : List (List Lit)) (s : State) : Type 0 where
  pub within : AllWithinVars n (known clauses s)
  pub sound : (v : ℕ → Bool) → IsModel v clauses → IsModel v (known clauses s)
  pub justified : AreJustified n clauses [] s.marks
  pub apart : AreApart s.marks
  pub vars : (m : Mark) → Contains s.marks m → (0 < m.lit.var) × (m.lit.var ≤ n)

pub kept_start : (n : ℕ) (clauses : List (List Lit)) → AreWithin n clauses → IsKept n clauses start
kept_start n clauses h = record {
  within = rw append-nil (within_from n clauses h);
  sound = λ v m. rw append-nil m;
  justified = tt;
  apart = tt;
  vars = λ m i. absurd (contains_nothing m i);
}

-- an unset literal's variable stands in no mark
unset_var : (ms : List Mark) (x : ℕ) → ¬ IsSetVar ms x → (m : Mark) → Contains ms m → m.lit.var ≢ x
unset_var ms x u m i e = u (m.lit.positive, subst (λ t. IsSet ms (literal t m.lit.positive)) e (set_from_mark ms m i))

pub unset_from_literal : (ms : List Mark) (l : Lit) → IsUnset ms l → ¬ IsSetVar ms l.var
unset_from_literal ms l u (sign, i) = elim (same_or_turned sign l.positive) [
  | inl e ↦ u.0 (subst (λ s. IsSet ms (literal l.var s)) e i)
  | inr e ↦ u.1 (subst (λ s. IsSet ms (literal l.var s)) e i)
]

kept_mark : (n : ℕ) (clauses : List (List Lit)) (s : State) (m : Mark) (steps : ℕ) → IsKept n clauses s → ¬ IsSetVar s.marks m.lit.var → (0 < m.lit.var) × (m.lit.var ≤ n) → IsJustified n clauses s.marks m → IsKept n clauses (record { lines = s.lines; marks = s.marks ++ m ∷ []; steps = steps })
kept_mark n clauses s m steps k u w j = record {
  within = k.within;
  sound = k.sound;
  justified = justified_push n clauses [] s.marks m k.justified j;
  apart = apart_push s.marks m k.apart (unset_var s.marks m.lit.var u);
  vars = λ t i. elim (Contains-push_cases s.marks m t i) [
    | inl q ↦ k.vars t q
    | inr q ↦ subst (λ (r : Mark). (0 < r.lit.var) × (r.lit.var ≤ n)) q w
  ];
}

pub kept_decided : (n : ℕ) (clauses : List (List Lit)) (s t : State) → IsKept n clauses s → Decides n clauses s t → IsKept n clauses t
kept_decided n clauses s t k d =
    subst (IsKept n clauses) (sym d.after) (kept_mark n clauses s _ _ k d.first.unset (d.first.low, d.first.high)
    (record { negative = λ e. refl; lower = λ e. d.first.first; implied = λ e. absurd (differ e) }))

-- a literal that is held and one that is false have their values
pub held_value : (v : ℕ → Bool) (l : Lit) → v l.var ≡ l.positive → value_of v l ≡ true
held_value v l e = held_at (v l.var) l.positive e

pub value_held : (v : ℕ → Bool) (l : Lit) → value_of v l ≡ true → v l.var ≡ l.positive
value_held v l e = at_held (v l.var) l.positive e

pub false_value : (v : ℕ → Bool) (l : Lit) → v l.var ≡ not l.positive → value_of v l ≡ true → ⊥
false_value v l e f = not_itself l.positive (sym (value_held v l f) ∙ e)

pub kept_propagated : (n : ℕ) (clauses : List (List Lit)) (s t : State) → IsKept n clauses s → Propagates clauses s t → IsKept n clauses t
kept_propagated n clauses s t k p =
    subst (IsKept n clauses) (sym p.after) (kept_mark n clauses s _ _ k (unset_from_literal s.marks p.lit p.forced.unset) (k.within p.clause p.among p.lit p.forced.inside)
    (record {
      negative = λ e. absurd (differ (sym e));
      lower = λ e. absurd (differ (sym e));
      implied = λ e v m h.
          let true_one = k.sound v m p.clause p.among in
          elim (cases_literal true_one.0 p.lit) [
            | inl q ↦ value_held v p.lit (subst (λ (l : Lit). value_of v l ≡ true) q true_one.2)
            | inr q ↦ absurd (false_value v true_one.0 (h (negated true_one.0) (p.forced.others true_one.0 true_one.1 q)) true_one.2)
          ];
    }))

pub known_push : (clauses : List (List Lit)) (lines : List DerivationLine) (line : DerivationLine) → clauses ++ results (lines ++ line ∷ []) ≡ (clauses ++ results lines) ++ line.result ∷ []
known_push clauses lines line =
    ap (λ t. clauses ++ t) (map-append (λ (x : DerivationLine). x.result) lines (line ∷ [])) ∙ sym (append_assoc clauses (results lines) (line.result ∷ []))

pub kept_jumped : (n : ℕ) (clauses : List (List Lit)) (s t : State) → IsKept n clauses s → Jumps clauses s t → IsKept n clauses t
kept_jumped n clauses s t k j =
    subst (IsKept n clauses) (sym j.after) (record {
      within = rw (known_push clauses s.lines j.line) (λ c i. elim (Contains-push_cases (known clauses s) j.line.result c i) [
        | inl q ↦ k.within c q
        | inr q ↦ subst (Within n) q (gives_within n (known clauses s) j.line.chain j.line.result k.within j.derived)
      ]);
      sound = λ v m. rw (known_push clauses s.lines j.line) (model_push v (known clauses s) j.line.result (k.sound v m) (gives_sound v (known clauses s) j.line.chain j.line.result (k.sound v m) j.derived));
      justified = justified_front n clauses [] j.kept (j.cut ∷ j.gone) (subst (AreJustified n clauses []) j.split k.justified);
      apart = apart_front j.kept (j.cut ∷ j.gone) (subst AreApart j.split k.apart);
      vars = λ m i. k.vars m (rw j.split (Contains-append_left j.kept (j.cut ∷ j.gone) m i));
    })

pub kept_moved : (n : ℕ) (clauses : List (List Lit)) (s t : State) → IsKept n clauses s → Moves n clauses s t → IsKept n clauses t
kept_moved n clauses s t k (inl (inl d)) = kept_decided n clauses s t k d
kept_moved n clauses s t k (inl (inr p)) = kept_propagated n clauses s t k p
kept_moved n clauses s t k (inr j) = kept_jumped n clauses s t k j

pub kept_run : (n : ℕ) (clauses : List (List Lit)) (k : ℕ) (s : State) → AreWithin n clauses → RunsTo n clauses k s → IsKept n clauses s
kept_run n clauses zero s h r = subst (IsKept n clauses) (sym r) (kept_start n clauses h)
kept_run n clauses (suc k) s h (before, r, m) = kept_moved n clauses before s (kept_run n clauses k before h r) m
