-- Resolvents of ordered clauses are unique, and what makes both clauses true makes them true.
use mathlib.Core.Bool.{beq}
use Rattle.std.proofs.Common.{Decides, eqb, ◌&&◌}
use Rattle.std.proofs.Common.{◌≡◌, ◌≢◌, ℕ, zero, suc, ◌<◌, Bool, true, false, not, List, [], ◌∷◌, Option, Some, None, ◌⊎◌, inl, inr, refl, sym, ap, ◌∙◌, subst, arith}
use Rattle.std.specs.Prelude.{Contains, MatchOption, get_or}
use Rattle.std.proofs.lemmas.List.{get_or_default}
use Rattle.std.proofs.lemmas.List.Elements.{All-contains, Contains-append_right}
use Rattle.ut_logic.specs.declared.literals.Lit.{Lit}
use Rattle.ut_logic.specs.Clauses.{literal, value_of, Satisfies, IsOrdered, CountFromOne, IsClause}
use Rattle.log_check.specs.Resolution.{IsResolvent, HasNoResolvent}
use Rattle.std.proofs.lemmas.Bool.{cases_eq, and_parts, and_from, eqb-true, eq-eqb}
use Rattle.log_check.proofs.Merging.{one_literal, not_itself, literal_same}

pub contains_head : {X : Type 0} (x : X) (xs : List X) → Contains (x ∷ xs) x
contains_head x xs = (0, omega arith, refl)

pub contains_tail : {X : Type 0} (x : X) (xs : List X) (l : X) → Contains xs l → Contains (x ∷ xs) l
contains_tail x xs l h = Contains-append_right (x ∷ []) xs l h

pub contains_cases : {X : Type 0} (x : X) (xs : List X) (l : X) → Contains (x ∷ xs) l → (x ≡ l) ⊎ Contains xs l
contains_cases x xs l (zero, h, e) = inl e
contains_cases x xs l (suc k, h, e) = inr (k, omega arith, e)

pub contains_nothing : {X : Type 0} (l : X) → Contains [] l → ⊥
contains_nothing l h = omega (arith, h.1)

ordered_head : (x : Lit) (xs : List Lit) (l : Lit) → IsOrdered (x ∷ xs) → Contains xs l → x.var < l.var
ordered_head x xs l o h = subst (λ (y : Lit). x.var < y.var) h.2 (o 0 (suc h.0) l (omega arith) (omega (arith, h.1)))

ordered_tail : (x : Lit) (xs : List Lit) → IsOrdered (x ∷ xs) → IsOrdered xs
ordered_tail x xs o i j d h k = o (suc i) (suc j) d (omega arith) (omega arith)

-- ordered lists of the same literals are one
pub same_ordered : (r s : List Lit) → IsOrdered r → IsOrdered s → ((l : Lit) → Contains r l → Contains s l) → ((l : Lit) → Contains s l → Contains r l) → r ≡ s
same_ordered [] [] o q f g = refl
same_ordered [] (y ∷ ys) o q f g = absurd (contains_nothing y (g y (contains_head y ys)))
same_ordered (x ∷ xs) [] o q f g = absurd (contains_nothing x (f x (contains_head x xs)))
same_ordered (x ∷ xs) (y ∷ ys) o q f g =
    let first : x ≡ y = elim (contains_cases y ys x (f x (contains_head x xs))) [
      | inl e ↦ sym e
      | inr h ↦ elim (contains_cases x xs y (g y (contains_head y ys))) [
        | inl e ↦ e
        | inr k ↦ absurd (omega (arith, ordered_head x xs y o k, ordered_head y ys x q h))
      ]
    ] in
    let rest : xs ≡ ys = same_ordered xs ys (ordered_tail x xs o) (ordered_tail y ys q)
    (λ l h. elim (contains_cases y ys l (f l (contains_tail x xs l h))) [
      | inl e ↦ absurd (omega (arith, ordered_head x xs l o h, ap (λ (z : Lit). z.var) first, ap (λ (z : Lit). z.var) e))
      | inr k ↦ k
    ])
    (λ l h. elim (contains_cases x xs l (g l (contains_tail y ys l h))) [
      | inl e ↦ absurd (omega (arith, ordered_head y ys l q h, ap (λ (z : Lit). z.var) first, ap (λ (z : Lit). z.var) e))
      | inr k ↦ k
    ]) in
    cc

-- where there is a resolvent, nothing stands against one
pub resolvent_excludes : (a b : List Lit) (p : ℕ) (r : List Lit) → IsResolvent a b p r → HasNoResolvent a b p → ⊥
resolvent_excludes a b p r m (inl n) = n (m.sign, m.in_left, m.in_right)
resolvent_excludes a b p r m (inr (x, ne, (s, at, bt))) =
    let here : Contains r (literal x s) = m.left (literal x s) at (λ e. ne (ap (λ (l : Lit). l.var) e)) in
    let there : Contains r (literal x (not s)) = m.right (literal x (not s)) bt (λ e. ne (ap (λ (l : Lit). l.var) e)) in
    not_itself s (ap (λ (l : Lit). l.positive) (one_literal r _ _ m.ordered here there refl))

-- clauses in order have one resolvent at most
pub resolvent_once : (a b : List Lit) (p : ℕ) (r s : List Lit) → IsOrdered a → IsResolvent a b p r → IsResolvent a b p s → r ≡ s
resolvent_once a b p r s oa m n =
    let sign : m.sign ≡ n.sign = ap (λ (l : Lit). l.positive) (one_literal a _ _ oa m.in_left n.in_left refl) in
    same_ordered r s m.ordered n.ordered
    (λ l h. elim (m.sound l h) [
      | inl q ↦ n.left l q.0 (λ e. q.1 (rw sign e))
      | inr q ↦ n.right l q.0 (λ e. q.1 (rw sign e))
    ])
    (λ l h. elim (n.sound l h) [
      | inl q ↦ m.left l q.0 (λ e. q.1 (rw (← sign) e))
      | inr q ↦ m.right l q.0 (λ e. q.1 (rw (← sign) e))
    ])

-- a true literal isn't the negation of a true one
opposite_values : (v : ℕ → Bool) (p : ℕ) (s : Bool) → value_of v (literal p s) ≡ true → value_of v (literal p (not s)) ≡ true → ⊥
opposite_values v p true e f = not_itself (v p) (e ∙ sym f)
opposite_values v p false e f = not_itself (v p) (f ∙ sym e)

same_bool : (s t : Bool) → (s ≡ t) ⊎ (t ≡ not s)
same_bool true true = inl refl
same_bool true false = inr refl
same_bool false true = inr refl
same_bool false false = inl refl

-- a literal is the other, or isn't
pub cases_literal : (l m : Lit) → (l ≡ m) ⊎ (l ≢ m)
cases_literal l m = elim (cases_eq l.var m.var) [
  | inl e ↦ elim (same_bool l.positive m.positive) [
    | inl f ↦ inl (literal_same _ _ _ _ e f)
    | inr f ↦ inr (λ g. not_itself l.positive (ap (λ (x : Lit). x.positive) g ∙ f))
  ]
  | inr n ↦ inr (λ g. n (ap (λ (x : Lit). x.var) g))
]

-- what makes both clauses true makes their resolvent true
pub resolvent_sound : (v : ℕ → Bool) (a b : List Lit) (p : ℕ) (r : List Lit) → IsResolvent a b p r → Satisfies v a → Satisfies v b → Satisfies v r
resolvent_sound v a b p r m (l, at, lt) (k, bt, kt) = elim (cases_literal l (literal p m.sign)) [
  | inr n ↦ (l, m.left l at n, lt)
  | inl e ↦ elim (cases_literal k (literal p (not m.sign))) [
    | inr n ↦ (k, m.right k bt n, kt)
    | inl f ↦ absurd (opposite_values v p m.sign (rw e at lt) (rw f at kt))
  ]
]

-- what resolve found is the one resolvent
pub found_only : (a b : List Lit) (p : ℕ) (found : Option (List Lit)) → IsOrdered a → MatchOption found (HasNoResolvent a b p) (IsResolvent a b p) → (r : List Lit) → IsResolvent a b p r → found ≡ Some r
found_only a b p (Some s) oa m r h = ap Some (resolvent_once a b p s r oa m h)
found_only a b p None oa m r h = absurd (resolvent_excludes a b p r h m)

same_from_beq : (s t : Bool) → beq s t ≡ true → s ≡ t
same_from_beq true true e = refl
same_from_beq true false e = cc
same_from_beq false true e = cc
same_from_beq false false e = refl

beq_same : (s t : Bool) → s ≡ t → beq s t ≡ true
beq_same true true e = refl
beq_same true false e = cc
beq_same false true e = cc
beq_same false false e = refl

-- the derived equality of literals tells them apart
pub literal_decides : (a b : Lit) → Decides (eqb a.var b.var && beq a.positive b.positive) (a ≡ b)
literal_decides a b = (
  λ e. let parts = and_parts (eqb a.var b.var) (beq a.positive b.positive) e in literal_same _ _ _ _ (eqb-true a.var b.var parts.0) (same_from_beq a.positive b.positive parts.1),
  λ e. and_from (eqb a.var b.var) (beq a.positive b.positive) (eq-eqb a.var b.var (ap (λ (l : Lit). l.var) e)) (beq_same a.positive b.positive (ap (λ (l : Lit). l.positive) e)),
)

-- a resolvent of clauses may be a clause: its literals are theirs
pub resolvent_clause : (a b : List Lit) (p : ℕ) (r : List Lit) → CountFromOne a → CountFromOne b → IsResolvent a b p r → IsClause r
resolvent_clause a b p r x y h = record {
  ordered = h.ordered;
  counted = λ i d within. by (get_or r i d) (h.sound (get_or r i d) (i, within, get_or_default r i (get_or r i d) d within));
}
  where
    by : (l : Lit) → (Contains a l × (l ≢ literal p h.sign)) ⊎ (Contains b l × (l ≢ literal p (not h.sign))) → 0 < l.var
    by l (inl (here, differ)) = All-contains (λ (m : Lit). 0 < m.var) a l x here
    by l (inr (here, differ)) = All-contains (λ (m : Lit). 0 < m.var) b l y here
