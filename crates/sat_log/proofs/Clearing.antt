-- Taking the values of cut marks away.
use Rattle.std.proofs.Common.{◌≡◌, ◌≢◌, ℕ, ◌+◌, ◌-◌, ◌<◌, ◌≤◌, true, false, List, [], ◌∷◌, ◌++◌, length, get_or, set, take, drop, ◌⊎◌, inl, inr, sym, ap, ◌∙◌, subst, arith}
use Rattle.std.specs.Prelude.{Contains}
use Rattle.std.proofs.lemmas.List.{get_or-set_same, get_or-set_other, length-set, take-append-drop, drop_more, drop_all, append-nil}
use Rattle.std.proofs.lemmas.List.Elements.{Contains-append_left, Contains-append_right, Contains-append_cases}
use Rattle.std.proofs.lemmas.Bool.{cases_eq}
use Rattle.ut_logic.specs.declared.literals.Lit.{Lit}
use Rattle.ut_logic.specs.Clauses.{literal}
use Rattle.log_check.proofs.Resolvents.{contains_head, contains_tail, contains_cases}
use Rattle.sat_log.specs.declared.marks.Mark.{Mark}
use Rattle.sat_log.specs.declared.values.Value.{Value}
use Rattle.sat_log.specs.declared.values.Value.TheVariants.{Unset, True, False}
use Rattle.sat_log.specs.Moves.{set_literals, IsSet, IsSetVar}
use Rattle.sat_log.specs.Inner.{Tells, AreValues, AreApart}
use Rattle.sat_log.proofs.RunLemmas.{set_append}
use Rattle.sat_log.proofs.Settled.{mark_of}
use Rattle.sat_log.proofs.Back.{apart_split}

-- a mark out of the middle leaves the rest apart
apart_without : (xs : List Mark) (m : Mark) (ys : List Mark) → AreApart (xs ++ m ∷ ys) → AreApart (xs ++ ys)
apart_without [] m ys a = a.1
apart_without (x ∷ xs) m ys a = (λ k i. a.0 k (more k (Contains-append_cases xs ys k i)), apart_without xs m ys a.1)
  where
    more : (k : Mark) → Contains xs k ⊎ Contains ys k → Contains (xs ++ m ∷ ys) k
    more k (inl q) = Contains-append_left xs (m ∷ ys) k q
    more k (inr q) = Contains-append_right xs (m ∷ ys) k (contains_tail m ys k q)

apart_back : (xs zs : List Mark) → AreApart (xs ++ zs) → AreApart zs
apart_back [] zs a = a
apart_back (x ∷ xs) zs a = apart_back xs zs a.1

set_more : (xs : List Mark) (m : Mark) (ys : List Mark) (l : Lit) → IsSet (xs ++ ys) l → IsSet (xs ++ m ∷ ys) l
set_more xs m ys l i = rw (set_append xs (m ∷ ys)) (elim (Contains-append_cases (set_literals xs) (set_literals ys) l (rw (set_append xs ys) at i)) [
  | inl q ↦ Contains-append_left (set_literals xs) (set_literals (m ∷ ys)) l q
  | inr q ↦ Contains-append_right (set_literals xs) (set_literals (m ∷ ys)) l (contains_tail m.lit (set_literals ys) l q)
])

set_less : (xs : List Mark) (m : Mark) (ys : List Mark) (l : Lit) → m.lit.var ≢ l.var → IsSet (xs ++ m ∷ ys) l → IsSet (xs ++ ys) l
set_less xs m ys l n i = rw (set_append xs ys) (elim (Contains-append_cases (set_literals xs) (set_literals (m ∷ ys)) l (rw (set_append xs (m ∷ ys)) at i)) [
  | inl q ↦ Contains-append_left (set_literals xs) (set_literals ys) l q
  | inr q ↦ elim (contains_cases m.lit (set_literals ys) l q) [
    | inl e ↦ absurd (n (ap (λ (t : Lit). t.var) e))
    | inr j ↦ Contains-append_right (set_literals xs) (set_literals ys) l j
  ]
])

tells_without : (xs : List Mark) (m : Mark) (ys : List Mark) (x : ℕ) (v : Value) → m.lit.var ≢ x → Tells (xs ++ m ∷ ys) x v → Tells (xs ++ ys) x v
tells_without xs m ys x Unset n t = λ s. t (s.0, set_more xs m ys (literal x s.0) s.1)
tells_without xs m ys x True n t = set_less xs m ys (literal x true) n t
tells_without xs m ys x False n t = set_less xs m ys (literal x false) n t

-- no other mark sets the variable
var_gone : (xs : List Mark) (m : Mark) (ys : List Mark) → AreApart (xs ++ m ∷ ys) → ¬ IsSetVar (xs ++ ys) m.lit.var
var_gone xs m ys a (s, i) =
    let k = mark_of (xs ++ ys) (literal m.lit.var s) i in
    elim (Contains-append_cases xs ys k.0 k.1) [
      | inl q ↦ apart_split xs (m ∷ ys) k.0 m a q (contains_head m ys) (ap (λ (t : Lit). t.var) k.2)
      | inr q ↦ (apart_back xs (m ∷ ys) a).0 k.0 q (sym (ap (λ (t : Lit). t.var) k.2))
    ]

values_without : (n : ℕ) (xs : List Mark) (m : Mark) (ys : List Mark) (values : List Value) → 0 < m.lit.var → m.lit.var ≤ n → AreApart (xs ++ m ∷ ys) → AreValues n (xs ++ m ∷ ys) values → AreValues n (xs ++ ys) (set values (m.lit.var - 1) Unset)
values_without n xs m ys values low high a (len, tell) =
    let k : ℕ = m.lit.var - 1 in (
      length-set values k Unset ∙ len,
      λ j d h. elim (cases_eq j k) [
        | inl e ↦
            let var : m.lit.var ≡ j + 1 = omega arith in
            let in_range : k < length values = omega arith in
            let here : get_or (set values k Unset) j d ≡ Unset = ap (λ t. get_or (set values k Unset) t d) e ∙ get_or-set_same values k Unset d in_range in
            subst (Tells (xs ++ ys) (j + 1)) (sym here) (subst (λ t. ¬ IsSetVar (xs ++ ys) t) var (var_gone xs m ys a))
        | inr n2 ↦
            let other : m.lit.var ≢ j + 1 = λ e. n2 (omega arith) in
            subst (Tells (xs ++ ys) (j + 1)) (sym (get_or-set_other values k j Unset d n2)) (tells_without xs m ys (j + 1) (get_or values j d) other (tell j d h))
      ],
    )

-- the loop: the marks from a place up to i are cleared

abbrev pub AreCleared : ℕ → List Mark → ℕ → ℕ → List Value → Type 0
AreCleared n ms from i values = AreApart (take from ms ++ drop i ms) × AreValues n (take from ms ++ drop i ms) values

pub cleared_none : (n : ℕ) (ms : List Mark) (from : ℕ) (values : List Value) → AreApart ms → AreValues n ms values → AreCleared n ms from from values
cleared_none n ms from values a v = rw (take-append-drop from ms) (a, v)

pub cleared_more : (n : ℕ) (ms : List Mark) (from i : ℕ) (d : Mark) (values : List Value) → i < length ms → 0 < (get_or ms i d).lit.var → (get_or ms i d).lit.var ≤ n → AreCleared n ms from i values → AreCleared n ms from (i + 1) (set values ((get_or ms i d).lit.var - 1) Unset)
cleared_more n ms from i d values h low high c =
    let parts = rw (drop_more ms i d h) at c in (
      apart_without (take from ms) (get_or ms i d) (drop (i + 1) ms) parts.0,
      values_without n (take from ms) (get_or ms i d) (drop (i + 1) ms) values low high parts.0 parts.1,
    )

pub cleared_all : (n : ℕ) (ms : List Mark) (from i : ℕ) (values : List Value) → length ms ≤ i → AreCleared n ms from i values → AreValues n (take from ms) values
cleared_all n ms from i values h c = rw (drop_all i ms h, append-nil) at c.1
