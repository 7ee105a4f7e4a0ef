-- Whether a clause forces a literal, by its places.
use Rattle.std.proofs.Common.{◌≡◌, ◌≢◌, ℕ, ◌+◌, ◌<◌, ◌≤◌, Bool, true, false, List, length, get_or, take, inl, inr, sym, ap, ◌∙◌, subst, arith}
use Rattle.std.specs.Prelude.{All, ◌↔◌}
use Rattle.std.proofs.lemmas.List.{get_or_default, take_all}
use Rattle.std.proofs.lemmas.List.Elements.{Contains-get_or, All-contains}
use Rattle.std.proofs.lemmas.Bool.{cases_order}
use Rattle.ut_logic.specs.declared.literals.Lit.{Lit}
use Rattle.ut_logic.specs.Clauses.{IsOrdered}
use Rattle.log_check.proofs.Resolvents.{cases_literal}
use Rattle.sat_log.specs.declared.marks.Mark.{Mark}
use Rattle.sat_log.specs.Moves.{IsSet, IsFalse, Forces, IsForcing}
use Rattle.sat_log.proofs.RunLemmas.{set_from_mark, differ}
use Rattle.sat_log.proofs.Settled.{mark_of}

-- no mark has the literal
pub not_set : (ms : List Mark) (i : ℕ) (l : Lit) → length ms ≤ i → All (λ (m : Mark). m.lit ≢ l) (take i ms) → ¬ IsSet ms l
not_set ms i l h all s =
    let m = mark_of ms l s in
    All-contains (λ (m : Mark). m.lit ≢ l) ms m.0 (subst (All (λ (m : Mark). m.lit ≢ l)) (take_all i ms h) all) m.1 m.2

pub set_at : (ms : List Mark) (i : ℕ) (d : Mark) (l : Lit) → i < length ms → (get_or ms i d).lit ≡ l → IsSet ms l
set_at ms i d l h e = subst (IsSet ms) e (set_from_mark ms (get_or ms i d) (Contains-get_or ms i d h))

abbrev pub AreFalseFrom : List Mark → List Lit → ℕ → Type 0
AreFalseFrom ms c i = (k : ℕ) (d : Lit) → i ≤ k → k < length c → IsFalse ms (get_or c k d)

abbrev pub AreFalseBelow : List Mark → List Lit → ℕ → Type 0
AreFalseBelow ms c i = (k : ℕ) (d : Lit) → k < i → IsFalse ms (get_or c k d)

-- all are false
pub none_forced : (ms : List Mark) (c : List Lit) → AreFalseBelow ms c (length c) → ¬ IsForcing ms c
none_forced ms c all (l, f) = f.unset.1 (subst (IsFalse ms) f.inside.2 (all f.inside.0 l f.inside.1))

module _ (ms : List Mark) (c : List Lit) (i : ℕ) (d : Lit) (o : IsOrdered c) (h : i < length c) (below : AreFalseBelow ms c i) (here : ¬ IsFalse ms (get_or c i d)) where
  -- only the first literal that isn't false can be forced
  first_one : (l : Lit) → Forces ms c l → get_or c i d ≡ l
  first_one l f = elim (cases_literal (get_or c i d) l) [
    | inl e ↦ e
    | inr n ↦ absurd (here (f.others (get_or c i d) (Contains-get_or c i d h) n))
  ]

  pub true_not_forced : IsSet ms (get_or c i d) → ¬ IsForcing ms c
  true_not_forced s (l, f) = f.unset.0 (subst (IsSet ms) (first_one l f) s)

  pub forced_iff : ¬ IsSet ms (get_or c i d) → AreFalseFrom ms c (i + 1) ↔ IsForcing ms c
  forced_iff unset = (
    λ rest. (
      get_or c i d,
      record {
        inside = Contains-get_or c i d h;
        unset = (unset, here);
        others = λ k j n. elim (cases_order j.0 i) [
          | inl e ↦ absurd (n (sym j.2 ∙ ap (λ t. get_or c t k) e ∙ get_or_default c i k d h))
          | inr q ↦ elim q [
            | inl low ↦ subst (IsFalse ms) j.2 (below j.0 k low)
            | inr high ↦ subst (IsFalse ms) j.2 (rest j.0 k (omega arith) j.1)
          ]
        ];
      },
    ),
    λ (l, f) k e low high.
        f.others (get_or c k e) (Contains-get_or c k e high) (λ same.
        let one : get_or c i d ≡ l = first_one l f in
        let var : (get_or c i d).var ≡ (get_or c k e).var = ap (λ (x : Lit). x.var) (one ∙ sym same) in
        let lt : (get_or c i e).var < (get_or c k e).var = o i k e (omega arith) high in
        let at : (get_or c i e).var ≡ (get_or c i d).var = ap (λ (x : Lit). x.var) (get_or_default c i e d h) in
        omega arith),
  )

-- a test that answered false, where the fact fails
pub no_side : (P : Type 0) → ¬ P → (false ≡ true) ↔ P
no_side P n = (λ e. absurd (differ (sym e)), λ p. absurd (n p))

-- one literal more is false
pub false_more : (ms : List Mark) (c : List Lit) (i k : ℕ) (d e : Lit) → i < length c → IsFalse ms (get_or c i d) → k ≡ i → IsFalse ms (get_or c k e)
false_more ms c i k d e h f at = subst (IsFalse ms) (get_or_default c i d e h ∙ ap (λ t. get_or c t e) (sym at)) f

-- a test that failed, where the fact is so at every place
pub test_failed : (ms : List Mark) (c : List Lit) (from i : ℕ) (d : Lit) (r : Bool) → from ≤ i → i < length c → (r ≡ true) ↔ IsFalse ms (get_or c i d) → r ≡ false → ¬ AreFalseFrom ms c from
test_failed ms c from i d r low high says f all = differ (sym (says.1 (all i d low high)) ∙ f)
