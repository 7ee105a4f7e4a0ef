-- A run that is at a model holds the least model.
use Rattle.std.proofs.Common.{◌≡◌, ℕ, ◌<◌, ◌≤◌, Bool, true, false, not, List, [], ◌∷◌, ◌++◌, ◌⊎◌, inl, inr, sym, ap, ◌∙◌, subst}
use Rattle.std.specs.Prelude.{Contains}
use Rattle.std.proofs.lemmas.List.{append_assoc, append-nil}
use Rattle.std.proofs.lemmas.List.Elements.{Contains-append_left, Contains-append_right, Contains-append_cases}
use Rattle.log_check.proofs.Merging.{not_itself}
use Rattle.ut_logic.specs.declared.literals.Lit.{Lit}
use Rattle.ut_logic.specs.Clauses.{literal, Satisfies, IsModel, AreWithin}
use Rattle.log_check.proofs.Resolvents.{contains_head, contains_tail, contains_cases, contains_nothing}
use Rattle.sat_log.specs.declared.marks.Mark.{Mark}
use Rattle.sat_log.specs.Moves.{State, set_literals, IsSet, IsFalse, IsSetVar, IsFalseClause}
use Rattle.sat_log.specs.Runs.{IsReached, IsAtModel}
use Rattle.sat_log.specs.LeastModel.{IsHeldBy, IsBefore, IsLeastModel}
use Rattle.sat_log.proofs.RunLemmas.{kept_run, AreJustified, Within, within_from, held_value, set_append, set_from_mark, set_left, same_or_turned}

-- a clause over set variables has a true literal, or each of its literals is false
true_or_false : (n : ℕ) (ms : List Mark) (v : ℕ → Bool) (c : List Lit) → IsHeldBy ms v → ((x : ℕ) → 0 < x → x ≤ n → IsSetVar ms x) → Within n c → Satisfies v c ⊎ IsFalseClause ms c
true_or_false n ms v [] h all w = inr (λ l i. absurd (contains_nothing l i))
true_or_false n ms v (x ∷ xs) h all w =
    let here = all x.var (w x (contains_head x xs)).0 (w x (contains_head x xs)).1 in
    elim (same_or_turned here.0 x.positive) [
      | inl e ↦ inl (x, contains_head x xs, held_value v x (h x (subst (λ s. IsSet ms (literal x.var s)) e here.1)))
      | inr e ↦ elim (true_or_false n ms v xs h all (λ l i. w l (contains_tail x xs l i))) [
        | inl q ↦ inl (q.0, contains_tail x xs q.0 q.1, q.2)
        | inr q ↦ inr (λ l i. elim (contains_cases x xs l i) [
          | inl f ↦ subst (IsFalse ms) f (subst (λ s. IsSet ms (literal x.var s)) e here.1)
          | inr j ↦ q l j
        ])
      ]
    ]

at_model : (n : ℕ) (clauses : List (List Lit)) (s : State) (v : ℕ → Bool) → AreWithin n clauses → IsAtModel n clauses s → IsHeldBy s.marks v → IsModel v clauses
at_model n clauses s v w m h c i = elim (true_or_false n s.marks v c h m.all_set (within_from n clauses w c i)) [
  | inl q ↦ q
  | inr q ↦ absurd (m.none_false c (Contains-append_left clauses _ c i) q)
]

held_push : (xs : List Mark) (m : Mark) (v : ℕ → Bool) → IsHeldBy xs v → v m.lit.var ≡ m.lit.positive → IsHeldBy (xs ++ m ∷ []) v
held_push xs m v h e l i = elim (Contains-append_cases (set_literals xs) (m.lit ∷ []) l (rw set_append at i)) [
  | inl q ↦ h l q
  | inr q ↦ elim (contains_cases m.lit [] l q) [
    | inl f ↦ subst (λ (t : Lit). v t.var ≡ t.positive) f e
    | inr j ↦ absurd (contains_nothing l j)
  ]
]

turned_differs : (a b : Bool) → a ≡ b → a ≡ not b → ⊥
turned_differs a b e f = not_itself b (sym e ∙ f)

stands : (before : List Mark) (m : Mark) (ms : List Mark) → Contains (before ++ m ∷ ms) m
stands before m ms = Contains-append_right before (m ∷ ms) m (contains_head m ms)

-- w holds each mark, or the first that it doesn't hold is decided, and w comes after v
held_or_after : (n : ℕ) (clauses : List (List Lit)) (before ms : List Mark) (v w : ℕ → Bool) → AreJustified n clauses before ms → IsHeldBy (before ++ ms) v → ((m : Mark) → Contains ms m → (0 < m.lit.var) × (m.lit.var ≤ n)) → IsModel w clauses → IsHeldBy before w → IsHeldBy (before ++ ms) w ⊎ IsBefore n v w
held_or_after n clauses before [] v w j hv r mw hw = inl (rw append-nil hw)
held_or_after n clauses before (m ∷ ms) v w j hv r mw hw =
    let regrouped : (before ++ m ∷ []) ++ ms ≡ before ++ m ∷ ms = append_assoc before (m ∷ []) ms in
    elim (same_or_turned (w m.lit.var) m.lit.positive) [
      | inl e ↦ subst (λ t. IsHeldBy t w ⊎ IsBefore n v w) regrouped
          (held_or_after n clauses (before ++ m ∷ []) ms v w j.1 (subst (λ t. IsHeldBy t v) (sym regrouped) hv) (λ k i. r k (contains_tail m ms k i)) mw (held_push before m w hw e))
      | inr e ↦ elim (same_or_turned m.decided true) [
        | inr forced ↦ absurd (turned_differs (w m.lit.var) m.lit.positive (j.0.implied forced w mw hw) e)
        | inl decided ↦
            let negative : m.lit.positive ≡ false = j.0.negative decided in
            let of_v : v m.lit.var ≡ false = hv m.lit (set_from_mark (before ++ m ∷ ms) m (stands before m ms)) ∙ negative in
            let of_w : w m.lit.var ≡ true = e ∙ ap not negative in
            inr (
              m.lit.var,
              (r m (contains_head m ms)).0,
              (r m (contains_head m ms)).1,
              of_v,
              of_w,
              λ y low high.
                  let set_y = j.0.lower decided y low high in
                  hv (literal y set_y.0) (set_left before (m ∷ ms) (literal y set_y.0) set_y.1) ∙ sym (hw (literal y set_y.0) set_y.1),
            )
      ]
    ]

pub least_at_model : (n : ℕ) (clauses : List (List Lit)) (s : State) (v : ℕ → Bool) → AreWithin n clauses → IsReached n clauses s → IsAtModel n clauses s → IsHeldBy s.marks v → IsLeastModel n clauses v
least_at_model n clauses s v w (k, run) m h =
    let kept = kept_run n clauses k s w run in
    record {
      model = at_model n clauses s v w m h;
      least = λ u mu. elim (held_or_after n clauses [] s.marks v u kept.justified h kept.vars mu (λ l i. absurd (contains_nothing l i))) [
        | inl q ↦ inl (λ x low high. let set_x = m.all_set x low high in h (literal x set_x.0) set_x.1 ∙ sym (q (literal x set_x.0) set_x.1))
        | inr q ↦ inr q
      ];
    }
