-- What a propagation needs and gives.
use Rattle.std.proofs.Common.{◌≡◌, ℕ, ◌+◌, ◌-◌, ◌<◌, ◌≤◌, false, not, List, ◌++◌, length, get_or, take, inl, inr, refl, sym, subst, arith}
use Rattle.std.specs.Prelude.{All, Any, Contains}
use Rattle.std.proofs.lemmas.List.{length-take-le, length-append, length-map}
use Rattle.std.proofs.lemmas.List.Elements.{Contains-get_or}
use Rattle.ut_logic.specs.declared.literals.Lit.{Lit}
use Rattle.log_check.specs.declared.derivations.DerivationLine.{DerivationLine}
use Rattle.log_check.specs.Derivations.{IsNumbered, results}
use Rattle.log_check.proofs.Resolvents.{cases_literal}
use Rattle.sat_log.specs.declared.marks.Mark.{Mark}
use Rattle.sat_log.specs.declared.values.Value.{Value}
use Rattle.sat_log.specs.declared.values.Value.TheVariants.{Unset}
use Rattle.sat_log.specs.Moves.{State, IsFalse, IsSetVar, Forces, Propagates, known, with_mark}
use Rattle.sat_log.specs.Trails.{Sets}
use Rattle.sat_log.specs.Inner.{AreTrail, IsReason}
use Rattle.sat_log.proofs.RunLemmas.{IsKept, kept_run, Within, unset_from_literal}
use Rattle.sat_log.proofs.Bound.{room_forced}
use Rattle.sat_log.proofs.Places.{tells_unset, unset_of_place}

-- a false literal's variable is set
false_sign : (ms : List Mark) (x : Lit) → IsFalse ms x → IsSetVar ms x.var
false_sign ms x f = (not x.positive, f)

module _ (n : ℕ) (clauses : List (List Lit)) (lines : List DerivationLine) (marks : List Mark) (reasons : List ℕ) (count low : ℕ) (values : List Value) (steps : ℕ) (a : AreTrail n clauses lines marks reasons count low values steps) (number : ℕ) (c : List Lit) (num : IsNumbered (clauses ++ results lines) number c) where
  abbrev pub at : State
  at = record { lines = lines; marks = take count marks; steps = steps }

  kept : IsKept n clauses at
  kept = kept_run n clauses a.reached.0 at a.within a.reached.1

  among : Contains (known clauses at) c
  among = (number - 1, omega (arith, num.0, num.1), num.2)

  within : Within n c
  within = kept.within c among

  pub number_in : number ≤ length clauses + length lines
  number_in = omega (arith, num.1, length-append clauses (results lines), length-map lines (λ (x : DerivationLine). x.result))

  pub lits_within : All (λ (l : Lit). (0 < l.var) × (l.var ≤ length values)) c
  lits_within = λ k d h. let w = within (get_or c k d) (Contains-get_or c k d h) in (w.0, omega (arith, w.1, a.told.0))

  module _ (l : Lit) (f : Forces (take count marks) c l) where
    pub some_unset : Any (λ (x : Lit). get_or values (x.var - 1) Unset ≡ Unset) c
    some_unset =
        let w = within l f.inside in
        let e : l.var - 1 + 1 ≡ l.var = omega (arith, w.0) in
        let tell = a.told.1 (l.var - 1) Unset (omega (arith, w.0, w.1)) in
        let u : ¬ IsSetVar (take count marks) (l.var - 1 + 1) = subst (λ t. ¬ IsSetVar (take count marks) t) (sym e) (unset_from_literal (take count marks) l f.unset) in
        (f.inside.0, l, f.inside.1, f.inside.2, tells_unset (take count marks) (l.var - 1 + 1) (get_or values (l.var - 1) Unset) tell u)

    pub room : count + 1 ≤ n
    room =
        let len : length (take count marks) ≡ count = length-take-le count marks (omega (arith, a.room, a.count)) in
        let r : length (take count marks) + 1 ≤ n = room_forced n clauses at c kept among (l, f) in
        omega arith

    -- the literal without a value is the forced one
    pub same_literal : (x : Lit) → Contains c x → get_or values (x.var - 1) Unset ≡ Unset → l ≡ x
    same_literal x i u = elim (cases_literal x l) [
      | inl e ↦ sym e
      | inr d ↦
          let w = within x i in
          absurd (unset_of_place n (take count marks) values x.var a.told w.0 w.1 u (false_sign (take count marks) x (f.others x i d)))
    ]

    pub propagates : Propagates clauses at (with_mark at l false)
    propagates = record { clause = c; among = among; lit = l; forced = f; after = refl }

    pub sets : Sets clauses number at (with_mark at l false)
    sets = (c, l, num, f, refl)

    pub reason : (e : List Lit) × IsNumbered (clauses ++ results lines) number e × IsReason (take count marks) l e
    reason = (c, num, record { inside = f.inside; others = f.others })

    pub range : (0 < l.var) × (l.var ≤ n)
    range = within l f.inside
