-- What a decision needs and gives.
use Rattle.std.proofs.Common.{◌≡◌, ℕ, ◌+◌, ◌<◌, ◌≤◌, true, false, List, length, get_or, take, refl, arith}
use Rattle.std.proofs.lemmas.List.{length-take-le}
use Rattle.ut_logic.specs.declared.literals.Lit.{Lit}
use Rattle.log_check.specs.declared.derivations.DerivationLine.{DerivationLine}
use Rattle.ut_logic.specs.Clauses.{literal}
use Rattle.sat_log.specs.declared.marks.Mark.{Mark}
use Rattle.sat_log.specs.declared.values.Value.{Value}
use Rattle.sat_log.specs.declared.values.Value.TheVariants.{Unset}
use Rattle.sat_log.specs.Moves.{State, known, IsQuiet, Decides, with_mark}
use Rattle.sat_log.specs.Inner.{AreTrail}
use Rattle.sat_log.proofs.RunLemmas.{kept_run}
use Rattle.sat_log.proofs.Bound.{room_decided}
use Rattle.sat_log.proofs.Places.{first_unset_var}

module _ (n : ℕ) (clauses : List (List Lit)) (lines : List DerivationLine) (marks : List Mark) (reasons : List ℕ) (count low : ℕ) (values : List Value) (steps : ℕ) (a : AreTrail n clauses lines marks reasons count low values steps) where
  abbrev pub at : State
  at = record { lines = lines; marks = take count marks; steps = steps }

  pub decides : (p : ℕ) → IsQuiet (known clauses at) (take count marks) → p < length values → get_or values p Unset ≡ Unset → ((k : ℕ) → k < p → ¬ (get_or values k Unset ≡ Unset)) → Decides n clauses at (with_mark at (literal (p + 1) false) true)
  decides p q h u b = record {
    quiet = q;
    var = p + 1;
    first = first_unset_var n (take count marks) values p a.told h u b;
    after = refl;
  }

  pub room : (t : State) → Decides n clauses at t → count + 1 ≤ n
  room t d =
      let few : length (take count marks) + 1 ≤ n = room_decided n clauses at t (kept_run n clauses a.reached.0 at a.within a.reached.1) d in
      let len : length (take count marks) ≡ count = length-take-le count marks (omega (arith, a.room, a.count)) in
      omega arith

  pub room_marks : (t : State) → Decides n clauses at t → count < length marks
  room_marks t d = omega (arith, a.room, room t d)
