-- A turn of the search moves the trail, and leaves less work.
use Rattle.std.proofs.Common.{◌≡◌, ◌≢◌, ℕ, suc, ◌+◌, ◌-◌, ◌<◌, ◌≤◌, List, [], ◌∷◌, length, inl, inr, refl, ap, ◌∙◌, subst, arith}
use Rattle.std.specs.Prelude.{Contains, Option, Some, None, IfNone}
use Rattle.std.proofs.lemmas.List.{length-append, length_push}
use Rattle.ut_logic.specs.declared.literals.Lit.{Lit}
use Rattle.ut_logic.specs.Clauses.{AreWithin}
use Rattle.log_check.specs.Derivations.{IsNumbered}
use Rattle.log_check.proofs.Resolvents.{contains_nothing}
use Rattle.sat_log.specs.declared.marks.Mark.{Mark}
use Rattle.sat_log.specs.declared.solving.Turn.TheVariants.{Moved}
use Rattle.sat_log.specs.Moves.{State, known, IsFalseClause, Jumps, Steps}
use Rattle.sat_log.specs.Runs.{IsReached, IsAtRefutation}
use Rattle.sat_log.specs.Trails.{Sets, IsCut}
use Rattle.sat_log.specs.Inner.{EndsOrCuts}
use Rattle.sat_log.specs.Search.{IsTurn}
use Rattle.sat_log.proofs.RunLemmas.{kept_run}
use Rattle.sat_log.proofs.Bound.{room_forced, room_decided, stepped}
use Rattle.sat_log.proofs.Ending.{falls_at_step, falls_at_jump}

-- what holds where nothing was found
pub none_at : {A : Type 0} (r : Option A) (P : Type 0) → ((x : A) → r ≡ Some x → ⊥) → IfNone r P → P
none_at (Some x) P other h = absurd (other x refl)
none_at None P other h = h

-- a propagation by number is one
pub sets_steps : (n : ℕ) (clauses : List (List Lit)) (number : ℕ) (s t : State) → Sets clauses number s t → Steps n clauses s t
sets_steps n clauses number s t (c, l, num, forced, after) = inr (record {
  clause = c;
  among = (number - 1, omega (arith, num.0, num.1), num.2);
  lit = l;
  forced = forced;
  after = after;
})

step_grows : (n : ℕ) (clauses : List (List Lit)) (s t : State) → Steps n clauses s t → length t.marks ≡ length s.marks + 1
step_grows n clauses s t (inl d) = ap (λ (x : State). length x.marks) d.after ∙ length_push s.marks _
step_grows n clauses s t (inr p) = ap (λ (x : State). length x.marks) p.after ∙ length_push s.marks _

step_room : (n : ℕ) (clauses : List (List Lit)) (s t : State) → AreWithin n clauses → IsReached n clauses s → Steps n clauses s t → length s.marks + 1 ≤ n
step_room n clauses s t w (k, run) (inl d) = room_decided n clauses s t (kept_run n clauses k s w run) d
step_room n clauses s t w (k, run) (inr p) = room_forced n clauses s p.clause (kept_run n clauses k s w run) p.among (p.lit, p.forced)

-- a step below the budget is a turn
pub step_turn : (n : ℕ) (clauses : List (List Lit)) (budget : ℕ) (s t : State) → AreWithin n clauses → IsReached n clauses s → s.steps ≤ budget → s.steps ≢ budget → Steps n clauses s t → IsTurn n clauses budget s t Moved
step_turn n clauses budget s t w reached low other step =
    let below : s.steps < budget = omega arith in
    let steps : t.steps ≡ s.steps + 1 = stepped n clauses s t step in
    let marks : length t.marks ≡ length s.marks + 1 = step_grows n clauses s t step in
    let falls = falls_at_step budget s.steps n (length s.marks) below (step_room n clauses s t w reached step) in
    (inl step, omega arith, rw (steps, marks) falls)

-- a backjump is a turn
pub jump_turn : (n : ℕ) (clauses : List (List Lit)) (budget : ℕ) (s t : State) → s.steps ≤ budget → Jumps clauses s t → IsTurn n clauses budget s t Moved
jump_turn n clauses budget s t low j =
    let steps : t.steps ≡ s.steps = ap (λ (x : State). x.steps) j.after in
    let marks : length t.marks ≡ length j.kept = ap (λ (x : State). length x.marks) j.after in
    let whole : length s.marks ≡ length j.kept + suc (length j.gone) = ap length j.split ∙ length-append j.kept (j.cut ∷ j.gone) in
    let falls = falls_at_jump budget s.steps n (length s.marks) (length t.marks) (omega arith) in
    (inr j, omega arith, rw steps falls)

-- the empty clause comes where nothing is decided
pub empty_ends : (clauses : List (List Lit)) (s : State) (number : ℕ) (c r : List Lit) → IsNumbered (known clauses s) number c → IsFalseClause s.marks c → EndsOrCuts s.marks r → r ≡ [] → IsAtRefutation clauses s
empty_ends clauses s number c r num f (inl (none, e)) empty = record {
  clause = c;
  among = (number - 1, omega (arith, num.0, num.1), num.2);
  is_false = f;
  none_decided = none;
}
empty_ends clauses s number c r num f (inr (k, cut)) empty =
    absurd (contains_nothing cut.2.0 (subst (λ t. Contains t cut.2.0) empty cut.2.1.inside))

-- another clause has its cut
pub full_cuts : (ms : List Mark) (r : List Lit) → EndsOrCuts ms r → r ≢ [] → (k : ℕ) × IsCut ms r k
full_cuts ms r (inl (none, e)) some = absurd (some e)
full_cuts ms r (inr cut) some = cut
