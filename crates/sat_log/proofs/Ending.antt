-- The lines of a run, and the measure of the search.
use Rattle.std.proofs.Common.{◌≡◌, ℕ, zero, suc, ◌+◌, ◌-◌, ◌*◌, ◌<◌, ◌≤◌, List, [], ◌∷◌, ◌++◌, length, get_or, take, inl, inr, refl, sym, ap, ◌∙◌, subst, arith}
use Rattle.std.proofs.lemmas.List.{length_push, get_or_append_left, get_or_at, take-append-le, take_at}
use Rattle.ut_logic.specs.declared.literals.Lit.{Lit}
use Rattle.log_check.specs.declared.derivations.DerivationLine.{DerivationLine}
use Rattle.log_check.specs.Derivations.{IsRight, AreRight, Refutes}
use Rattle.std.proofs.lemmas.Bool.{cases_lt}
use Rattle.sat_log.specs.Moves.{State}
use Rattle.sat_log.specs.Runs.{RunsTo}

-- one right line more
pub right_push : (clauses : List (List Lit)) (lines : List DerivationLine) (line : DerivationLine) → AreRight clauses lines (length lines) → IsRight clauses lines line → AreRight clauses (lines ++ line ∷ []) (length (lines ++ line ∷ []))
right_push clauses lines line r new k d h = elim (cases_lt k (length lines)) [
  | inl low ↦
      let same : get_or (lines ++ line ∷ []) k d ≡ get_or lines k d = get_or_append_left lines (line ∷ []) d k low in
      let front : take k (lines ++ line ∷ []) ≡ take k lines = take-append-le k lines (line ∷ []) (omega arith) in
      rw (same, front) (r k d low)
  | inr high ↦
      let at : k ≡ length lines = omega (arith, length_push lines line) in
      let here : get_or (lines ++ line ∷ []) k d ≡ line = get_or_at lines line [] d k (sym at) in
      let front : take k (lines ++ line ∷ []) ≡ lines = take_at lines (line ∷ []) k (sym at) in
      rw (here, front) new
]

-- a run's derived lines are right
pub lines_right : (n : ℕ) (clauses : List (List Lit)) (k : ℕ) (s : State) → RunsTo n clauses k s → AreRight clauses s.lines (length s.lines)
lines_right n clauses zero s run = subst (λ (t : State). AreRight clauses t.lines (length t.lines)) (sym run) (λ k d h. absurd (omega arith))
lines_right n clauses (suc k) s (before, run, inl (inl d)) = subst (λ (t : State). AreRight clauses t.lines (length t.lines)) (sym d.after) (lines_right n clauses k before run)
lines_right n clauses (suc k) s (before, run, inl (inr p)) = subst (λ (t : State). AreRight clauses t.lines (length t.lines)) (sym p.after) (lines_right n clauses k before run)
lines_right n clauses (suc k) s (before, run, inr j) = subst (λ (t : State). AreRight clauses t.lines (length t.lines)) (sym j.after) (right_push clauses before.lines j.line (lines_right n clauses k before run) j.derived)

-- the empty clause behind a run's lines refutes
pub refutes_with : (n : ℕ) (clauses : List (List Lit)) (k : ℕ) (s : State) (line : DerivationLine) → RunsTo n clauses k s → IsRight clauses s.lines line → line.result ≡ [] → Refutes clauses (s.lines ++ line ∷ [])
refutes_with n clauses k s line run r e = record {
  some = omega (arith, length_push s.lines line);
  right = right_push clauses s.lines line (lines_right n clauses k s run) r;
  empty = λ d.
      let at : length (s.lines ++ line ∷ []) - 1 ≡ length s.lines = omega (arith, length_push s.lines line) in
      subst (λ i. (get_or (s.lines ++ line ∷ []) i d).result ≡ []) (sym at) (ap (λ (t : DerivationLine). t.result) (get_or_at s.lines line [] d (length s.lines) refl) ∙ e);
}

-- the search's measure falls at a step, and at a backjump
pub falls_at_step : (budget steps n set : ℕ) → steps < budget → set + 1 ≤ n → (budget - (steps + 1)) * (n + 2) + (set + 1) < (budget - steps) * (n + 2) + set
falls_at_step budget steps n set h k =
    let left : ℕ = budget - (steps + 1) in
    let e : budget - steps ≡ left + 1 = omega arith in
    rw e (omega arith)

pub falls_at_jump : (budget steps n set set' : ℕ) → set' < set → (budget - steps) * (n + 2) + set' < (budget - steps) * (n + 2) + set
falls_at_jump budget steps n set set' h = omega arith
