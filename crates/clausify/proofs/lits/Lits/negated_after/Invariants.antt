use Rattle.std.proofs.Common.{◌≡◌, ◌∷◌, map, take}
use Rattle.ut_logic.specs.Clauses.{negated}
use Rattle.clausify.proofs.lits.Lits.negated_after.Given as goal

abbrev pub invariant-loop-lit : goal.invariant-loop-lit
invariant-loop-lit l = l.clause.items ≡ l.fn.first ∷ map negated (take l.lit-index l.lits)
