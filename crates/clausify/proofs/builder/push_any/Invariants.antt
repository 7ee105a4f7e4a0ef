-- The clauses of the literals so far stand after those that were there.
use Rattle.std.proofs.Common.{◌≡◌, ◌∷◌, [], ◌++◌, map, take}
use Rattle.ut_logic.specs.Clauses.{negated}
use Rattle.clausify.specs.ClauseForm as spec
use Rattle.clausify.proofs.builder.push_any.Given as goal

abbrev pub invariant-loop-lit : goal.invariant-loop-lit
invariant-loop-lit l = l.clauses.items ≡ l.initial.clauses.items ++ map (λ k. spec.pos l.var ∷ negated k ∷ []) (take l.lit-index l.lits)
