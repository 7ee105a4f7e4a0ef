use Rattle.std.proofs.Common.{◌≡◌, ◌∷◌, take}
use Rattle.clausify.proofs.lits.Lits.after.Given as goal

abbrev pub invariant-loop-lit : goal.invariant-loop-lit
invariant-loop-lit l = l.clause.items ≡ l.fn.first ∷ take l.lit-index l.lits
