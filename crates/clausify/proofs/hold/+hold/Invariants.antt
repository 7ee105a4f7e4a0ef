-- What the rest gives after what is done.
use Rattle.std.proofs.Common.{◌≡◌, drop}
use Rattle.clausify.specs.ClauseForm as spec
use Rattle.clausify.proofs.hold.+hold.Given as goal

abbrev pub invariant-hold_each-loop-f : goal.invariant-hold_each-loop-f
invariant-hold_each-loop-f l = spec.hold_each (spec.var_of l.vars) (drop l.f-index l.list) l.b ≡ spec.hold_each (spec.var_of l.vars) l.list l.fn.b
