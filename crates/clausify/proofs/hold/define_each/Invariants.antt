-- What the rest gives after what is done.
use Rattle.std.proofs.Common.{◌≡◌, drop}
use Rattle.clausify.specs.ClauseForm as spec
use Rattle.clausify.proofs.hold.define_each.Given as goal

abbrev pub invariant-loop-definition : goal.invariant-loop-definition
invariant-loop-definition l = spec.defined_each (spec.var_of l.vars) (drop l.definition-index l.list) l.b ≡ spec.defined_each (spec.var_of l.vars) l.list l.initial.b
