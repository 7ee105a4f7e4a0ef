-- The literals so far, and what the rest gives after them.
use Rattle.std.proofs.Common.{◌≡◌, ◌++◌, drop}
use Rattle.clausify.specs.ClauseForm as spec
use Rattle.clausify.proofs.literal.+literal.Given as goal

abbrev pub invariant-literal_each-loop-f : goal.invariant-literal_each-loop-f
invariant-literal_each-loop-f l = record {
  lits : l.lits.items ++ (spec.literals (spec.var_of l.vars) (drop l.f-index l.list) l.b).0 ≡ (spec.literals (spec.var_of l.vars) l.list l.fn.b).0;
  form : (spec.literals (spec.var_of l.vars) (drop l.f-index l.list) l.b).1 ≡ (spec.literals (spec.var_of l.vars) l.list l.fn.b).1;
}
