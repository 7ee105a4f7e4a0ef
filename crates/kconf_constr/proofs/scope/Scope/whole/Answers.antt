use Rattle.std.specs.List.Sorted.{IsStrictlySortedBy}
use Rattle.kconf_constr.proofs.scope.Scope.whole.Goals as goal

pub invariant_of-result : goal.invariant_of-result
unfolding IsStrictlySortedBy
invariant_of-result c = tt
