use Rattle.undertaker.proofs.Rows.{rows_are_below}
use Rattle.undertaker.proofs.dependencies.Dependencies.of.Goals as goal

pub invariant_of-result : goal.invariant_of-result
invariant_of-result c = rows_are_below c.as_slice-configs.result.now c.in_ok-names.names c.in_ok-names.ensures c.in_ok-needs.needs.items c.in_ok-needs.ensures
