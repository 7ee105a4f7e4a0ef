-- The map has the values of the variables that were passed.
use Rattle.std.proofs.Common.{◌≤◌, drop, length}
use Rattle.kconf_cut.specs.ValueMap.{HoldsValues}
use Rattle.kconf_cut.proofs.values.Values.new.Given as goal

abbrev pub invariant-vars : goal.invariant-vars
invariant-vars l = record {
  within : l.at ≤ length l.vars;
  held : HoldsValues l.map.entries (drop l.at l.vars);
}

abbrev pub decreases-vars : goal.decreases-vars
decreases-vars l = l.at
