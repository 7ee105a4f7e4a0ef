-- The names so far and those left are all, and the set has those so far beside its own.
use Rattle.std.proofs.Common.{◌≡◌, ◌++◌}
use Rattle.problem_sources.specs.Undeclared.{AddsNames}
use Rattle.problem_sources.proofs.undeclared.add_names.Given as goal

abbrev pub invariant-loop-name : goal.invariant-loop-name
invariant-loop-name l = record {
  whole : l.yielded ++ l.name-iterator.rest.items ≡ l.fn.names.items;
  added : AddsNames l.initial.set l.set l.yielded;
}
