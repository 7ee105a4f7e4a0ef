-- What is left gives the rest.
use Rattle.std.proofs.Common.{◌≡◌, ◌++◌, drop, length}
use Rattle.kconf_tree.specs.Choosing.{bare_choices}
use Rattle.kconf_tree.proofs.choices.bare_choices.Given as goal

abbrev pub invariant-loop-entry : goal.invariant-loop-entry
invariant-loop-entry l = record {
  whole : l.yielded ++ l.entry-iterator.rest.items ≡ l.fn.entries.items;
  count : length l.choices.items ≡ length l.yielded;
  left : l.choices.items ++ bare_choices (drop (length l.choices.items) l.kinds) l.entry-iterator.rest.items ≡ bare_choices l.kinds l.fn.entries.items;
}
