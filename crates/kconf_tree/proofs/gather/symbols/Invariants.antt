-- The symbols have the entries so far, and the others are still to come.
use Rattle.std.proofs.Common.{◌≡◌, ◌++◌}
use Rattle.kconf_tree.specs.Gathering.{symbols_after}
use Rattle.kconf_tree.proofs.gather.symbols.Given as goal

abbrev pub invariant-loop-config : goal.invariant-loop-config
invariant-loop-config l = record { whole : l.yielded ++ l.config-iterator.rest.items ≡ l.fn.configs.items; so_far : l.symbols.items ≡ symbols_after l.fn.configs.items l.yielded }
