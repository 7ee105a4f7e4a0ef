-- The symbols so far.
use Rattle.std.proofs.Common.{◌≡◌, take}
use Rattle.kconf_tree.specs.Types.{typed}
use Rattle.kconf_tree.proofs.gather.bare_symbols.Given as goal

abbrev pub invariant-loop-number : goal.invariant-loop-number
invariant-loop-number l = l.symbols.items ≡ take l.number (typed l.types).symbols
