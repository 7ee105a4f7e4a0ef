-- The rest gives the same answer as the whole.
use Rattle.std.proofs.Common.{◌≡◌, drop}
use Rattle.kconf_tree.specs.Modules.{modules_from}
use Rattle.kconf_tree.proofs.modules_symbol.modules_among.Given as goal

abbrev pub invariant-loop-number : goal.invariant-loop-number
invariant-loop-number l = modules_from l.number (drop l.number l.types) (drop l.number l.symbols) ≡ modules_from 0 l.types l.symbols
