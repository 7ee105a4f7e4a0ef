-- The symbols so far and those that are left are all.
use Rattle.std.proofs.Common.{◌≡◌, ◌++◌, drop}
use Rattle.undertaker.specs.Wishes.{wanted_symbol, wanted_symbols}
use Rattle.undertaker.specs.Levels.{wishes_of}
use Rattle.undertaker.proofs.path.wanted_of.Given as goal

abbrev pub invariant-loop-level : goal.invariant-loop-level
invariant-loop-level l = l.symbols.items ++ wanted_symbols (wishes_of (drop l.level-index l.levels)) ≡ wanted_symbol l.fn.own ++ wanted_symbols (wishes_of l.levels)
