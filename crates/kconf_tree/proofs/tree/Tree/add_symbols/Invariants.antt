-- The names of the earlier ones are added.
use Rattle.std.proofs.Common.{take}
use Rattle.std.specs.List.{flat_map}
use Rattle.kconf_tree.specs.Naming.{AddsNames}
use Rattle.kconf_tree.specs.Undeclared.{undeclared_of_symbol}
use Rattle.kconf_tree.proofs.tree.Tree.add_symbols.Given as goal

abbrev pub invariant-loop-sym : goal.invariant-loop-sym
invariant-loop-sym l = AddsNames l.initial.set l.set (flat_map (undeclared_of_symbol l.self.shape) (take l.sym l.self.shape.symbols))
