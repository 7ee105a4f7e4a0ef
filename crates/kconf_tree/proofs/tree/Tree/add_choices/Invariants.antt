-- The names of the earlier ones are added.
use Rattle.std.proofs.Common.{take}
use Rattle.std.specs.List.{flat_map}
use Rattle.kconf_tree.specs.Naming.{AddsNames}
use Rattle.kconf_tree.specs.Undeclared.{undeclared_of_choice}
use Rattle.kconf_tree.proofs.tree.Tree.add_choices.Given as goal

abbrev pub invariant-loop-choice : goal.invariant-loop-choice
invariant-loop-choice l = AddsNames l.initial.set l.set (flat_map (undeclared_of_choice l.self.shape) (take l.choice l.self.shape.choices))
