-- What has been added, and what the rest adds, are the whole.
use Rattle.std.proofs.Common.{◌≡◌, ◌++◌, drop}
use Rattle.kconf_tree.specs.Orders.{empty_choices}
use Rattle.kconf_tree.proofs.parts.Parts.push_empty.Given as goal

abbrev pub invariant-loop-choice : goal.invariant-loop-choice
invariant-loop-choice l = l.order.items ++ empty_choices l.choice (drop l.choice l.self.choices) ≡ l.fn.order.items ++ empty_choices 0 l.self.choices
