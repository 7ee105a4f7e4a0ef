-- What has been added, and what the rest adds, are the whole.
use Rattle.std.proofs.Common.{◌≡◌, ◌++◌, drop}
use Rattle.std.specs.List.{flat_map}
use Rattle.kconf_tree.specs.Gathered.{outers_of_choice}
use Rattle.kconf_tree.specs.Types.{typed}
use Rattle.kconf_tree.proofs.outers.push_choices.Given as goal

abbrev pub invariant-loop-choice : goal.invariant-loop-choice
invariant-loop-choice l = l.texts.items ++ flat_map (outers_of_choice (typed l.types)) (drop l.choice-index l.choices) ≡ l.fn.texts.items ++ flat_map (outers_of_choice (typed l.types)) l.choices
