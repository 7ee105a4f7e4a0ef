-- The types so far.
use Rattle.std.proofs.Common.{◌≡◌, take, map}
use Rattle.kconf_entries.specs.declared.entries.ChoiceEntry.{ChoiceEntry}
use Rattle.kconf_tree.proofs.choices.own_kinds.Given as goal

abbrev pub invariant-loop-choice : goal.invariant-loop-choice
invariant-loop-choice l = l.kinds.items ≡ map (λ (e : ChoiceEntry). e.kind) (take l.choice-index l.choices)
