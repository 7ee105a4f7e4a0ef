-- What is left gives the rest.
use Rattle.std.proofs.Common.{◌≡◌, drop, length, map}
use Rattle.kconf_entries.specs.declared.entries.ChoiceEntry.{ChoiceEntry}
use Rattle.kconf_tree.specs.Choosing.{typed_by_all}
use Rattle.kconf_tree.proofs.choices.typed_kinds.Given as goal

abbrev pub invariant-loop-config : goal.invariant-loop-config
invariant-loop-config l = record { count : length l.kinds.items ≡ length l.choices; left : typed_by_all l.types l.kinds.items (drop l.config-index l.configs) ≡ typed_by_all l.types (map (λ (e : ChoiceEntry). e.kind) l.choices) l.configs }
