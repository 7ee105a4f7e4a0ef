-- What has been added, and what the rest adds, are the whole.
use Rattle.std.proofs.Common.{◌≡◌, ◌++◌, ◌<◌, drop, length, All}
use Rattle.std.specs.List.{flat_map}
use Rattle.kconf_tree.specs.References.{of_choice_default}
use Rattle.kconf_tree.proofs.parts.Parts.mention_choice_defaults.Given as goal

abbrev pub invariant-loop-default : goal.invariant-loop-default
invariant-loop-default l = record {
  row : l.row ++ flat_map (of_choice_default l.self l.choice) (drop l.default-index l.defaults) ≡ l.fn.row ++ flat_map (of_choice_default l.self l.choice) l.defaults;
  within : All (λ k. k < length l.self.symbols) l.row;
}
