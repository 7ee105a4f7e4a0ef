-- What has been added, and what the rest adds, are the whole.
use Rattle.std.proofs.Common.{◌≡◌, ◌++◌, ◌<◌, drop, length, map, All}
use Rattle.std.specs.List.{flat_map}
use Rattle.kconf_tree.specs.Linking.{linker_of}
use Rattle.kconf_tree.specs.References.{of_selector}
use Rattle.kconf_tree.proofs.parts.Parts.mention_selectors.Given as goal

abbrev pub invariant-loop-selector : goal.invariant-loop-selector
invariant-loop-selector l = record {
  row : l.row ++ flat_map (of_selector l.self) (map (linker_of l.self l.link) (drop l.selector-index l.selectors)) ≡ l.fn.row ++ flat_map (of_selector l.self) (map (linker_of l.self l.link) l.selectors);
  within : All (λ k. k < length l.self.symbols) l.row;
}
