-- What has been added, and what the rest adds, are the whole.
use Rattle.std.proofs.Common.{◌≡◌, ◌++◌, ◌<◌, drop, length, All}
use Rattle.std.specs.List.{flat_map}
use Rattle.kconf_tree.specs.References.{numbers_in}
use Rattle.kconf_tree.proofs.parts.Parts.+mention.Given as goal

abbrev pub invariant-mention_each-loop-e : goal.invariant-mention_each-loop-e
invariant-mention_each-loop-e l = record {
  row : l.row ++ flat_map (numbers_in l.self l.place) (drop l.e-index l.list) ≡ l.fn.row ++ flat_map (numbers_in l.self l.place) l.list;
  within : All (λ k. k < length l.self.symbols) l.row;
}
