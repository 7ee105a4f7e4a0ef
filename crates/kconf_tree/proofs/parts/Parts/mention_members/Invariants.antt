-- What has been added, and what the rest adds, are the whole.
use Rattle.std.proofs.Common.{◌≡◌, ◌++◌, ◌<◌, drop, length, All}
use Rattle.std.specs.List.{flat_map}
use Rattle.kconf_tree.specs.References.{own_references}
use Rattle.kconf_tree.proofs.parts.Parts.mention_members.Given as goal

abbrev pub invariant-loop-member : goal.invariant-loop-member
invariant-loop-member l = record {
  row : l.row ++ flat_map (own_references l.self) (drop l.member-index l.members) ≡ l.fn.row ++ flat_map (own_references l.self) l.members;
  within : All (λ k. k < length l.self.symbols) l.row;
}
