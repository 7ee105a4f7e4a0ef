-- What is left to add to what there is gives the whole.
use Rattle.std.proofs.Common.{◌≡◌, drop}
use Rattle.std.specs.List.{flat_map}
use Rattle.model_slice.specs.Found.{added}
use Rattle.model_slice.specs.Met.{AreNoted}
use Rattle.model_slice.proofs.met.add_each.Given as goal

abbrev pub invariant-loop-more : goal.invariant-loop-more
invariant-loop-more l = record {
  rest : added l.met.nodes.items (flat_map (λ s. s.now) (drop l.more-index l.each)) ≡ added l.initial.met.nodes.items (flat_map (λ s. s.now) l.each);
  noted : AreNoted l.met.nodes.items l.room l.met.others.keys;
}
