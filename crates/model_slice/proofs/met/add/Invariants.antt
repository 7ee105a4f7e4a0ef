-- What is left to add to what there is gives the whole.
use Rattle.std.proofs.Common.{◌≡◌, drop}
use Rattle.model_slice.specs.Found.{added}
use Rattle.model_slice.specs.Met.{AreNoted}
use Rattle.model_slice.proofs.met.add.Given as goal

abbrev pub invariant-loop-node : goal.invariant-loop-node
invariant-loop-node l = record {
  rest : added l.met.nodes.items (drop l.node-index l.more) ≡ added l.initial.met.nodes.items l.more;
  noted : AreNoted l.met.nodes.items l.room l.met.others.keys;
}
