-- What is left completes it.
use Rattle.std.proofs.Common.{◌≡◌, drop}
use Rattle.complete_conf.specs.Completion.{completed}
use Rattle.complete_conf.specs.Config.{by_lists, FitsTree, KeepsLengths}
use Rattle.complete_conf.specs.Parts.{part_of}
use Rattle.complete_conf.proofs.completing.complete_nodes.Given as goal

abbrev pub invariant-loop-node : goal.invariant-loop-node
invariant-loop-node l = record {
  value : completed l.tree.shape (part_of l.known) (by_lists l.config) (drop l.node-index l.nodes) ≡ completed l.tree.shape (part_of l.known) (by_lists l.initial.config) l.nodes;
  fits : FitsTree l.tree.shape l.config;
  lengths : KeepsLengths l.initial.config l.config;
}
