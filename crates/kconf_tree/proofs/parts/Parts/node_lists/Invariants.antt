-- The nodes of the symbols so far.
use Rattle.std.proofs.Common.{◌≡◌, length, map}
use Rattle.std.specs.List.{range_with_len}
use Rattle.ut_logic.specs.Node.{node_eq}
use Rattle.kconf_tree.specs.Gathered.{distinct}
use Rattle.kconf_tree.specs.References.{node_of}
use Rattle.kconf_tree.specs.Links.{AreRowsBelow}
use Rattle.kconf_tree.specs.Numbering.{lists_of}
use Rattle.kconf_tree.proofs.parts.Parts.node_lists.Given as goal

abbrev pub invariant-loop-sym : goal.invariant-loop-sym
invariant-loop-sym l = record {
  nodes : l.found.nodes.keys ≡ distinct node_eq (map (node_of l.self) (range_with_len 0 l.sym));
  lists : l.found.lists.items ≡ lists_of l.self l.found.nodes.keys;
  within : AreRowsBelow (length l.self.symbols) l.found.lists.items;
}
