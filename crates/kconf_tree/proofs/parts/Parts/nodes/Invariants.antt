-- The nodes so far.
use Rattle.std.proofs.Common.{◌≡◌, take, map}
use Rattle.kconf_tree.specs.References.{node_of}
use Rattle.kconf_tree.proofs.parts.Parts.nodes.Given as goal

abbrev pub invariant-loop-symbol : goal.invariant-loop-symbol
invariant-loop-symbol l = l.nodes.items ≡ map (node_of l.self) (take l.symbol-index l.symbols)
