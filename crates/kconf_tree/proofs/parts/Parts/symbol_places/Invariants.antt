-- The places of the symbols so far.
use Rattle.std.proofs.Common.{◌≡◌}
use Rattle.std.specs.List.{range_with_len}
use Rattle.kconf_tree.specs.Numbering.{places_among}
use Rattle.kconf_tree.proofs.parts.Parts.symbol_places.Given as goal

abbrev pub invariant-loop-sym : goal.invariant-loop-sym
invariant-loop-sym l = l.places.items ≡ places_among l.self l.nodes.keys (range_with_len 0 l.sym)
