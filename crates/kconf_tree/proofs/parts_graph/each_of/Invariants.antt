-- What was found so far.
use Rattle.std.proofs.Common.{◌≡◌, take}
use Rattle.kconf_tree.specs.Numbering.{each_at}
use Rattle.kconf_tree.proofs.parts_graph.each_of.Given as goal

abbrev pub invariant-loop-place : goal.invariant-loop-place
invariant-loop-place l = l.found.items ≡ each_at l.list (take l.place-index l.places)
