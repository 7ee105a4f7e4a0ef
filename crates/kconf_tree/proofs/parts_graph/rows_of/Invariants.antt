-- The rows so far.
use Rattle.std.proofs.Common.{◌≡◌, take, map}
use Rattle.kconf_tree.specs.Numbering.{each_at}
use Rattle.kconf_tree.proofs.parts_graph.rows_of.Given as goal

abbrev pub invariant-loop-row : goal.invariant-loop-row
invariant-loop-row l = map (λ row. row.items) l.found.items ≡ map (each_at l.list) (take l.row-index l.rows)
