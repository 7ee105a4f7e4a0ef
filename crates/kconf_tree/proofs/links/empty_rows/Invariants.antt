-- The lists so far.
use Rattle.std.proofs.Common.{◌≡◌, replicate, []}
use Rattle.kconf_tree.proofs.links.empty_rows.Given as goal

abbrev pub invariant-loop-number : goal.invariant-loop-number
invariant-loop-number l = l.rows.items ≡ replicate l._number []
