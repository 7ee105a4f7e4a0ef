use Rattle.std.proofs.Common.{◌≡◌, ◌++◌, drop}
use Rattle.kbuild_cond.proofs.ways.copies.Given as goal

abbrev pub invariant-loop-path : goal.invariant-loop-path
invariant-loop-path l = l.copies.items ++ drop l.path-index l.paths ≡ l.paths
