use Rattle.std.proofs.Common.{◌≡◌, ◌≤◌, length}
use Rattle.ut_base.specs.Names.{folder_len}
use Rattle.kbuild_cond.proofs.reading.folder_of.Given as goal

abbrev pub invariant-loop-end : goal.invariant-loop-end
invariant-loop-end l = (l.end ≤ length l.name) × (folder_len l.name (length l.name) ≡ folder_len l.name l.end)

abbrev pub decreases-loop-end : goal.decreases-loop-end
decreases-loop-end l = l.end
