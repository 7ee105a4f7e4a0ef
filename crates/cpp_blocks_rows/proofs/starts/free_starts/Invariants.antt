-- The starts so far.
use Rattle.std.proofs.Common.{◌≡◌, length}
use Rattle.std.specs.Prelude.{All}
use Rattle.cpp_blocks.specs.Facts.{AreStarts}
use Rattle.cpp_blocks.specs.Nodes.{IsListedStart}
use Rattle.cpp_blocks_rows.proofs.starts.free_starts.Given as goal

abbrev pub invariant-loop-place : goal.invariant-loop-place
invariant-loop-place l = (length l.starts.items ≡ l.place) × AreStarts 0 0 l.starts.items × All IsListedStart l.starts.items
