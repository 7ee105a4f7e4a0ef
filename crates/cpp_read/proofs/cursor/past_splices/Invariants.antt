-- What is left has the same spliced_bytes.
use Rattle.std.proofs.Common.{◌≡◌, length, ◌-◌, drop}
use Rattle.cpp_read.specs.Splices.{spliced_bytes}
use Rattle.cpp_read.specs.Cursors.{Stands}
use Rattle.cpp_read.proofs.cursor.past_splices.Given as goal

abbrev pub invariant-loop-next : goal.invariant-loop-next
invariant-loop-next l = record {
  stands : Stands l.bytes l.at l.line;
  same : spliced_bytes l.at l.line (drop l.at l.bytes) ≡ spliced_bytes l.fn.at l.fn.line (drop l.fn.at l.bytes);
}

abbrev pub decreases-loop-next : goal.decreases-loop-next
decreases-loop-next l = length l.bytes - l.at
