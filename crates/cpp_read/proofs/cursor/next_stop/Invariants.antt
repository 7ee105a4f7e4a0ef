-- Only no_stop bytes were passed.
use Rattle.std.proofs.Common.{ℕ, ◌≤◌, ◌-◌, drop, length}
use Rattle.cpp_read.specs.Splices.{spliced_bytes}
use Rattle.cpp_read.specs.Stops.{Skips}
use Rattle.cpp_read.proofs.cursor.next_stop.Given as goal

abbrev pub invariant-loop-at : goal.invariant-loop-at
invariant-loop-at l = record {
  skips : (line : ℕ) → Skips (spliced_bytes l.fn.at line (drop l.fn.at l.bytes)) (spliced_bytes l.at line (drop l.at l.bytes));
  from : l.fn.at ≤ l.at;
  within : l.at ≤ length l.bytes;
}

abbrev pub decreases-loop-at : goal.decreases-loop-at
decreases-loop-at l = length l.bytes - l.at
