-- What is read and what is left make the whole.
use Rattle.std.proofs.Common.{◌≡◌, ◌+◌, ◌*◌, ◌<◌, ◌≤◌, length}
use Rattle.cpp_read.specs.Depth.{parts, before_at}
use Rattle.cpp_read.specs.Conditions.{Reader, Reads, each}
use Rattle.cpp_read.specs.ConditionSteps.{conds_after}
use Rattle.cpp_read.proofs.reader.+read.Given as goal

abbrev pub decreases-read : goal.decreases-read
decreases-read l = 3 * length l.tokens.now + 2

abbrev pub decreases-read_parts : goal.decreases-read_parts
decreases-read_parts l = 3 * length l.tokens.now + 1

abbrev pub decreases-read_single : goal.decreases-read_single
decreases-read_single l = 3 * length l.tokens.now + 1

abbrev pub decreases-read_row : goal.decreases-read_row
decreases-read_row l = 3 * length l.tokens.now

abbrev pub invariant-read_parts-parts : goal.invariant-read_parts-parts
invariant-read_parts-parts l = record {
  left : (f : Reader) → Reads l.line f → conds_after l.list.items (each f (parts l.joint l.rest)) ≡ each f (parts l.joint l.tokens);
  short : before_at l.joint 0 l.rest < length l.tokens;
  within : length l.rest ≤ length l.tokens;
}

abbrev pub decreases-read_parts-parts : goal.decreases-read_parts-parts
decreases-read_parts-parts l = length l.rest
