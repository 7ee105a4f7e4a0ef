-- What is left to pass ends at the same place.
use Rattle.std.proofs.Common.{◌≡◌, length}
use Rattle.kconf_lines.specs.Reading.{after_belonging}
use Rattle.kconf_lines.proofs.cursor.LineCursor.skip.Given as goal

abbrev pub invariant-lines : goal.invariant-lines
invariant-lines l = after_belonging l.least l.self ≡ after_belonging l.least l.fn.self

abbrev pub decreases-lines : goal.decreases-lines
decreases-lines l = length l.self
