use Rattle.std.proofs.Common.{◌≡◌, ◌++◌, length}
use Rattle.std.specs.Prelude.{codes}
use Rattle.std.specs.List.{flat_map}
use Rattle.line_texts.specs.Cursor.{quoted_byte}
use Rattle.line_texts.proofs.cursor.Cursor.quoted.Given as goal

abbrev pub invariant-loop-ahead : goal.invariant-loop-ahead
invariant-loop-ahead l = l.fn.self ≡ codes "\"" ++ (flat_map quoted_byte l.text.items ++ l.ahead)

abbrev pub decreases-loop-ahead : goal.decreases-loop-ahead
decreases-loop-ahead l = length l.ahead
