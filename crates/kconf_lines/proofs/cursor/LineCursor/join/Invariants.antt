-- What is taken and what is left make the whole line.
use Rattle.std.proofs.Common.{◌≡◌, ◌++◌, length}
use Rattle.kconf_lines.specs.LogicalLines.{joined_first}
use Rattle.kconf_lines.proofs.cursor.LineCursor.join.Given as goal

abbrev pub invariant-lines : goal.invariant-lines
invariant-lines l = record {
  text : l.text.items ++ (joined_first l.self).0 ≡ l.fn.text.items ++ (joined_first l.fn.self).0;
  left : (joined_first l.self).1 ≡ (joined_first l.fn.self).1;
}

abbrev pub decreases-lines : goal.decreases-lines
decreases-lines l = length l.self
