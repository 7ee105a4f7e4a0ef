-- What is read and what is left make the whole.
use Rattle.std.proofs.Common.{◌≡◌, ◌≤◌, ◌+◌, length}
use Rattle.ut_text.specs.Lines.{lines_of}
use Rattle.undertaker.specs.FirstKconfig.Form.{read_lines, start}
use Rattle.undertaker.specs.FirstKconfig.Reading.{behind}
use Rattle.undertaker.proofs.first_kconfig.form.first_entries.Given as goal

abbrev pub invariant-lines : goal.invariant-lines
invariant-lines l = record {
  left : behind l.list.items (read_lines l.line l.reader (lines_of l.rest)) ≡ read_lines 1 start (lines_of l.bytes);
  counted : l.line + length l.rest ≤ length l.bytes + 1;
  some : 1 ≤ l.line;
}

abbrev pub decreases-lines : goal.decreases-lines
decreases-lines l = length l.rest
