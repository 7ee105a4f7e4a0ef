-- What is read and what is left make the whole.
use Rattle.std.proofs.Common.{◌≡◌, ◌≤◌, ◌+◌, length}
use Rattle.ut_text.specs.Lines.{lines_of}
use Rattle.undertaker.specs.FirstSource.Form.{read_lines, first_directives_of}
use Rattle.undertaker.specs.FirstSource.Reading.{behind}
use Rattle.undertaker.proofs.first_source.form.first_directives.Given as goal

abbrev pub invariant-lines : goal.invariant-lines
invariant-lines l = record {
  left : behind l.list.items (read_lines l.line l.chains (lines_of l.rest)) ≡ first_directives_of l.bytes;
  counted : l.line + length l.rest ≤ length l.bytes + 1;
}

abbrev pub decreases-lines : goal.decreases-lines
decreases-lines l = length l.rest
