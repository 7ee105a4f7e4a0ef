use Rattle.std.proofs.Common.{◌+◌, ◌≤◌, length}
use Rattle.line_texts.specs.Lines.{whole_lines}
use Rattle.line_texts.proofs.GrammarLaws.{Continues}
use Rattle.log_check.specs.DerivationText.{Ends, Takes, at_start}
use Rattle.log_check.proofs.texts.read_lines.Given as goal

abbrev pub invariant-loop-rest : goal.invariant-loop-rest
invariant-loop-rest l = record {
  reads : Continues Takes Ends at_start (whole_lines l.bytes) (record { lines = l.lines.items; last = l.last }) (whole_lines l.rest) l.number;
  room : l.number + length l.rest ≤ 16777217;
}

abbrev pub decreases-loop-rest : goal.decreases-loop-rest
decreases-loop-rest l = length l.rest
