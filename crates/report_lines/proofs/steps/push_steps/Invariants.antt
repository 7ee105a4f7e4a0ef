use Rattle.std.proofs.Common.{◌≡◌, ◌+◌, ◌++◌, ◌^◌, ◌≤◌, drop, take}
use Rattle.std.specs.Prelude.{All}
use Rattle.log_check.specs.DerivationText.{IsPrintable}
use Rattle.ut_report.specs.Evidence.{step_lines}
use Rattle.ut_report.specs.Lines.{text_of}
use Rattle.report_lines.proofs.steps.push_steps.Given as goal

abbrev pub invariant-loop-at : goal.invariant-loop-at
invariant-loop-at l = record {
  text : l.text.items ++ text_of (step_lines (l.clauses + 1 + l.at) (drop l.at l.lines)) ≡ l.initial.text.items ++ text_of (step_lines (l.clauses + 1) l.lines);
  last : l.clauses + 1 + l.at ≤ 2 ^ 64;
  printable : All IsPrintable (take l.at l.lines);
}
