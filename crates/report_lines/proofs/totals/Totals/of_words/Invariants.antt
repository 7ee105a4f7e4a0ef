use Rattle.std.proofs.Common.{◌≡◌, ◌≤◌, drop}
use Rattle.ut_report.specs.Lines.{totals_from, totals_of}
use Rattle.report_lines.proofs.totals.Totals.of_words.Given as goal

abbrev pub invariant-loop-word : goal.invariant-loop-word
invariant-loop-word l = record {
  so_far : totals_from l.totals (drop l.word-index l.words) ≡ totals_of l.words;
  within : l.totals.blocks ≤ l.word-index;
}
