use Rattle.std.proofs.Common.{◌≡◌, ◌+◌, ◌++◌, drop, map}
use Rattle.undertaker.specs.Report.{block_lines}
use Rattle.undertaker.specs.Lines.{ended}
use Rattle.undertaker.proofs.report.block_lines.Given as goal

abbrev pub invariant-loop-word : goal.invariant-loop-word
invariant-loop-word l = record {
  so_far : l.lines.items ++ map ended (block_lines l.name 0 (l.block + 1) (drop l.word-index l.words)) ≡ map ended (block_lines l.name 0 1 l.words);
  counted : l.block ≡ l.word-index;
}
