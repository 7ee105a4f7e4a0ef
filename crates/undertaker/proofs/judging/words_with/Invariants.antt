-- The words so far answer the blocks so far, and no symbol is marked.
use Rattle.std.proofs.Common.{◌≡◌, drop, length}
use Rattle.undertaker.specs.Marks.{AreClear}
use Rattle.undertaker.proofs.JudgingLaws.{Judged}
use Rattle.undertaker.proofs.judging.words_with.Given as goal

abbrev pub invariant-loop-step : goal.invariant-loop-step
invariant-loop-step l = record {
  clear : AreClear l.marks;
  count : length l.marks ≡ length l.graph.needs;
  judged : Judged l.graph l.steps l.words.items l.path (drop l.step-index l.steps);
}
