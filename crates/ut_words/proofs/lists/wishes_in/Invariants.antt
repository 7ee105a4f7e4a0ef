use Rattle.std.proofs.Common.{◌+◌, ◌<◌, ◌≤◌, length}
use Rattle.line_texts.specs.Lines.{lines_of}
use Rattle.line_texts.proofs.GrammarLaws.{Continues}
use Rattle.ut_words.specs.Lists.{Ends, Takes, nothing_kept}
use Rattle.ut_words.proofs.lists.wishes_in.Given as goal

abbrev pub invariant-loop-rest : goal.invariant-loop-rest
invariant-loop-rest l = record {
  reads : Continues (Takes l.kind) Ends nothing_kept (lines_of l.bytes) l.kept (lines_of l.rest) l.number;
  few : length l.kept.wishes < l.number;
  room : l.number + length l.rest ≤ 16777217;
}

abbrev pub decreases-loop-rest : goal.decreases-loop-rest
decreases-loop-rest l = length l.rest
