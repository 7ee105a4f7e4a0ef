use Rattle.std.proofs.Common.{◌≡◌, drop}
use Rattle.report_pieces.specs.Arranging.{with_sources}
use Rattle.report_pieces.proofs.whole.whole_report.Given as goal

abbrev pub invariant-loop-file : goal.invariant-loop-file
invariant-loop-file g l =
    with_sources (drop l.file (g.P.Reported.problem l.problem).sources) l.arranging ≡ with_sources (g.P.Reported.problem l.problem).sources l.initial.arranging
