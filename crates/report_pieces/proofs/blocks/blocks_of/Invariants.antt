use Rattle.std.proofs.Common.{◌≡◌, ◌++◌, drop}
use Rattle.report_pieces.specs.Blocks.{blocks_from, blocks_of}
use Rattle.report_pieces.proofs.blocks.blocks_of.Given as goal

abbrev pub invariant-loop-file : goal.invariant-loop-file
invariant-loop-file g l =
    l.all.items ++ blocks_from l.file (drop l.file (g.P.Reported.problem l.problem).sources) ≡ blocks_of (g.P.Reported.problem l.problem)
