use Rattle.std.proofs.Common.{rules, ◌≡◌, subst, sym}
use Rattle.std.specs.Prelude.{All}
use Rattle.ut_case.specs.Posed.{IsInnerBlockOf}
use Rattle.report_pieces.specs.Blocks as spec
use Rattle.report_pieces.proofs.InnerBlocks.{all_inner, sources_end}
use Rattle.report_pieces.proofs.blocks.blocks_of.Goals as goal

pub returns-clause-inner : goal.returns-clause-inner
returns-clause-inner g c =
    let p = g.P.Reported.problem c.args.problem.now in
    let whole : c.loop-file.all.items ≡ spec.blocks_of p = sources_end p c.loop-file.all.items (spec.blocks_of p) c.loop-file.file (search rules) c.loop-file.invariant in
    subst (All (IsInnerBlockOf p)) (sym whole) (all_inner p)
