use Rattle.std.proofs.Common.{◌++◌, ap, ◌∙◌}
use Rattle.ut_report.specs.Lines.{text_of}
use Rattle.report_lines.proofs.verdicts.verdict_lines.Goals as goal

pub returns-clause-right : goal.returns-clause-right
returns-clause-right g c = λ steps shown.
    let told = c.in_ok-push_verdict.ensures in (
      told.0,
      c.lines_are_right.ensures (g.P.Reported.problem c.args.problem.now) c.args.block steps c.args.evidence c.args.verdict.now told.0 shown told.1,
      told.2 ∙ ap (λ t. t ++ text_of told.0) c.new-text.ensures.items,
    )
