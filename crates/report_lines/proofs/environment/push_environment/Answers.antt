use Rattle.std.proofs.Common.{◌≡◌, ◌++◌, subst}
use Rattle.std.specs.Prelude.{OnOk}
use Rattle.report_lines.proofs.EnvironmentLaws.{environment_text}
use Rattle.report_lines.proofs.environment.push_environment.Goals as goal

pub returns : goal.returns
returns g c =
    subst (λ t. OnOk c.push_items.result (c.push_items.new.text.items ≡ c.args.text.now.items ++ t))
    (environment_text (g.P.Reported.problem c.args.problem.now) c.args.on c.args.whole.now c.requires c.push_items.ensures.sorted c.blocks-blocks.ensures.formed) c.push_items.ensures.text
