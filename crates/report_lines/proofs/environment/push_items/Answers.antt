use Rattle.ut_logic.specs.Assign.{is_in}
use Rattle.report_lines.specs.Inside.{item_text}
use Rattle.report_lines.proofs.WrittenLaws.{all_written}
use Rattle.report_lines.proofs.environment.push_items.Goals as goal

pub returns-clause-text : goal.returns-clause-text
returns-clause-text g c =
    all_written (item_text (g.P.Reported.problem c.args.problem.now) (is_in c.args.env.now) c.args.on) c.loop-item.text.items c.args.text.now.items c.loop-item.last c.loop-item.item-index
    c.items-item-items.result.now c.args.env.now c.loop-item-test.false c.items-item-items.ensures.value c.loop-item.invariant
