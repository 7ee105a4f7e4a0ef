use Rattle.std.proofs.Common.{◌<◌, ◌++◌, length, ap, ◌∙◌, arith, codes}
use Rattle.complete_conf.specs.Config.{by_lists}
use Rattle.ut_report.specs.Groups.{choice_line}
use Rattle.report_lines.specs.Inside.{kind_text, mode_lines}
use Rattle.report_lines.proofs.TextLaws.{each_on, kind_text-append}
use Rattle.report_lines.proofs.WrittenLaws.{some_of}
use Rattle.report_lines.proofs.further.push_modes.Goals as goal

pub loop-choice-preserved : goal.loop-choice-preserved
loop-choice-preserved c =
    let choices = c.args.tree.now.shape.choices in
    let lt : c.loop-choice.choice < length choices = omega (arith, c.loop-choice-test.true, c.choices-choice-end.ensures) in
    each_on (kind_text c.args.on (codes "choice")) (kind_text-append c.args.on (codes "choice")) (choice_line (by_lists c.args.config.now))
    c.loop-choice.text.items c.push_choice.new.text.items _ c.loop-choice.choice choices (some_of choices c.loop-choice.choice lt) lt c.loop-choice.invariant
    (c.in_ok-push_choice.ensures ∙ ap (λ m. c.loop-choice.text.items ++ kind_text c.args.on (codes "choice") (mode_lines m c.loop-choice.choice)) c.mode.ensures)
