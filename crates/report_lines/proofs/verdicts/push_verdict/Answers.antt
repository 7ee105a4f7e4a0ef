use Rattle.std.proofs.Common.{◌≡◌, List, ◌++◌, subst, sym}
use Rattle.std.specs.Prelude.{OnOk, Ok, Result}
use Rattle.ut_text.specs.Bytes.{Bytes}
use Rattle.ut_report.specs.Lines.{text_of}
use Rattle.report_lines.specs.Shown.{AreUnder}
use Rattle.report_lines.proofs.WrittenLaws.{lines_written, nothing_under}
use Rattle.report_lines.proofs.verdicts.push_verdict.Goals as goal

pub returns-then-evidence : goal.returns-then-evidence
returns-then-evidence g c =
    let p = g.P.Reported.problem c.args.problem.now in
    let told = subst (λ e. OnOk c.push_shown.result ((under : List Bytes) × AreUnder p e c.args.block c.args.verdict.now under × c.push_shown.new.text.items ≡ c.push_block_line.new.text.items ++ text_of under))
    (sym c.if-evidence.true) c.push_shown.ensures in
    lines_written c.push_shown.result p c.args.block c.args.verdict.now c.args.text.now.items c.push_block_line.new.text.items c.push_shown.new.text.items c.args.evidence
    c.name-name.result.now c.steps_of.result c.word_of.result c.name-name.ensures c.steps_of.ensures c.word_of.ensures c.in_ok-push_block_line.ensures told

pub returns-else-evidence : goal.returns-else-evidence
returns-else-evidence g c =
    let p = g.P.Reported.problem c.args.problem.now in
    let done : Result (Unit {0}) (Unit {0}) = Ok tt in
    lines_written done p c.args.block c.args.verdict.now c.args.text.now.items c.push_block_line.new.text.items c.push_block_line.new.text.items c.args.evidence
    c.name-name.result.now c.steps_of.result c.word_of.result c.name-name.ensures c.steps_of.ensures c.word_of.ensures c.in_ok-push_block_line.ensures
    (nothing_under p c.args.evidence c.args.block c.args.verdict.now c.push_block_line.new.text.items c.if-evidence.false)
