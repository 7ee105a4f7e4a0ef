use Rattle.report_lines.proofs.WrittenLaws.{live_written, undead_written, undecided_written}
use Rattle.report_lines.proofs.verdicts.push_shown.Goals as goal

pub returns-in_ok-clauses-in-Undead : goal.returns-in_ok-clauses-in-Undead
returns-in_ok-clauses-in-Undead g c =
    undead_written c.push_steps-in-Undead.result (g.P.Reported.problem c.args.problem.now) c.args.block c.args.verdict.now c.args.text.now.items c.push_group.new.text.items c.push_steps-in-Undead.new.text.items
    c.in-Undead.class c.in-Undead.why c.in-Undead.on c.in_ok-clauses-in-Undead.clauses c.in-Undead.is c.in_ok-push_group-in-Undead.ensures c.in_ok-clauses-in-Undead.ensures.count
    c.push_steps-in-Undead.ensures.text c.push_steps-in-Undead.ensures.numbers c.push_steps-in-Undead.ensures.printable

pub returns-in_ok-push_group-in-Live : goal.returns-in_ok-push_group-in-Live
returns-in_ok-push_group-in-Live g c =
    live_written c.push_group-in-Live-2.result (g.P.Reported.problem c.args.problem.now) c.args.block c.args.verdict.now c.args.text.now.items c.push_group-in-Live.new.text.items c.push_group-in-Live-2.new.text.items
    c.in-Live.on c.in-Live.off c.in-Live.is c.in_ok-push_group-in-Live.ensures c.push_group-in-Live-2.ensures

pub returns-in-Undecided : goal.returns-in-Undecided
returns-in-Undecided g c =
    undecided_written c.push_group_if.result (g.P.Reported.problem c.args.problem.now) c.args.block c.args.verdict.now c.args.text.now.items c.args.text.now.items c.push_group_if.new.text.items
    c.in-Undecided.ask c.in-Undecided.steps c.in-Undecided.on c.in-Undecided.is c.push_group_if.ensures
