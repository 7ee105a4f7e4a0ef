use Rattle.std.proofs.Common.{◌≡◌, ◌++◌, drop, codes}
use Rattle.complete_conf.specs.Config.{by_lists}
use Rattle.ut_report.specs.Groups.{each_from, choice_line}
use Rattle.report_lines.specs.Inside.{kind_text}
use Rattle.report_lines.proofs.further.push_modes.Given as goal

abbrev pub invariant-loop-choice : goal.invariant-loop-choice
invariant-loop-choice l =
    l.text.items ++ kind_text l.on (codes "choice") (each_from (choice_line (by_lists l.config)) l.choice (drop l.choice l.tree.shape.choices))
    ≡ l.initial.text.items ++ kind_text l.on (codes "choice") (each_from (choice_line (by_lists l.config)) 0 l.tree.shape.choices)
