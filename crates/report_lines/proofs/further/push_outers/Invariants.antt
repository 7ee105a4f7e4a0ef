use Rattle.std.proofs.Common.{◌≡◌, ◌++◌, drop, codes}
use Rattle.ut_case.specs.Numbering.{outers_of}
use Rattle.ut_case.specs.Wholes.{case_of}
use Rattle.ut_report.specs.Groups.{each_from, outer_line}
use Rattle.report_lines.specs.Inside.{kind_text}
use Rattle.report_lines.proofs.further.push_outers.Given as goal

abbrev pub invariant-loop-number : goal.invariant-loop-number
invariant-loop-number g l =
    let p = g.P.Reported.problem l.problem in
    l.text.items ++ kind_text l.on (codes "outer") (each_from (outer_line (case_of p l.whole).configuration) l.number (drop l.number (outers_of p)))
    ≡ l.initial.text.items ++ kind_text l.on (codes "outer") (each_from (outer_line (case_of p l.whole).configuration) 0 (outers_of p))
