use Rattle.std.proofs.Common.{[], ◌∷◌, ◌++◌, sym, ap, ◌∙◌, codes}
use Rattle.std.specs.List.{flat_map}
use Rattle.ut_case.specs.Numbering.{outers_of}
use Rattle.ut_case.specs.Wholes.{case_of}
use Rattle.ut_report.specs.Groups.{choice_lines, each_from, group_word, kind_lines, outer_line, values_text}
use Rattle.ut_report.specs.Lines.{text_of}
use Rattle.report_lines.specs.Inside.{environment_kinds}
use Rattle.report_lines.proofs.WrittenLaws.{four_written, group_parts, on_ok}
use Rattle.report_lines.proofs.groups.push_group.Goals as goal

pub returns : goal.returns
returns g c =
    let p = g.P.Reported.problem c.args.problem.now in
    let x = case_of p c.args.whole.now in
    let on = c.args.on in
    let old = c.args.text.now.items in
    let first = group_word on ++ codes ":" ++ values_text p.basis x.configuration in
    let choices = kind_lines on (record { tag = codes "choice"; lines = choice_lines p.basis x.configuration }) in
    let outers = kind_lines on (record { tag = codes "outer"; lines = each_from (outer_line x.configuration) 0 (outers_of p) }) in
    let others = flat_map (kind_lines on) (environment_kinds p x) in
    on_ok c.push_environment.result (λ e.
    four_written old c.push_first_line.new.text.items c.push_choices.new.text.items c.push_outers.new.text.items c.push_environment.new.text.items (text_of (first ∷ [])) (text_of choices) (text_of outers) (text_of others)
    c.in_ok-push_first_line.ensures c.in_ok-push_choices.ensures c.in_ok-push_outers.ensures e
    ∙ ap (λ t. old ++ t) (sym (group_parts first choices outers others))) c.push_environment.ensures
