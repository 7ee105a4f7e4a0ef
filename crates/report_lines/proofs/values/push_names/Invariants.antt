use Rattle.std.proofs.Common.{◌≡◌, ◌++◌, List, drop}
use Rattle.ut_logic.specs.declared.item.Item.{Item}
use Rattle.ut_case.specs.Wholes.{named_configuration}
use Rattle.ut_report.specs.Groups.{each_from, name_value}
use Rattle.report_lines.proofs.values.push_names.Given as goal

abbrev pub invariant-loop-number : goal.invariant-loop-number
invariant-loop-number l = (env : List Item) →
    l.text.items ++ each_from (name_value (named_configuration l.truths env)) l.number (drop l.number l.names)
    ≡ l.initial.text.items ++ each_from (name_value (named_configuration l.truths env)) 0 l.names
