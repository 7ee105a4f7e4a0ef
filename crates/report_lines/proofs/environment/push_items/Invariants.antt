use Rattle.std.proofs.Common.{◌≡◌, ◌++◌, drop}
use Rattle.std.specs.Prelude.{None}
use Rattle.std.specs.List.{flat_map}
use Rattle.ut_logic.specs.Assign.{is_in}
use Rattle.report_lines.specs.Inside.{after_last, item_text}
use Rattle.report_lines.proofs.environment.push_items.Given as goal

abbrev pub invariant-loop-item : goal.invariant-loop-item
invariant-loop-item g l =
    let text = item_text (g.P.Reported.problem l.problem) (is_in l.env) l.on in
    l.text.items ++ flat_map text (after_last l.last (drop l.item-index l.item-items))
    ≡ l.initial.text.items ++ flat_map text (after_last None l.item-items)
