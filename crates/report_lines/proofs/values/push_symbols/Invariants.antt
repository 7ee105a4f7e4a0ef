use Rattle.std.proofs.Common.{◌≡◌, ◌++◌, drop}
use Rattle.complete_conf.specs.Config.{by_lists}
use Rattle.ut_report.specs.Groups.{each_from, symbol_value}
use Rattle.report_lines.proofs.values.push_symbols.Given as goal

abbrev pub invariant-loop-sym : goal.invariant-loop-sym
invariant-loop-sym l =
    l.text.items ++ each_from (symbol_value (by_lists l.config)) l.sym (drop l.sym l.tree.shape.symbols)
    ≡ l.initial.text.items ++ each_from (symbol_value (by_lists l.config)) 0 l.tree.shape.symbols
