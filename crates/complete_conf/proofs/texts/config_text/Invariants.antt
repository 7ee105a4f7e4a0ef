-- The lines of the earlier ones.
use Rattle.std.proofs.Common.{◌≡◌}
use Rattle.std.specs.List.{flat_map, range_with_len}
use Rattle.complete_conf.specs.Config.{by_lists}
use Rattle.complete_conf.specs.Text.{symbol_line}
use Rattle.complete_conf.proofs.texts.config_text.Given as goal

abbrev pub invariant-loop-sym : goal.invariant-loop-sym
invariant-loop-sym l = l.text.items ≡ flat_map (symbol_line l.tree.shape (by_lists l.config)) (range_with_len 0 l.sym)
