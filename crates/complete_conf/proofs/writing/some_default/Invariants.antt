-- What is left decides.
use Rattle.std.proofs.Common.{◌≡◌, ◌==◌, not, drop}
use Rattle.std.specs.List.{list_any}
use Rattle.kconf_entries.specs.declared.entries.DefaultOf.{DefaultOf}
use Rattle.kconf_tree.specs.Value.{value_of}
use Rattle.complete_conf.specs.Config.{by_lists}
use Rattle.complete_conf.proofs.writing.some_default.Given as goal

abbrev pub invariant-loop-default : goal.invariant-loop-default
invariant-loop-default l = list_any (λ (d : DefaultOf). not (value_of l.tree.shape (by_lists l.config) d.cond == 0)) l.defaults
    ≡ list_any (λ (d : DefaultOf). not (value_of l.tree.shape (by_lists l.config) d.cond == 0)) (drop l.default-index l.defaults)
