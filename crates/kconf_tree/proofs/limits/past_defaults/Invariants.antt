-- The rest gives the same answer as the whole.
use Rattle.std.proofs.Common.{◌≡◌, drop, map, length}
use Rattle.ut_base.specs.declared.limits.Limit.TheVariants.{Defaults}
use Rattle.kconf_tree.specs.declared.shape.Symbol.{Symbol}
use Rattle.kconf_tree.specs.Limits.{first_past, max_defaults}
use Rattle.kconf_tree.proofs.limits.past_defaults.Given as goal

abbrev pub invariant-loop-symbol : goal.invariant-loop-symbol
invariant-loop-symbol l = first_past Defaults max_defaults (map (λ (s : Symbol). length s.defaults) (drop l.symbol-index l.symbols)) ≡ first_past Defaults max_defaults (map (λ (s : Symbol). length s.defaults) l.symbols)
