-- What has been added, and what the rest adds, are the whole.
use Rattle.std.proofs.Common.{◌≡◌, ◌++◌, drop}
use Rattle.std.specs.List.{flat_map}
use Rattle.kconf_entries.specs.declared.entries.SelectOf.{SelectOf}
use Rattle.kconf_tree.specs.Gathered.{outers_in}
use Rattle.kconf_tree.specs.Types.{typed}
use Rattle.kconf_tree.proofs.outers.push_conditions.Given as goal

abbrev pub invariant-loop-select : goal.invariant-loop-select
invariant-loop-select l = l.texts.items ++ flat_map (λ (s : SelectOf). outers_in (typed l.types) s.cond) (drop l.select-index l.selects) ≡ l.fn.texts.items ++ flat_map (λ (s : SelectOf). outers_in (typed l.types) s.cond) l.selects
