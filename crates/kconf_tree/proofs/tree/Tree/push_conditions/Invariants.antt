-- What has been added, and what the rest adds, are the whole.
use Rattle.std.proofs.Common.{◌≡◌, ◌++◌, drop}
use Rattle.std.specs.List.{flat_map}
use Rattle.kconf_entries.specs.declared.entries.SelectOf.{SelectOf}
use Rattle.kconf_tree.specs.Undeclared.{undeclared_in}
use Rattle.kconf_tree.proofs.tree.Tree.push_conditions.Given as goal

abbrev pub invariant-loop-select : goal.invariant-loop-select
invariant-loop-select l = l.names.items ++ flat_map (λ (s : SelectOf). undeclared_in l.self.shape s.cond) (drop l.select-index l.selects) ≡ l.fn.names.items ++ flat_map (λ (s : SelectOf). undeclared_in l.self.shape s.cond) l.selects
