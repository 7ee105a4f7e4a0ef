-- What has been added, and what the rest adds, are the whole.
use Rattle.std.proofs.Common.{◌≡◌, ◌++◌, drop, map}
use Rattle.ut_logic.specs.declared.item.Item.TheVariants.{ModeY}
use Rattle.ut_logic.specs.declared.formula.Formula.TheVariants.{Is}
use Rattle.kconf_constr.specs.ChoiceFormulas.{some_holds}
use Rattle.kconf_constr.proofs.scope.Scope.add_some_y.Given as goal

abbrev pub invariant-loop-member : goal.invariant-loop-member
invariant-loop-member l = l.holds.items ++ map (some_holds l.self (Is (ModeY l.choice)) l.members) (drop l.member-index l.members) ≡ l.fn.holds.items ++ map (some_holds l.self (Is (ModeY l.choice)) l.members) l.members
