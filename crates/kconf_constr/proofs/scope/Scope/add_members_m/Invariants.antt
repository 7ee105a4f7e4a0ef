-- What has been added, and what the rest adds, are the whole.
use Rattle.std.proofs.Common.{◌≡◌, ◌++◌, drop}
use Rattle.std.specs.List.{flat_map}
use Rattle.ut_logic.specs.declared.item.Item.TheVariants.{ModeM}
use Rattle.ut_logic.specs.declared.formula.Formula.TheVariants.{Is}
use Rattle.kconf_constr.specs.ChoiceFormulas.{member_m_holds}
use Rattle.kconf_constr.proofs.scope.Scope.add_members_m.Given as goal

abbrev pub invariant-loop-member : goal.invariant-loop-member
invariant-loop-member l = l.holds.items ++ flat_map (member_m_holds l.self (Is (ModeM l.choice))) (drop l.member-index l.members) ≡ l.fn.holds.items ++ flat_map (member_m_holds l.self (Is (ModeM l.choice))) l.members
