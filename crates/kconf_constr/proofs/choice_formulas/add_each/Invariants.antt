-- What has been added, and what the rest adds, are the whole.
use Rattle.std.proofs.Common.{◌≡◌, ◌++◌, drop}
use Rattle.kconf_constr.specs.ChoiceFormulas.{are_y}
use Rattle.kconf_constr.proofs.choice_formulas.add_each.Given as goal

abbrev pub invariant-loop-member : goal.invariant-loop-member
invariant-loop-member l = l.formulas.items ++ are_y (drop l.member-index l.members) ≡ l.fn.formulas.items ++ are_y l.members
