-- What has been added, and what the rest adds, are the whole.
use Rattle.std.proofs.Common.{◌≡◌, ◌++◌, drop}
use Rattle.kconf_constr.specs.ChoiceFormulas.{pairs}
use Rattle.kconf_constr.proofs.choice_formulas.add_pairs.Given as goal

abbrev pub invariant-loop-place : goal.invariant-loop-place
invariant-loop-place l = l.holds.items ++ pairs (drop l.place l.members) ≡ l.fn.holds.items ++ pairs l.members
