-- What has been added, and what the rest adds, are the whole.
use Rattle.std.proofs.Common.{◌≡◌, ◌++◌, drop, map}
use Rattle.kconf_constr.specs.ChoiceFormulas.{not_both}
use Rattle.kconf_constr.proofs.choice_formulas.add_pairs_with.Given as goal

abbrev pub invariant-loop-other : goal.invariant-loop-other
invariant-loop-other l = l.holds.items ++ map (not_both l.member) (drop l.other-index l.later) ≡ l.fn.holds.items ++ map (not_both l.member) l.later
