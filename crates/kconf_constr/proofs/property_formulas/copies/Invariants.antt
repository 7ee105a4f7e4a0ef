use Rattle.std.proofs.Common.{◌≡◌, take}
use Rattle.kconf_constr.proofs.property_formulas.copies.Given as goal

abbrev pub invariant-loop-formula : goal.invariant-loop-formula
invariant-loop-formula l = l.all.items ≡ take l.formula-index l.formulas
