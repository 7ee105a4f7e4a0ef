-- Formulas with other items in place of their own. The usual substitution of variables.
use Rattle.ut_logic.specs.declared.item.Item.{Item}
use Rattle.ut_logic.specs.declared.formula.Formula.{Formula}
use Rattle.ut_logic.specs.declared.formula.Formula.TheOpen.{Formula-F}
use Rattle.ut_logic.specs.declared.formula.Formula.TheFolds.{fold-Formula}
use Rattle.ut_logic.specs.declared.formula.Formula.TheVariants.{Yes, No, Is, Neg, AllOf, AnyOf}

-- one layer of a formula with its item renamed, and each inner formula renamed already
abbrev pub rename_step : (Item → Item) → Formula-F Formula → Formula
rename_step r Formula-F.Yes = Yes
rename_step r Formula-F.No = No
rename_step r (Formula-F.Is item) = Is (r item)
rename_step r (Formula-F.Neg f) = Neg f
rename_step r (Formula-F.AllOf fs) = AllOf fs
rename_step r (Formula-F.AnyOf fs) = AnyOf fs

-- the formula with r of each item in that item's place
abbrev pub renamed : (Item → Item) → Formula → Formula
renamed r = fold-Formula Formula (rename_step r)
