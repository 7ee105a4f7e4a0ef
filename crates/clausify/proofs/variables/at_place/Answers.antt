use Rattle.std.proofs.Common.{sym, subst}
use Rattle.std.proofs.lemmas.Map.Made.{AllPairs-from_IsDistinct}
use Rattle.ut_logic.specs.ItemIdentity.{item_eq-Decides}
use Rattle.ut_logic.specs.Variables.{AreDistinct}
use Rattle.clausify.proofs.variables.at_place.Goals as goal

pub at-requires : goal.at-requires
at-requires c = subst AreDistinct (sym c.as_slice.ensures.keys) (AllPairs-from_IsDistinct item_eq-Decides _ c.as_slice.ensures.unique)
