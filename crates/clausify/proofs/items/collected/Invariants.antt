-- What is collected has the items so far.
use Rattle.std.proofs.Common.{◌≡◌, take}
use Rattle.ut_logic.specs.declared.item.Item.{Item}
use Rattle.ut_logic.specs.Assign.{is_in}
use Rattle.clausify.proofs.items.collected.Given as goal

abbrev pub invariant-loop-item : goal.invariant-loop-item
invariant-loop-item l = (i : Item) → is_in l.set.keys i ≡ is_in (take l.item-index l.items) i
