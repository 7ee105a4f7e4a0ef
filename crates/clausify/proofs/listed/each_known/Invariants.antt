-- What is left decides.
use Rattle.std.proofs.Common.{◌≡◌, drop}
use Rattle.std.specs.List.{list_all}
use Rattle.ut_logic.specs.declared.item.Item.{Item}
use Rattle.ut_logic.specs.Assign.{is_in}
use Rattle.clausify.proofs.listed.each_known.Given as goal

abbrev pub invariant-loop-item : goal.invariant-loop-item
invariant-loop-item l = list_all (λ (i : Item). is_in l.known.keys i) l.items ≡ list_all (λ (i : Item). is_in l.known.keys i) (drop l.item-index l.items)
