-- The copies so far are the first of the list.
use Rattle.std.proofs.Common.{◌≡◌, take}
use Rattle.kconf_entries.proofs.expr.+copy.Given as goal

abbrev pub invariant-copy_each-loop-part : goal.invariant-copy_each-loop-part
invariant-copy_each-loop-part l = l.copies.items ≡ take l.part-index l.list
