-- What is left to add to what there is gives the whole, and the marks tell what there is.
use Rattle.std.proofs.Common.{◌≡◌, drop, length}
use Rattle.undertaker.specs.Marks.{Marked, added}
use Rattle.undertaker.proofs.closing.add.Given as goal

abbrev pub invariant-loop-symbol : goal.invariant-loop-symbol
invariant-loop-symbol l = record {
  found : added l.found.items (drop l.symbol-index l.more) ≡ added l.initial.found.items l.more;
  marked : Marked l.marks l.found.items;
  count : length l.marks ≡ length l.initial.marks;
}
