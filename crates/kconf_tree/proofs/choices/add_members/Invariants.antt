-- What is left gives the rest.
use Rattle.std.proofs.Common.{◌≡◌, drop, length}
use Rattle.kconf_tree.specs.Choosing.{with_members}
use Rattle.kconf_tree.proofs.choices.add_members.Given as goal

abbrev pub invariant-loop-number : goal.invariant-loop-number
invariant-loop-number l = record { count : length l.choices.items ≡ length l.fn.choices.items; left : with_members l.choices.items l.number (drop l.number l.symbols) ≡ with_members l.fn.choices.items 0 l.symbols }
