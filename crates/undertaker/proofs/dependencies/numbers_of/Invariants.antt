-- The numbers so far and those of what is left are all.
use Rattle.std.proofs.Common.{◌≡◌, ◌++◌, drop}
use Rattle.undertaker.specs.Dependencies.{names_of_members, numbers_of}
use Rattle.undertaker.proofs.dependencies.numbers_of.Given as goal

abbrev pub invariant-loop-member : goal.invariant-loop-member
invariant-loop-member l = l.numbers.items ++ numbers_of l.names (names_of_members (drop l.member-index l.members)) ≡ numbers_of l.names (names_of_members l.members)
