-- What is held so far, and what the parts that are left hold.
use Rattle.std.proofs.Common.{◌≡◌, length}
use Rattle.kconf_cut.specs.Reading.{held_of, held_after}
use Rattle.kconf_cut.proofs.held.read_parts.Given as goal

abbrev pub invariant-parts : goal.invariant-parts
invariant-parts l = held_after l.held.items l.has_call (held_of l.vars l.run l.rest) ≡ held_of l.vars l.run l.text

abbrev pub decreases-parts : goal.decreases-parts
decreases-parts l = length l.rest
