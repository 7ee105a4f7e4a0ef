-- What stands after the parts that are left stands after all.
use Rattle.std.proofs.Common.{◌≡◌, length}
use Rattle.kconf_cut.specs.Reading.{after_unquoted}
use Rattle.kconf_cut.proofs.no_effect.after_parts.Given as goal

abbrev pub invariant-parts : goal.invariant-parts
invariant-parts l = after_unquoted l.rest ≡ after_unquoted l.text

abbrev pub decreases-parts : goal.decreases-parts
decreases-parts l = length l.rest
