use Rattle.std.proofs.Common.{◌≡◌, length}
use Rattle.kbuild_text.specs.Goals as spec
use Rattle.kbuild_text.proofs.goals.has_up_after.Given as goal

abbrev pub invariant-loop-rest : goal.invariant-loop-rest
invariant-loop-rest l = spec.has_up_after l.rest ≡ spec.has_up_after l.path

abbrev pub decreases-loop-rest : goal.decreases-loop-rest
decreases-loop-rest l = length l.rest
