use Rattle.std.proofs.Common.{◌≡◌, ◌-◌, ◌/◌, get_or, take}
use Rattle.std.specs.Prelude.{All}
use Rattle.sat_log.specs.declared.values.Value.TheVariants.{Unset}
use Rattle.sat_log.proofs.values.unset_code.Given as goal

abbrev pub invariant-loop-code : goal.invariant-loop-code
invariant-loop-code l = All (λ code. ¬ (get_or l.values (code / 2 - 1) Unset ≡ Unset)) (take l.code-index l.codes)
