use Rattle.std.proofs.Common.{◌≡◌, vec_len}
use Rattle.std.specs.Prelude.{All}
use Rattle.sat_log.specs.declared.values.Value.{Value}
use Rattle.sat_log.specs.declared.values.Value.TheVariants.{Unset}
use Rattle.sat_log.proofs.values.unset_values.Given as goal

abbrev pub invariant-loop-i : goal.invariant-loop-i
invariant-loop-i l = (vec_len l.values ≡ l.i) × All (λ (x : Value). x ≡ Unset) l.values.items
