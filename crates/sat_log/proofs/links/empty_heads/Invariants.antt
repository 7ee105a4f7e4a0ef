use Rattle.std.proofs.Common.{◌≡◌, vec_len}
use Rattle.std.specs.Prelude.{All}
use Rattle.sat_log.specs.Links.{none}
use Rattle.sat_log.proofs.links.empty_heads.Given as goal

abbrev pub invariant-loop-i : goal.invariant-loop-i
invariant-loop-i l = (vec_len l.heads ≡ l.i) × All (λ first. first ≡ none) l.heads.items
