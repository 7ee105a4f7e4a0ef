use Rattle.std.proofs.Common.{◌≡◌, ◌++◌, map, take}
use Rattle.sat_log.specs.Codes.{code_of}
use Rattle.sat_log.proofs.store.push_codes.Given as goal

abbrev pub invariant-loop-lit : goal.invariant-loop-lit
invariant-loop-lit l = l.codes.items ≡ l.fn.codes.items ++ map code_of (take l.lit-index l.lits)
