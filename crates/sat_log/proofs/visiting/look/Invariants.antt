use Rattle.std.proofs.Common.{take}
use Rattle.sat_log.proofs.Looking.{AreFalseSoFar}
use Rattle.sat_log.proofs.visiting.look.Given as goal

abbrev pub invariant-loop-code : goal.invariant-loop-code
invariant-loop-code l = AreFalseSoFar l.values (take l.code-index l.codes) l.other
