-- What is left decides.
use Rattle.std.proofs.Common.{◌≡◌, drop}
use Rattle.cpp_read.specs.SignsOver.{signs_fit, outermost}
use Rattle.cpp_read.proofs.signs_over.signs_fit.Given as goal

abbrev pub invariant-loop-token : goal.invariant-loop-token
invariant-loop-token l = signs_fit l.over (drop l.token-index l.tokens) ≡ signs_fit outermost l.tokens
