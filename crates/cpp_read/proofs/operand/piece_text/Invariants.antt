-- What is written and what is left make the whole.
use Rattle.std.proofs.Common.{◌≡◌, ◌++◌, drop, string_bytes}
use Rattle.cpp_read.specs.Operands.{piece_text}
use Rattle.cpp_read.specs.ConditionSteps.{spaced}
use Rattle.cpp_read.proofs.operand.piece_text.Given as goal

abbrev pub invariant-loop-token : goal.invariant-loop-token
invariant-loop-token l = string_bytes l.text ++ spaced l.is_first (drop l.token-index l.tokens) ≡ piece_text l.tokens
