-- What is taken and what is left make the whole.
use Rattle.std.proofs.Common.{◌≡◌, ◌++◌, length}
use Rattle.cpp_read.specs.Tokens.{tokens_of}
use Rattle.cpp_read.proofs.tokens.tokens_of.Given as goal

abbrev pub invariant-loop-bytes : goal.invariant-loop-bytes
invariant-loop-bytes l = l.list.items ++ tokens_of l.rest ≡ tokens_of l.text

abbrev pub decreases-loop-bytes : goal.decreases-loop-bytes
decreases-loop-bytes l = length l.rest
