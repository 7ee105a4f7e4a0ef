-- What is left shows what is still to be read.
use Rattle.std.proofs.Common.{◌≡◌, length}
use Rattle.cpp_read.specs.Comments.{uncommented}
use Rattle.cpp_read.proofs.uncommented.Uncommented.next.Given as goal

abbrev pub invariant-loop-placed : goal.invariant-loop-placed
invariant-loop-placed l = uncommented l.self-inside.mode l.self-inside.cursor ≡ l.fn.self

abbrev pub decreases-loop-placed : goal.decreases-loop-placed
decreases-loop-placed l = length l.self-inside.cursor
