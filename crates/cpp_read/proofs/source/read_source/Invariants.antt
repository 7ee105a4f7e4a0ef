-- What is read and what is left make the whole.
use Rattle.std.proofs.Common.{◌≡◌, List, length}
use Rattle.cpp_directives.specs.Chains.{Earlier}
use Rattle.cpp_directives.specs.Stack.{IsStackOf}
use Rattle.cpp_read.specs.Directives.{Read, read_lines, read_of}
use Rattle.cpp_read.specs.LineSteps.{marked_from}
use Rattle.cpp_read.specs.SpanSteps.{Keeps, reads_after}
use Rattle.cpp_read.proofs.source.read_source.Given as goal

abbrev pub invariant-lines : goal.invariant-lines
invariant-lines l = (before : List Earlier) × (front : List Read) × IsStackOf l.chains before × Keeps l.source front
    × (reads_after front (read_lines before (marked_from l.start l.last l.uncommented)) ≡ read_of l.fn.bytes)

abbrev pub decreases-lines : goal.decreases-lines
decreases-lines l = length l.uncommented
