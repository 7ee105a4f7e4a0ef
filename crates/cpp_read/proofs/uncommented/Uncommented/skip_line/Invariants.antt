-- What is after the line, and where it ends, is that of what is left of it.
use Rattle.std.proofs.Common.{◌≡◌, length}
use Rattle.cpp_read.specs.LineSteps.{after_line, newline_end}
use Rattle.cpp_read.proofs.uncommented.Uncommented.skip_line.Given as goal

abbrev pub invariant-loop-placed : goal.invariant-loop-placed
invariant-loop-placed l = record {
  after : after_line l.self ≡ after_line l.fn.self;
  end : newline_end l.self ≡ newline_end l.fn.self;
}

abbrev pub decreases-loop-placed : goal.decreases-loop-placed
decreases-loop-placed l = length l.self
