-- What is taken and what is left of the line make the whole line.
use Rattle.std.proofs.Common.{◌≡◌, ◌++◌, length}
use Rattle.cpp_read.specs.LogicalLines.{bytes_of, ends_of}
use Rattle.cpp_read.specs.LineSteps.{after_line, line_of, newline_end}
use Rattle.cpp_read.proofs.uncommented.Uncommented.take_line.Given as goal

abbrev pub invariant-loop-placed : goal.invariant-loop-placed
invariant-loop-placed l = record {
  text : l.text.bytes.items ++ bytes_of (line_of l.self) ≡ l.fn.text.bytes.items ++ bytes_of (line_of l.fn.self);
  ends : l.text.ends.items ++ ends_of (line_of l.self) ≡ l.fn.text.ends.items ++ ends_of (line_of l.fn.self);
  after : after_line l.self ≡ after_line l.fn.self;
  end : newline_end l.self ≡ newline_end l.fn.self;
}

abbrev pub decreases-loop-placed : goal.decreases-loop-placed
decreases-loop-placed l = length l.self
