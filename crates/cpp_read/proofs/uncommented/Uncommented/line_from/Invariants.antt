-- Only blanks were passed.
use Rattle.std.proofs.Common.{◌≡◌, ℕ, ◌∷◌, ◌≤◌, [], length}
use Rattle.cpp_read.specs.LogicalLines.{marked}
use Rattle.cpp_read.specs.LineSteps.{after_line, line_of, newline_end}
use Rattle.cpp_read.proofs.uncommented.Uncommented.line_from.Given as goal

abbrev pub invariant-loop-placed : goal.invariant-loop-placed
invariant-loop-placed l = record {
  bytes : l.text.bytes.items ≡ [];
  ends : l.text.ends.items ≡ [];
  marked : (start end : ℕ) → marked start end (line_of (l.placed ∷ l.self)) ≡ marked start end (line_of (l.fn.first ∷ l.fn.self));
  after : after_line (l.placed ∷ l.self) ≡ after_line (l.fn.first ∷ l.fn.self);
  end : newline_end (l.placed ∷ l.self) ≡ newline_end (l.fn.first ∷ l.fn.self);
  shorter : length l.self ≤ length l.fn.self;
}

abbrev pub decreases-loop-placed : goal.decreases-loop-placed
decreases-loop-placed l = length l.self
