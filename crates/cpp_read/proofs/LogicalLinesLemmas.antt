-- Laws of logical lines: the text's marked lines are those of its first line and of what stands after it.
use Rattle.std.proofs.Common.{◌≡◌, ℕ, ◌≤◌, ◌∷◌, ◌++◌, ◌==◌, Bool, true, false, List, [], cond, length, suc, refl, ap, ◌∙◌, arith}
use Rattle.std.proofs.lemmas.List.{append-nil}
use Rattle.std.specs.List.{flat_map}
use Rattle.cpp_read.specs.declared.cursor.PlacedByte.{PlacedByte}
use Rattle.cpp_read.specs.LogicalLines.{LogicalLine, Marked, marked, cut, marked_lines}
use Rattle.cpp_read.specs.LineSteps.{line_of, after_line, newline_end, line_end, marked_from}

pub after_shorter : (s : List PlacedByte) → length (after_line s) ≤ length s
after_shorter [] = omega arith
after_shorter (c ∷ s) = by (c.byte == 10) (after_shorter s)
  where
    by : (b : Bool) → length (after_line s) ≤ length s → length (cond b s (after_line s)) ≤ suc (length s)
    by true h = omega arith
    by false h = omega arith

-- the first line, and lines that show what the text after it shows
record Cuts (start end : ℕ) (s : List PlacedByte) : Type 0 where
  more : List LogicalLine
  is : cut start end s ≡ record { start = start; end = line_end end s; left = line_of s } ∷ more
  same : marked_lines more ≡ marked_lines (cut (line_end end s) end (after_line s))

cuts : (start end : ℕ) (s : List PlacedByte) → Cuts start end s
cuts start end [] = record { more = []; is = refl; same = refl }
cuts start end (c ∷ s) = by (c.byte == 10) refl (cuts start end s)
  where
    by : (b : Bool) → (c.byte == 10) ≡ b → Cuts start end s → Cuts start end (c ∷ s)
    by true e h = record { more = cut c.end end s; is = rw e refl; same = rw e refl }
    by false e h = record { more = h.more; is = rw (e, h.is) refl; same = rw e h.same }

pub marked_step : (start end : ℕ) (s : List PlacedByte) → marked_from start end s ≡ marked start (line_end end s) (line_of s) ++ marked_from (line_end end s) end (after_line s)
marked_step start end s = ap marked_lines (cuts start end s).is ∙ ap (λ (ms : List Marked). marked start (line_end end s) (line_of s) ++ ms) (cuts start end s).same
