use Rattle.std.proofs.Common.{◌≡◌, ◌≤◌, ◌+◌, length}
use Rattle.ut_text.specs.Lines.{lines_of}
use Rattle.kbuild_text.specs.Lines.{joined_lines}
use Rattle.kbuild_text.specs.Listings as spec
use Rattle.kbuild_text.proofs.listings.listings_of.Given as goal

abbrev pub invariant-loop-rest : goal.invariant-loop-rest
invariant-loop-rest l = record {
  so_far : spec.in_front l.reader.listings (spec.listed l.reader.chains (joined_lines l.number (lines_of l.rest))) ≡ spec.listings_in l.text;
  number : l.number + length l.rest ≤ 1 + length l.text;
  within : length l.rest ≤ length l.text;
}

abbrev pub decreases-loop-rest : goal.decreases-loop-rest
decreases-loop-rest l = length l.rest
