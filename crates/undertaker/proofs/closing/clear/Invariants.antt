-- A symbol that isn't left to be cleared has no mark.
use Rattle.std.proofs.Common.{◌≡◌, ◌<◌, ℕ, false, drop, length, get_or}
use Rattle.undertaker.specs.Dependencies.{is_among}
use Rattle.undertaker.proofs.closing.clear.Given as goal

abbrev pub invariant-loop-symbol : goal.invariant-loop-symbol
invariant-loop-symbol l = record {
  count : length l.marks ≡ length l.initial.marks;
  unmarked : (k : ℕ) → k < length l.marks → is_among (drop l.symbol-index l.found) k ≡ false → get_or l.marks k false ≡ false;
}
