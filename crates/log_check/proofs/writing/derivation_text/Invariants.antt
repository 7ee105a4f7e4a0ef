use Rattle.std.proofs.Common.{◌≡◌, ◌+◌, ◌^◌, ◌≤◌, take}
use Rattle.std.specs.Prelude.{All}
use Rattle.log_check.specs.DerivationText.{text_of, IsPrintable}
use Rattle.log_check.proofs.writing.derivation_text.Given as goal

abbrev pub invariant-loop-at : goal.invariant-loop-at
invariant-loop-at l = record {
  text : l.text.items ≡ text_of (l.count + 1) (take l.at l.lines);
  last : l.count + 1 + l.at ≤ 2 ^ 64;
  printable : All IsPrintable (take l.at l.lines);
}
