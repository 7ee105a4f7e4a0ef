-- What is left decides.
use Rattle.std.proofs.Common.{◌≡◌, ◌≤◌, drop}
use Rattle.kconf_exprs.specs.Scan.{scan}
use Rattle.kconf_exprs.specs.declared.lengths.Wants.TheVariants.{Operand}
use Rattle.kconf_exprs.proofs.lengths.scanned_len.Given as goal

abbrev pub invariant-loop-word : goal.invariant-loop-word
invariant-loop-word l = record {
  index : l.count ≡ l.word-index;
  depth : l.depth ≤ l.count;
  left : scan l.wants l.depth (drop l.word-index l.words) ≡ scan Operand 0 l.words;
}
