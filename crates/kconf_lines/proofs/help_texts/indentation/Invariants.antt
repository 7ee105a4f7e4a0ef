-- The column so far, and the blanks that are left.
use Rattle.std.proofs.Common.{◌≡◌, ◌≤◌, ◌*◌, drop}
use Rattle.kconf_lines.specs.HelpTexts.{indented_from}
use Rattle.kconf_lines.proofs.help_texts.indentation.Given as goal

abbrev pub invariant-loop-byte : goal.invariant-loop-byte
invariant-loop-byte l = record {
  near : l.column ≤ 8 * l.byte-index;
  left : indented_from l.column (drop l.byte-index l.line) ≡ indented_from 0 l.line;
}
