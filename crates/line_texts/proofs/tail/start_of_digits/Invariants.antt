use Rattle.std.proofs.Common.{◌≡◌, ◌≤◌, drop, length, true}
use Rattle.std.specs.List.{list_all}
use Rattle.ut_text.specs.ByteClasses.{is_digit}
use Rattle.line_texts.proofs.tail.start_of_digits.Given as goal

abbrev pub invariant-loop-start : goal.invariant-loop-start
invariant-loop-start l = record {
  within : l.start ≤ length l.text;
  digits : list_all is_digit (drop l.start l.text) ≡ true;
}

abbrev pub decreases-loop-start : goal.decreases-loop-start
decreases-loop-start l = l.start
