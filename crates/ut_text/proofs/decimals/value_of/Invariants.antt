use Rattle.std.proofs.Common.{◌≡◌, ◌<◌, ◌^◌, drop}
use Rattle.ut_text.specs.Decimals.{value_after}
use Rattle.ut_text.proofs.decimals.value_of.Given as goal

abbrev pub invariant-loop-digit : goal.invariant-loop-digit
invariant-loop-digit l = record {
  fits : l.value < 2 ^ 64;
  same : value_after l.value (drop l.digit-index l.digits) ≡ value_after 0 l.digits;
}
