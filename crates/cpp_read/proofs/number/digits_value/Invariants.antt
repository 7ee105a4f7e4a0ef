-- What is left of the digits leads to the value of all.
use Rattle.std.proofs.Common.{◌≡◌, ◌<◌, ◌^◌, drop}
use Rattle.cpp_read.specs.Numbers.{digits}
use Rattle.cpp_read.specs.NumberSteps.{base_of}
use Rattle.cpp_read.proofs.number.digits_value.Given as goal

abbrev pub invariant-loop-byte : goal.invariant-loop-byte
invariant-loop-byte l = record {
  left : digits (base_of l.base) l.value (drop l.byte-index l.text) ≡ digits (base_of l.base) 0 l.text;
  fits : l.value < 2 ^ 128;
}
