-- What is counted and what is left.
use Rattle.std.proofs.Common.{◌≡◌, ◌+◌, drop, false}
use Rattle.cpp_read.specs.Tokens.{number_len}
use Rattle.cpp_read.proofs.tokens.number_len.Given as goal

abbrev pub invariant-loop-byte : goal.invariant-loop-byte
invariant-loop-byte l = record {
  index : l.count ≡ l.byte-index;
  left : l.count + number_len l.signed (drop l.byte-index l.text) ≡ number_len false l.text;
}
