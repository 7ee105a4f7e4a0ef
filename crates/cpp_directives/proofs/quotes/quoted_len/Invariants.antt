-- What is counted and what is left.
use Rattle.std.proofs.Common.{◌≡◌, ◌+◌, drop, false}
use Rattle.cpp_directives.specs.Quotes.{quoted_len}
use Rattle.cpp_directives.proofs.quotes.quoted_len.Given as goal

abbrev pub invariant-loop-byte : goal.invariant-loop-byte
invariant-loop-byte l = record {
  index : l.count ≡ l.byte-index;
  left : l.count + quoted_len l.mark l.escape (drop l.byte-index l.text) ≡ quoted_len l.mark false l.text;
}
