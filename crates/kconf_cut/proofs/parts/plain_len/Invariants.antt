-- What is counted and what is left.
use Rattle.std.proofs.Common.{◌≡◌, ◌+◌, drop}
use Rattle.std.specs.List.{prefix_len}
use Rattle.kconf_cut.specs.Reading.{is_plain}
use Rattle.kconf_cut.proofs.parts.plain_len.Given as goal

abbrev pub invariant-loop-byte : goal.invariant-loop-byte
invariant-loop-byte l = record {
  index : l.count ≡ l.byte-index;
  left : l.count + prefix_len (is_plain l.run) (drop l.byte-index l.text) ≡ prefix_len (is_plain l.run) l.text;
}
