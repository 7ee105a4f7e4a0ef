-- What is counted and what is left.
use Rattle.std.proofs.Common.{◌≡◌, ◌≤◌, ◌+◌, drop}
use Rattle.std.specs.Option.{option_map}
use Rattle.kconf_cut.specs.Reading.{closed_len}
use Rattle.kconf_cut.proofs.calls.closed_len.Given as goal

abbrev pub invariant-loop-byte : goal.invariant-loop-byte
invariant-loop-byte l = record {
  index : l.count ≡ l.byte-index;
  depth : l.depth ≤ l.count;
  left : option_map (λ n. l.count + n) (closed_len l.depth (drop l.byte-index l.text)) ≡ closed_len 0 l.text;
}
