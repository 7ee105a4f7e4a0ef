use Rattle.std.proofs.Common.{◌≡◌, ◌++◌, false, length}
use Rattle.std.specs.Prelude.{All}
use Rattle.std.specs.List.{flat_map}
use Rattle.ut_text.specs.Decimals.{begins_with_digit}
use Rattle.log_check.specs.DerivationText.{pair_text, IsPair}
use Rattle.log_check.proofs.steps.read_pairs.Given as goal

abbrev pub invariant-loop-cursor : goal.invariant-loop-cursor
invariant-loop-cursor l = record {
  text : l.fn.cursor ≡ flat_map pair_text l.pairs.items ++ l.cursor;
  fit : All IsPair l.pairs.items;
  ends : begins_with_digit l.cursor ≡ false;
}

abbrev pub decreases-loop-cursor : goal.decreases-loop-cursor
decreases-loop-cursor l = length l.cursor
