use Rattle.std.proofs.Common.{◌≡◌, ◌++◌, take}
use Rattle.std.specs.Prelude.{All, decimal}
use Rattle.std.specs.List.{flat_map}
use Rattle.log_check.specs.DerivationText.{pair_text, IsPair}
use Rattle.log_check.proofs.writing.push_chain.Given as goal

abbrev pub invariant-loop-pair : goal.invariant-loop-pair
invariant-loop-pair l = record {
  text : l.text.items ≡ l.fn.text.items ++ (decimal l.chain.first ++ flat_map pair_text (take l.pair-index l.pair-items));
  fit : All IsPair (take l.pair-index l.pair-items);
}
