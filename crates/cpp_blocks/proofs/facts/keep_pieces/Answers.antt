use Rattle.std.proofs.Common.{rules}
use Rattle.std.proofs.lemmas.List.Elements.{filter_from_retain}
use Rattle.cpp_blocks.specs.Steps.{is_piece}
use Rattle.cpp_blocks.proofs.facts.keep_pieces.Goals as goal

pub returns : goal.returns
returns c = filter_from_retain _ is_piece (λ p x b q h. search rules) _ _ _ c.retain.ensures.filtered
