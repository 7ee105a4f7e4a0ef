use Rattle.std.proofs.Common.{rules}
use Rattle.std.proofs.lemmas.List.Elements.{filter_from_retain}
use Rattle.clausify.specs.Order as order
use Rattle.clausify.proofs.items.keep_outers.Goals as goal

pub returns : goal.returns
returns c = filter_from_retain _ order.is_outer (λ p x b q h. search rules) _ _ _ c.retain.ensures.filtered
