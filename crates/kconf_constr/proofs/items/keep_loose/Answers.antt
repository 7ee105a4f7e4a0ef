use Rattle.std.proofs.Common.{rules}
use Rattle.std.proofs.lemmas.List.Elements.{filter_from_retain}
use Rattle.kconf_constr.specs.FactsOf.{is_loose}
use Rattle.kconf_constr.proofs.items.keep_loose.Goals as goal

pub returns : goal.returns
returns c = filter_from_retain _ is_loose (λ p x b q h. search rules) _ _ _ c.retain.ensures.filtered
