use Rattle.std.proofs.Common.{ap, ◌∙◌}
use Rattle.model_slice.specs.Named.{names_at}
use Rattle.model_slice.proofs.FindLaws.{names_first}
use Rattle.model_slice.proofs.find.names_in.Goals as goal

pub returns : goal.returns
returns g c = c.names_of_fact.ensures ∙ (ap names_at c.fact.ensures ∙ names_first (g.S.FindFact.facts c.args.store.now) c.args.node)
