use Rattle.std.proofs.Common.{Some, sym, ap, ◌∙◌}
use Rattle.ut_logic.specs.declared.facts.Fact.{Fact}
use Rattle.model_slice.proofs.PlaceLaws.{within_list, first_at, not_found}
use Rattle.model_slice.proofs.indexed.fact_at.Goals as goal

pub at-requires : goal.at-requires
at-requires c = within_list c.args.facts.now c.args.node c.in-Some.place (sym c.requires ∙ c.in-Some.is)

pub returns-in-Some : goal.returns-in-Some
returns-in-Some c = let d = c.at.result.now in
    ap (λ (f : Fact). Some f) (sym (c.at.ensures d)) ∙ sym (first_at c.args.facts.now c.args.node c.in-Some.place d (sym c.requires ∙ c.in-Some.is))

pub returns-in-None : goal.returns-in-None
returns-in-None c = sym (not_found 0 c.args.facts.now c.args.node (sym c.requires ∙ c.in-None.is))
