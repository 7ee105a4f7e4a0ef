use Rattle.std.proofs.Common.{◌∙◌, ◌++◌, ◌∷◌, [], sym, arith}
use Rattle.std.proofs.lemmas.List.FromFn.{map-range_with_len_more}
use Rattle.kconf_constr.specs.FactsOf as spec
use Rattle.kconf_constr.proofs.scope.Scope.choice_facts.Goals as goal

pub loop-choice-preserved : goal.loop-choice-preserved
loop-choice-preserved c = c.in_ok-push.ensures.items
    ∙ ((λ i. c.loop-choice.invariant i ++ c.in_ok-choice_fact.ensures i ∷ []) ∙ sym (map-range_with_len_more (spec.choice_fact c.args.self.now) 0 c.loop-choice.choice c.loop-choice.choice (omega arith)))
