use Rattle.std.proofs.Common.{◌∙◌, ◌++◌, ◌∷◌, [], sym, arith}
use Rattle.std.proofs.lemmas.List.FromFn.{map-range_with_len_more}
use Rattle.kconf_constr.specs.FactsOf as spec
use Rattle.kconf_constr.proofs.scope.Scope.symbol_facts.Goals as goal

pub loop-sym-preserved : goal.loop-sym-preserved
loop-sym-preserved c = c.in_ok-push.ensures.items
    ∙ ((λ i. c.loop-sym.invariant i ++ c.in_ok-symbol_fact.ensures i ∷ []) ∙ sym (map-range_with_len_more (spec.symbol_fact c.args.self.now) 0 c.loop-sym.sym c.loop-sym.sym (omega arith)))
