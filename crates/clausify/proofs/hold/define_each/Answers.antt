use Rattle.std.proofs.Common.{◌+◌, drop, sym, ap, ◌∙◌}
use Rattle.clausify.specs.ClauseForm.{var_of, defined, defined_each}
use Rattle.clausify.proofs.InTurn.{defined_step}
use Rattle.clausify.proofs.hold.define_each.Goals as goal

pub loop-definition-preserved : goal.loop-definition-preserved
loop-definition-preserved c = let at = var_of c.args.vars.now in let rest = drop (c.loop-definition.definition-index + 1) c.args.list.now in
    ap (λ s. defined_each at rest s) c.in_ok-define.ensures
    ∙ (ap (λ d. defined_each at rest (defined at d c.loop-definition.b)) c.definition-item.is
    ∙ (sym (defined_step at c.args.list.now c.loop-definition.definition-index _ c.loop-definition.b c.loop-definition-test.true) ∙ c.loop-definition.invariant))
