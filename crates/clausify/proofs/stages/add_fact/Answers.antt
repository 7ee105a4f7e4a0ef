use Rattle.std.proofs.Common.{◌||◌, sym, ap, subst, ◌∙◌}
use Rattle.ut_logic.specs.declared.node.Node.{Node}
use Rattle.clausify.specs.Form.{Form}
use Rattle.clausify.specs.ClauseForm.{var_of}
use Rattle.clausify.specs.Order.{holds_in, defines_in}
use Rattle.clausify.specs.Draft.{IsDraft}
use Rattle.clausify.proofs.Shifts.{skipped}
use Rattle.clausify.proofs.stages.add_fact.Goals as goal

pub returns-else-takes-clause-draft : goal.returns-else-takes-clause-draft
returns-else-takes-clause-draft c = λ s d. subst (λ (t : Form). IsDraft t c.args.draft.now.written c.args.draft.now.clauses.items)
    (skipped (var_of c.args.vars.now) c.args.stage c.args.fact.now s (ap (λ (n : Node). holds_in c.args.stage n || defines_in c.args.stage n) (sym c.requires.node) ∙ (sym c.takes.ensures ∙ c.if-takes.false))) d
