use Rattle.std.proofs.Common.{sym, ap, subst, ◌∙◌}
use Rattle.clausify.specs.Form.{Form}
use Rattle.clausify.specs.ClauseForm.{var_of, hold_each, defined_each}
use Rattle.clausify.specs.Order.{held_in, defined_in}
use Rattle.clausify.specs.Draft.{IsDraft}
use Rattle.clausify.proofs.Shifts.{draft_held, draft_defined}
use Rattle.clausify.proofs.SettledLaws.{Follows, fact_follows, settled_again}
use Rattle.clausify.proofs.stages.add_taken.Goals as goal

pub returns-clause-draft : goal.returns-clause-draft
returns-clause-draft c = λ s d. let at = var_of c.args.vars.now in
    let held = hold_each at (held_in c.args.stage c.args.fact.now) s in
    let whole = defined_each at (defined_in c.args.stage c.args.fact.now) held in
    c.in_ok-settle.ensures.draft whole (subst (λ (w : Form). IsDraft whole w c.args.draft.now.clauses.items) (sym c.in_ok-add_defined.ensures)
    (draft_defined at (defined_in c.args.stage c.args.fact.now) held _ _
    (subst (λ (w : Form). IsDraft held w c.args.draft.now.clauses.items) (sym c.in_ok-add_held.ensures) (draft_held at (held_in c.args.stage c.args.fact.now) s _ _ d))))

pub settle-requires : goal.settle-requires
settle-requires c = let at = var_of c.args.vars.now in
    let written = c.in_ok-add_defined.ensures ∙ ap (λ (t : Form). defined_each at (defined_in c.args.stage c.args.fact.now) t) c.in_ok-add_held.ensures in
    (subst (Follows c.args.vars.now) (sym written) (fact_follows c.args.vars.now c.args.stage c.args.fact.now c.args.draft.now.written c.requires.settled c.requires.known)).counted

pub returns-clause-settled : goal.returns-clause-settled
returns-clause-settled c = let at = var_of c.args.vars.now in
    let written = c.in_ok-add_defined.ensures ∙ ap (λ (t : Form). defined_each at (defined_in c.args.stage c.args.fact.now) t) c.in_ok-add_held.ensures in
    settled_again c.args.vars.now c.add_defined.new.b _
    (subst (Follows c.args.vars.now) (sym written) (fact_follows c.args.vars.now c.args.stage c.args.fact.now c.args.draft.now.written c.requires.settled c.requires.known)).wide c.in_ok-settle.ensures.none
