use Rattle.std.proofs.Common.{sym, subst}
use Rattle.clausify.specs.Form.{Form}
use Rattle.clausify.specs.ClauseForm.{var_of, hold_each}
use Rattle.clausify.specs.Draft.{IsDraft}
use Rattle.clausify.proofs.Shifts.{draft_held}
use Rattle.clausify.proofs.SettledLaws.{Follows, wish_follows, settled_again}
use Rattle.clausify.proofs.stages.add_formulas.Goals as goal

pub returns-clause-draft : goal.returns-clause-draft
returns-clause-draft c = λ s d. let at = var_of c.args.vars.now in
    c.in_ok-settle.ensures.draft (hold_each at c.args.fs.now s)
    (subst (λ (w : Form). IsDraft (hold_each at c.args.fs.now s) w c.args.draft.now.clauses.items) (sym c.in_ok-hold_each.ensures) (draft_held at c.args.fs.now s _ _ d))

pub settle-requires : goal.settle-requires
settle-requires c = (subst (Follows c.args.vars.now) (sym c.in_ok-hold_each.ensures) (wish_follows c.args.vars.now c.args.fs.now c.args.draft.now.written c.requires.settled c.requires.known)).counted

pub returns-clause-settled : goal.returns-clause-settled
returns-clause-settled c = settled_again c.args.vars.now c.hold_each.new.b _
    (subst (Follows c.args.vars.now) (sym c.in_ok-hold_each.ensures) (wish_follows c.args.vars.now c.args.fs.now c.args.draft.now.written c.requires.settled c.requires.known)).wide c.in_ok-settle.ensures.none
