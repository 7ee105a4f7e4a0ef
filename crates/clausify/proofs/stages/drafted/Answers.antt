use Rattle.std.proofs.Common.{List, Bor, map, sym, subst}
use Rattle.ut_logic.specs.declared.item.Item.{Item}
use Rattle.ut_logic.specs.declared.facts.Fact.{Fact}
use Rattle.ut_logic.specs.Truth.{mentioned, together}
use Rattle.clausify.specs.ClauseForm.{HaveVariables, var_of}
use Rattle.clausify.specs.Order.{mentioned_in, form_before}
use Rattle.clausify.specs.Draft.{IsDraft, IsSettled}
use Rattle.clausify.proofs.stages.drafted.Goals as goal

pub drafted_over-requires-clause-held : goal.drafted_over-requires-clause-held
drafted_over-requires-clause-held c = subst (λ (xs : List Item). HaveVariables (var_of xs) (together (map mentioned c.args.held.now))) (sym c.new-vars.ensures) c.requires.held

pub drafted_over-requires-clause-facts : goal.drafted_over-requires-clause-facts
drafted_over-requires-clause-facts c = subst (λ (xs : List Item). HaveVariables (var_of xs) (mentioned_in (map (λ (f : Bor Fact). f.now) c.args.facts.now))) (sym c.new-vars.ensures) c.requires.facts

pub returns-clause-settled : goal.returns-clause-settled
returns-clause-settled c = subst (λ (xs : List Item). IsSettled xs c.in_ok-draft.draft.written) c.new-vars.ensures c.in_ok-draft.ensures.settled

pub returns-clause-draft : goal.returns-clause-draft
returns-clause-draft c = subst (λ (xs : List Item). IsDraft (form_before xs c.args.held.now (map (λ (f : Bor Fact). f.now) c.args.facts.now)) c.in_ok-draft.draft.written c.in_ok-draft.draft.clauses.items) c.new-vars.ensures c.in_ok-draft.ensures.draft
