use Rattle.std.proofs.Common.{List, ℕ, map, sym, subst}
use Rattle.ut_logic.specs.declared.item.Item.{Item}
use Rattle.ut_logic.specs.declared.literals.Lit.{Lit}
use Rattle.ut_logic.specs.Truth.{mentioned, together}
use Rattle.ut_logic.specs.Variables.{AreDistinct}
use Rattle.clausify.specs.ClauseForm.{HaveVariables, var_of}
use Rattle.clausify.specs.Draft.{IsSettled}
use Rattle.clausify.specs.Begun.{IsFormOf}
use Rattle.clausify.proofs.BegunLaws.{have_variables, done_wide, done_within, done_form}
use Rattle.clausify.proofs.wish.with_wish.Goals as goal

pub add_formulas-requires-clause-known : goal.add_formulas-requires-clause-known
add_formulas-requires-clause-known c = subst (λ (xs : List Item). HaveVariables (var_of xs) (together (map mentioned c.args.wish.now))) (sym c.new-vars.ensures) (have_variables c.args.items.now.keys c.args.wish.now c.requires.wish)

pub add_formulas-requires-clause-settled : goal.add_formulas-requires-clause-settled
add_formulas-requires-clause-settled c = subst (λ (xs : List Item). IsSettled xs c.args.draft.written) (sym c.new-vars.ensures) c.requires.drafted.2.settled

pub done-requires-clause-named : goal.done-requires-clause-named
done-requires-clause-named c = let some = c.requires.drafted in
    done_wide some.0 some.1 c.args.wish.now c.args.items.now.keys c.args.draft.written c.args.draft.clauses.items some.2 c.requires.wish
    c.new-vars.result c.new-vars.ensures c.add_formulas.new.draft.written c.add_formulas.new.draft.clauses.items c.in_ok-add_formulas.ensures.draft c.in_ok-add_formulas.ensures.settled

pub done-requires-clause-in_range : goal.done-requires-clause-in_range
done-requires-clause-in_range c = let some = c.requires.drafted in
    done_within some.0 some.1 c.args.wish.now c.args.items.now.keys c.args.draft.written c.args.draft.clauses.items some.2 c.requires.wish
    c.new-vars.result c.new-vars.ensures c.add_formulas.new.draft.written c.add_formulas.new.draft.clauses.items c.in_ok-add_formulas.ensures.draft c.in_ok-add_formulas.ensures.settled

pub returns-clause-form : goal.returns-clause-form
returns-clause-form c = λ held fs drafted. let cnf = c.in_ok-cnf.cnf in let items = c.args.items.now.keys in
    let wished = done_form held fs c.args.wish.now items c.args.draft.written c.args.draft.clauses.items drafted c.requires.wish
    c.new-vars.result c.new-vars.ensures c.add_formulas.new.draft.written c.add_formulas.new.draft.clauses.items c.in_ok-add_formulas.ensures.draft c.in_ok-add_formulas.ensures.settled
    (subst AreDistinct c.in_ok-cnf.ensures.items cnf.each_once) in
    subst (λ (n : ℕ). IsFormOf held fs c.args.wish.now items n cnf.clauses) (sym c.in_ok-cnf.ensures.vars)
    (subst (λ (cs : List (List Lit)). IsFormOf held fs c.args.wish.now items c.add_formulas.new.draft.written.vars cs) (sym c.in_ok-cnf.ensures.clauses) wished)
