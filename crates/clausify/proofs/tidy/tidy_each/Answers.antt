use Rattle.std.proofs.Common.{List, ◌++◌, sym, subst, ◌∙◌}
use Rattle.std.proofs.lemmas.List.{append-nil, take_all}
use Rattle.ut_logic.specs.declared.literals.Lit.{Lit}
use Rattle.clausify.specs.Tidy.{AreTidy, AddsTidy}
use Rattle.clausify.proofs.TidyLaws.{tidy_more}
use Rattle.clausify.proofs.tidy.tidy_each.Goals as goal

pub loop-lits-init : goal.loop-lits-init
loop-lits-init c = λ front t. subst (λ (ws : List (List Lit)). AreTidy ws c.args.clauses.now.items) (sym (append-nil front)) t

pub loop-lits-preserved : goal.loop-lits-preserved
loop-lits-preserved c = λ front t. tidy_more front c.args.written.now c.loop-lits.clauses.items c.add_tidy.new.clauses.items c.loop-lits.lits-index _ c.loop-lits-test.true (c.loop-lits.invariant front t)
    (subst (λ (ls : List Lit). AddsTidy ls c.loop-lits.clauses.items c.add_tidy.new.clauses.items) (c.as_slice.ensures ∙ c.lits-item.is) c.in_ok-add_tidy.ensures)

pub returns : goal.returns
returns c = λ front t. subst (λ (ws : List (List Lit)). AreTidy (front ++ ws) c.loop-lits.clauses.items) (take_all c.loop-lits.lits-index c.args.written.now c.loop-lits-test.false) (c.loop-lits.invariant front t)
