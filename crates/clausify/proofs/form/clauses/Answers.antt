use Rattle.std.proofs.Common.{List, [], ◌++◌, ap, sym, subst, ◌∙◌}
use Rattle.ut_logic.specs.declared.facts.Fact.{Fact}
use Rattle.ut_logic.specs.Assign.{is_in}
use Rattle.clausify.specs.Order.{facts_of, items_of, outers_of, AreListed, IsWishOver}
use Rattle.clausify.specs.Begun.{IsFormOf}
use Rattle.clausify.proofs.KnownLaws.{none_held}
use Rattle.clausify.proofs.form.clauses.Goals as goal

pub clauses_in-requires-clause-listed : goal.clauses_in-requires-clause-listed
clauses_in-requires-clause-listed c = subst (λ (fs : List Fact). AreListed (facts_of fs c.args.slice.now.nodes)) (sym c.in_ok-store.ensures) c.requires.listed

pub clauses_in-requires-clause-held : goal.clauses_in-requires-clause-held
clauses_in-requires-clause-held c = none_held (items_of (facts_of c.in_ok-store.store c.args.slice.now.nodes))

pub clauses_in-requires-clause-wish : goal.clauses_in-requires-clause-wish
clauses_in-requires-clause-wish c = subst (λ (fs : List Fact). IsWishOver (facts_of fs c.args.slice.now.nodes) c.args.wish.now) (sym c.in_ok-store.ensures) c.requires.wish

pub returns-clause-items : goal.returns-clause-items
returns-clause-items c = λ i. c.in_ok-cnf.ensures.items i ∙ ap (λ (fs : List Fact). is_in (items_of (facts_of fs c.args.slice.now.nodes) ++ outers_of c.args.wish.now) i) c.in_ok-store.ensures

pub returns-clause-vars : goal.returns-clause-vars
returns-clause-vars c = (subst (λ (fs : List Fact). IsFormOf [] (facts_of fs c.args.slice.now.nodes) c.args.wish.now c.in_ok-cnf.cnf.items c.in_ok-cnf.cnf.vars c.in_ok-cnf.cnf.clauses) c.in_ok-store.ensures c.in_ok-cnf.ensures.form).count

pub returns-clause-clauses : goal.returns-clause-clauses
returns-clause-clauses c = (subst (λ (fs : List Fact). IsFormOf [] (facts_of fs c.args.slice.now.nodes) c.args.wish.now c.in_ok-cnf.cnf.items c.in_ok-cnf.cnf.vars c.in_ok-cnf.cnf.clauses) c.in_ok-store.ensures c.in_ok-cnf.ensures.form).written

pub returns-clause-means : goal.returns-clause-means
returns-clause-means c = (subst (λ (fs : List Fact). IsFormOf [] (facts_of fs c.args.slice.now.nodes) c.args.wish.now c.in_ok-cnf.cnf.items c.in_ok-cnf.cnf.vars c.in_ok-cnf.cnf.clauses) c.in_ok-store.ensures c.in_ok-cnf.ensures.form).means
