use Rattle.std.proofs.Common.{◌∙◌}
use Rattle.sat_log.proofs.Ending.{refutes_with}
use Rattle.sat_log.proofs.Answering.{reached_more, found_answer, spent_below}
use Rattle.sat_log.proofs.solving.solve.Goals as goal

pub search-preserved : goal.search-preserved
search-preserved c =
    let before = c.search.invariant in
    let e = c.in_ok-take_turn.ensures in
    let moved = rw (before.vars, before.clauses) at (rw c.in-Moved.is at e.turn) in
    record {
      vars = e.vars ∙ before.vars;
      clauses = e.clauses ∙ before.clauses;
      reached = reached_more _ _ _ _ before.reached moved.0;
      steps = moved.1;
    }

pub returns-in-Found-clause-answer : goal.returns-in-Found-clause-answer
returns-in-Found-clause-answer c =
    let before = c.search.invariant in
    let found = rw (before.vars, before.clauses) at (rw c.in-Found.is at c.in_ok-take_turn.ensures.turn) in
    let chosen = rw found.0 at c.in_ok-chosen-in-Found.ensures in
    rw found.0 (found_answer _ _ _ _ _ _ c.args.cnf.now.in_range before.reached found.1 chosen c.new.ensures.means)

pub returns-in-Refuted-clause-answer : goal.returns-in-Refuted-clause-answer
returns-in-Refuted-clause-answer c =
    let before = c.search.invariant in
    let ended = rw before.clauses at (rw c.in-Refuted.is at c.in_ok-take_turn.ensures.turn) in (
      rw ended.0 ended.1,
      rw (c.in_ok-derivation-in-Refuted.ensures, ended.0) (refutes_with _ _ _ _ _ before.reached.1 ended.2 ended.3),
    )

pub returns-in-Spent-clause-bounded : goal.returns-in-Spent-clause-bounded
returns-in-Spent-clause-bounded c = λ steps e.
    let before = c.search.invariant in
    let spent = rw (before.vars, before.clauses) at (rw c.in-Spent.is at c.in_ok-take_turn.ensures.turn) in
    spent_below _ _ _ _ c.args.cnf.now.in_range before.reached spent.1 spent.2 spent.3
