use Rattle.std.proofs.Common.{◌≡◌, ◌≤◌}
use Rattle.sat_log.specs.Runs.{IsReached}
use Rattle.sat_log.specs.Search.{work_left}
use Rattle.sat_log.proofs.solving.solve.Given as goal

abbrev pub invariant-search : goal.invariant-search
invariant-search l = record {
  vars : l.trail.vars ≡ l.cnf.vars;
  clauses : l.trail.clauses ≡ l.cnf.clauses;
  reached : IsReached l.cnf.vars l.cnf.clauses l.trail.state;
  steps : l.trail.state.steps ≤ l.budget;
}

abbrev pub decreases-search : goal.decreases-search
decreases-search l = work_left l.cnf.vars l.budget l.trail.state
