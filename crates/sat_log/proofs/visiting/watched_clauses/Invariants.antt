use Rattle.std.proofs.Common.{◌≡◌, [], take}
use Rattle.sat_log.specs.Watches.{AreWatched}
use Rattle.sat_log.proofs.visiting.watched_clauses.Given as goal

abbrev pub invariant-loop-clause : goal.invariant-loop-clause
invariant-loop-clause l = record {
  store : l.watched.store ≡ take l.clause-index l.clauses;
  watched : AreWatched l.vars l.watched [];
}
