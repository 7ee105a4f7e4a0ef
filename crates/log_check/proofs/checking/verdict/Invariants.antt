use Rattle.std.proofs.Common.{◌≡◌, take}
use Rattle.log_check.specs.Derivations.{AreRight, results}
use Rattle.log_check.proofs.checking.verdict.Given as goal

abbrev pub invariant-loop-at : goal.invariant-loop-at
invariant-loop-at l = record {
  right : AreRight l.clauses l.lines l.at;
  taken : l.results ≡ results (take l.at l.lines);
}
