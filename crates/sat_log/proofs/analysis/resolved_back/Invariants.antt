use Rattle.std.proofs.Common.{◌≡◌, List, ◌≤◌, length, take}
use Rattle.ut_logic.specs.declared.literals.Lit.{Lit}
use Rattle.log_check.specs.Derivations.{IsNumbered}
use Rattle.sat_log.specs.Inner.{IsBackAt}
use Rattle.sat_log.specs.Moves.{IsFalseClause}
use Rattle.sat_log.proofs.analysis.resolved_back.Given as goal

abbrev pub invariant-loop-place : goal.invariant-loop-place
invariant-loop-place l = record {
  in_range : l.end ≤ length l.marks;
  is_false : IsFalseClause (take l.end l.marks) l.acc;
  back : (c : List Lit) × IsNumbered l.store l.conflict c × IsBackAt l.store l.marks c l.end l.acc l.pairs.items;
}

abbrev pub decreases-loop-place : goal.decreases-loop-place
decreases-loop-place l = l.end
