use Rattle.std.proofs.Common.{◌≡◌, List, length}
use Rattle.sat_log.specs.declared.marks.Mark.{Mark}
use Rattle.sat_log.specs.Watches.{AreRead, AreWatched}
use Rattle.sat_log.proofs.visiting.Watched.first_forcing.Given as goal

abbrev pub invariant-loop-place : goal.invariant-loop-place
invariant-loop-place l = record {
  store : l.self.store ≡ l.fn.self.store;
  calm : l.self.conflict ≡ 0;
  watched : (ms : List Mark) → AreRead l.values ms → AreWatched (length l.values) l.fn.self ms → AreWatched (length l.values) l.self ms;
}

abbrev pub decreases-loop-place : goal.decreases-loop-place
decreases-loop-place l = length l.self.waiting.list
