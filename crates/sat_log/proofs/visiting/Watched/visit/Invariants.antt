use Rattle.std.proofs.Common.{◌≡◌, List, length}
use Rattle.sat_log.specs.declared.marks.Mark.{Mark}
use Rattle.sat_log.specs.Watches.{IsToVisit}
use Rattle.sat_log.proofs.Visits.{VisitsOn}
use Rattle.sat_log.proofs.visiting.Watched.visit.Given as goal

abbrev pub invariant-loop-slot : goal.invariant-loop-slot
invariant-loop-slot l = record {
  store : l.self.store ≡ l.fn.self.store;
  heads : length l.self.links.heads.items ≡ length l.fn.self.links.heads.items;
  visiting : (ms : List Mark) (m : Mark) → IsToVisit l.fn.self l.values ms m l.code → VisitsOn l.self l.values ms m l.code l.slot l.left;
}

abbrev pub decreases-loop-slot : goal.decreases-loop-slot
decreases-loop-slot l = l.left
