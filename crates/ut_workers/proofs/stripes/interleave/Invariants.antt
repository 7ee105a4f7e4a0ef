use Rattle.std.proofs.Common.{List, ◌++◌, drop}
use Rattle.std.specs.List.{AllZip}
use Rattle.ut_workers.specs.Stripes.{AreStripes}
use Rattle.ut_workers.proofs.stripes.interleave.Given as goal

abbrev pub invariant-loop-job : goal.invariant-loop-job
invariant-loop-job g l =
    AreStripes (g.J.Judge.meets l.judge) l.step 0 l.step (drop l._job-index l.jobs) l.stripes.items (λ q. q.items)
    × ((rest : List _) → AllZip (g.J.Judge.meets l.judge) (drop l._job-index l.jobs) rest → AllZip (g.J.Judge.meets l.judge) l.jobs (l.answers.items ++ rest))
