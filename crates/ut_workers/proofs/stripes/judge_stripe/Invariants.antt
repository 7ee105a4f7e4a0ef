use Rattle.std.proofs.Common.{List, ◌++◌, drop}
use Rattle.std.specs.List.{AllZip}
use Rattle.ut_workers.specs.Stripes.{stripe}
use Rattle.ut_workers.proofs.stripes.judge_stripe.Given as goal

abbrev pub invariant-loop-job : goal.invariant-loop-job
invariant-loop-job g l =
    (rest : List _) → AllZip (g.J.Judge.meets l.judge) (stripe l.step l.before_next (drop l.job-index l.jobs)) rest → AllZip (g.J.Judge.meets l.judge) (stripe l.step l.first l.jobs) (l.answers.items ++ rest)
