use Rattle.std.proofs.Common.{arith, rules}
use Rattle.ut_workers.proofs.StripeLemmas.{one_more_answer, all_answered, never_empty, never_short}
use Rattle.ut_workers.proofs.stripes.interleave.Goals as goal
use Rattle.ut_workers.proofs.stripes.interleave.Goals.{else-loop-job-test, then-loop-job-test+in_default, then-loop-job-test+in-Some+in_default-pop_front}

pub loop-job-preserved : goal.loop-job-preserved
loop-job-preserved g c =
    let at = c.loop-job in
    one_more_answer (g.J.Judge.meets c.args.judge.now) (λ q. q.items) c.args.step c.args.jobs.now at._job-index at.answers.items c.push.new.self.items
    at.stripes.items c.pop_front.new.self.items c.push_back.new.self.items c.in-Some.stripe c.pop_front-in-loop-job.new.self c.in-Some-pop_front.answer
    (omega arith) (omega arith) c.in-Some.ensures.items c.in-Some-pop_front.ensures.items c.in_ok-push_back.ensures.items c.in_ok-push.ensures.items
    at.invariant.0 at.invariant.1

pub returns : goal.returns
returns g c =
    let at = c.loop-job in
    let R = g.J.Judge.meets c.args.judge.now in
    elim c.loop-job-test.branch [
      | else-loop-job-test w ↦ all_answered R c.args.jobs.now at._job-index at.answers.items (omega arith) at.invariant.1
      | then-loop-job-test+in_default w ↦
          absurd (never_empty R (λ q. q.items) c.args.step c.args.jobs.now at._job-index at.stripes.items (omega arith) at.invariant.0 (let e = w.in_default.ensures.cases in search rules))
      | then-loop-job-test+in-Some+in_default-pop_front w ↦
          absurd (never_short R (λ q. q.items) c.args.step c.args.jobs.now at._job-index at.stripes.items w.pop_front.new.self.items w.in-Some.stripe (omega arith) at.invariant.0 w.in-Some.ensures.items (let e = w.in_default-pop_front.ensures.cases in search rules))
    ]
