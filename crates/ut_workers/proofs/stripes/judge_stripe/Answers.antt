use Rattle.std.proofs.Common.{[], subst, sym, arith}
use Rattle.std.proofs.lemmas.List.{drop_all, append-nil}
use Rattle.std.specs.List.{AllZip}
use Rattle.ut_workers.specs.Stripes.{stripe}
use Rattle.ut_workers.proofs.stripes.judge_stripe.Goals as goal

pub returns : goal.returns
returns g c =
    let R = g.J.Judge.meets c.args.judge.now in
    let none = drop_all c.loop-job.job-index c.args.jobs.now (omega arith) in
    subst (AllZip R (stripe c.args.step c.args.first c.args.jobs.now)) (append-nil _)
    (c.loop-job.invariant [] (subst (λ xs. AllZip R (stripe c.args.step c.loop-job.before_next xs) []) (sym none) tt))
