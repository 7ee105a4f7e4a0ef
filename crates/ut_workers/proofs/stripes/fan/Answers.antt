use Rattle.std.proofs.Common.{arith, rules}
use Rattle.std.proofs.lemmas.Result.{IfOk-weaker}
use Rattle.std.proofs.lemmas.Slice.Zip.{AllZip-long}
use Rattle.ut_workers.proofs.StripeLemmas.{all_judged}
use Rattle.ut_workers.proofs.stripes.fan.Goals as goal

pub interleave-requires-clause-stripes : goal.interleave-requires-clause-stripes
interleave-requires-clause-stripes g c =
    all_judged (g.J.Judge.meets c.args.judge.now) (λ q. q.items) c.max-step.result c.args.jobs.now c.in_ok-stripes.stripes.items c.in_ok-results.results.items
    c.in_ok-stripes.ensures (search rules) (λ i d l. let k = (c.in_ok-results.ensures.each i d l).1 in search rules)

pub returns-clause-count : goal.returns-clause-count
returns-clause-count g c =
    IfOk-weaker c.interleave.result _ _ (λ v met. let long = AllZip-long (g.J.Judge.meets c.args.judge.now) c.args.jobs.now v.items met in omega (arith, v.ok.0)) c.interleave.ensures
