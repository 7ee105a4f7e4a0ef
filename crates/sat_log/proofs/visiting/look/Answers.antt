use Rattle.std.proofs.Common.{sym, ◌∙◌}
use Rattle.std.proofs.lemmas.Bool.{false≢true}
use Rattle.sat_log.proofs.Looking.{so_far_more, false_value}
use Rattle.sat_log.proofs.visiting.look.Goals as goal

pub loop-code-preserved : goal.loop-code-preserved
loop-code-preserved c =
    so_far_more c.args.values.now c.args.codes.now c.args.other c.loop-code.code-index _ c.loop-code-test.true c.loop-code.invariant
    (λ n. false_value _ (λ m. false≢true (sym c.if-may_watch.false ∙ c.may_watch.ensures.1 (n, m))))
