use Rattle.sat_log.proofs.Answering.{chosen_more}
use Rattle.sat_log.proofs.solving.true_items.Goals as goal

pub loop-k-preserved : goal.loop-k-preserved
loop-k-preserved c =
    rw c.in_ok-choose.ensures
    (chosen_more _ _ _ _ _ _ (rw c.as_slice-items.ensures c.args.cnf.now.each_once) c.loop-k-test.true c.is_true.ensures c.loop-k.invariant)
