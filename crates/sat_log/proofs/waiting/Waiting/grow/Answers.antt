use Rattle.sat_log.proofs.OnceLemmas.{roomier_places, roomier_both}
use Rattle.sat_log.proofs.waiting.Waiting.grow.Goals as goal

pub invariant_of-self-in_err-push-2 : goal.invariant_of-self-in_err-push-2
invariant_of-self-in_err-push-2 c = rw (c.in_ok-push.ensures.items, c.in_err-push-2.ensures.items) (roomier_places _ _ _ c.self.invariant 0)

pub invariant_of-self-2 : goal.invariant_of-self-2
invariant_of-self-2 c = rw (c.in_ok-push.ensures.items, c.in_ok-push-2.ensures.items) (roomier_both _ _ _ c.self.invariant 0)
