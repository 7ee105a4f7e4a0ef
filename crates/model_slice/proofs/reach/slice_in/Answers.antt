use Rattle.model_slice.proofs.Progress.{same_members, same_set, strictly}
use Rattle.model_slice.proofs.reach.slice_in.Goals as goal

pub returns-clause-least_closed : goal.returns-clause-least_closed
returns-clause-least_closed g c = rw c.from_vec.ensures (same_set (g.S.FindFact.facts c.args.store.now) c.args.roots.now c.in_ok-nodes.nodes.items c.dedup.new.self.items
    (λ q. same_members c.in_ok-nodes.nodes.items _ _ c.sort_unstable.ensures.permutation c.dedup.ensures.filtered q) c.in_ok-nodes.ensures)

pub returns-clause-sorted : goal.returns-clause-sorted
returns-clause-sorted g c = rw c.from_vec.ensures (strictly _ _ c.sort_unstable.ensures.sorted c.dedup.ensures.filtered)
