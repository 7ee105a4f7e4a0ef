use Rattle.node_order.proofs.ReturnLaws.{distances_to, no_return}
use Rattle.node_order.proofs.cycle.least_cycle.Goals as goal

pub walk_back-requires-clause-distances : goal.walk_back-requires-clause-distances
walk_back-requires-clause-distances c = rw c.as_slice-in-Some.ensures.value (distances_to _ _ _ _ c.requires.back c.in_ok-found.ensures)

pub walk_back-requires-clause-steps : goal.walk_back-requires-clause-steps
walk_back-requires-clause-steps c =
    let h = rw (c.refers.ensures.nodes, c.as_slice.ensures.value) at c.in-Some.ensures in
    rw c.as_slice-in-Some.ensures.value h

pub unreachable-requires : goal.unreachable-requires
unreachable-requires c =
    let h = rw (c.refers.ensures.nodes, c.as_slice.ensures.value) at c.in-None.ensures in
    no_return _ _ _ (distances_to _ _ _ _ c.requires.back c.in_ok-found.ensures) h c.requires.lies.0 c.requires.lies.1 c.requires.lies.2
