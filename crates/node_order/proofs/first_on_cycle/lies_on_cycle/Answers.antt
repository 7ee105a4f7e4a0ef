use Rattle.std.proofs.Common.{refl}
use Rattle.node_order.proofs.ReturnLaws.{distances_to, some_return, no_return}
use Rattle.node_order.proofs.first_on_cycle.lies_on_cycle.Goals as goal

pub returns-in-Some : goal.returns-in-Some
returns-in-Some c =
    let d = distances_to _ _ _ _ c.requires.back c.in_ok-found.ensures in
    let h = rw (c.refers.ensures.nodes, c.as_slice.ensures.value) at c.in-Some.ensures in
    (λ t. some_return _ _ _ d _ h, λ on. refl)

pub returns : goal.returns
returns c =
    let d = distances_to _ _ _ _ c.requires.back c.in_ok-found.ensures in
    let h = rw (c.refers.ensures.nodes, c.as_slice.ensures.value) at c.in-None.ensures in
    (λ t. absurd (cc), λ (nodes, some, walk). absurd (no_return _ _ _ d h nodes some walk))
