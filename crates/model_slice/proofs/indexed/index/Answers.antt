use Rattle.std.proofs.Common.{◌-◌, get_or, Some, cond, sym, ap, ◌∙◌, arith}
use Rattle.ut_logic.specs.Node.{node_eq}
use Rattle.model_slice.proofs.PlaceLaws.{one_before, none_after, from_first}
use Rattle.model_slice.proofs.indexed.index.Goals as goal

pub loop-place-init : goal.loop-place-init
loop-place-init c = λ n. rw c.in_ok-map.ensures.empty (sym (none_after c.args.facts.now n))

pub loop-place-preserved : goal.loop-place-preserved
loop-place-preserved c = λ n. c.in_ok-insert.ensures.updates.0 n
    ∙ (ap (λ o. cond (node_eq (get_or c.args.facts.now (c.loop-place.place - 1) c.index-facts-place.result).node n) (Some (c.loop-place.place - 1)) o) (c.loop-place.invariant n)
    ∙ sym (one_before c.args.facts.now c.loop-place.place _ n (omega (arith, c.loop-place-test.true)) (omega (arith, c.loop-place.auto.place))))

pub returns : goal.returns
returns c = λ n. c.loop-place.invariant n ∙ from_first c.args.facts.now c.loop-place.place n c.loop-place-test.false
