use Rattle.std.proofs.Common.{ap, ◌∙◌, arith}
use Rattle.std.proofs.lemmas.List.{take_all}
use Rattle.ut_logic.specs.Assign.{is_in}
use Rattle.clausify.proofs.InSet.{more_in}
use Rattle.clausify.proofs.items.collected.Goals as goal

pub loop-item-preserved : goal.loop-item-preserved
loop-item-preserved c = λ i. ap (λ items. is_in items i) c.in_ok-insert.ensures.keys ∙ more_in c.loop-item.set.keys c.args.items.now c.loop-item.item-index _ i (omega (arith, c.loop-item-test.true)) (c.loop-item.invariant i)

pub returns : goal.returns
returns c = record { members = λ i. c.loop-item.invariant i ∙ ap (λ items. is_in items i) (take_all c.loop-item.item-index c.args.items.now c.loop-item-test.false) }
