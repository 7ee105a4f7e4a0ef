use Rattle.std.proofs.Common.{◌∙◌, ap}
use Rattle.kconf_tree.specs.Value as spec
use Rattle.complete_conf.specs.Config.{by_lists}
use Rattle.complete_conf.proofs.Extremes.{least_more, greatest_more}
use Rattle.complete_conf.proofs.values.+value.Goals as goal

pub greatest_of-loop-part-preserved : goal.greatest_of-loop-part-preserved
greatest_of-loop-part-preserved t c = greatest_more (spec.value_in c.args.tree.now.shape (by_lists c.args.config.now) c.args.place) c.args.list.now c.loop-part.part-index _ _ _ _ c.loop-part-test.true c.loop-part.invariant (c.value_in.ensures ∙ ap (spec.value_in c.args.tree.now.shape (by_lists c.args.config.now) c.args.place) c.part-item.is) c.trit_or-greatest.ensures

pub least_of-loop-part-preserved : goal.least_of-loop-part-preserved
least_of-loop-part-preserved t c = least_more (spec.value_in c.args.tree.now.shape (by_lists c.args.config.now) c.args.place) c.args.list.now c.loop-part.part-index _ _ _ _ c.loop-part-test.true c.loop-part.invariant (c.value_in.ensures ∙ ap (spec.value_in c.args.tree.now.shape (by_lists c.args.config.now) c.args.place) c.part-item.is) c.trit_and-least.ensures
