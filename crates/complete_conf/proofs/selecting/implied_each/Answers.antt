use Rattle.std.proofs.Common.{ℕ}
use Rattle.kconf_tree.specs.declared.shape.Selector.{Selector}
use Rattle.kconf_tree.specs.Shape.{implying_of}
use Rattle.kconf_tree.specs.Properties.{selected_by}
use Rattle.complete_conf.specs.Config.{by_lists}
use Rattle.complete_conf.proofs.Extremes.{greatest_more}
use Rattle.complete_conf.proofs.selecting.implied_each.Goals as goal

pub loop-implier-preserved : goal.loop-implier-preserved
loop-implier-preserved c = let t = c.args.tree.now.shape in let f : Selector → ℕ = λ s. selected_by t (by_lists c.args.config.now) (implying_of t s) in
    greatest_more f c.args.impliers.now c.loop-implier.implier-index _ _ _ _ c.loop-implier-test.true c.loop-implier.invariant c.implied_by.ensures c.trit_or-greatest.ensures
