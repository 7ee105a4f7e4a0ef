use Rattle.std.proofs.Common.{ℕ}
use Rattle.kconf_tree.specs.declared.shape.Selector.{Selector}
use Rattle.kconf_tree.specs.Shape.{selecting_of}
use Rattle.kconf_tree.specs.Properties.{selected_by}
use Rattle.complete_conf.specs.Config.{by_lists}
use Rattle.complete_conf.proofs.Extremes.{greatest_more}
use Rattle.complete_conf.proofs.selecting.raised.Goals as goal

pub loop-selector-preserved : goal.loop-selector-preserved
loop-selector-preserved c = let t = c.args.tree.now.shape in let f : Selector → ℕ = λ s. selected_by t (by_lists c.args.config.now) (selecting_of t s) in
    greatest_more f c.args.selectors.now c.loop-selector.selector-index _ _ _ _ c.loop-selector-test.true c.loop-selector.invariant c.selected.ensures c.trit_or-greatest.ensures
