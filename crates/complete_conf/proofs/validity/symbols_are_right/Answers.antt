use Rattle.std.proofs.Common.{◌≡◌, false, true, arith}
use Rattle.std.proofs.lemmas.Grind.{common_steps}
use borrow.Author.Count.{below_more}
use Rattle.kconf_tree.specs.Shape.{is_member}
use Rattle.kconf_tree.specs.Right.{IsRight}
use Rattle.complete_conf.specs.Config.{by_lists}
use Rattle.complete_conf.proofs.validity.symbols_are_right.Goals as goal

pub loop-sym-preserved : goal.loop-sym-preserved
loop-sym-preserved c = let said : c.symbol_is_right.result ≡ true = grind (arith, common_steps) in
    below_more (λ k. is_member c.args.tree.now.shape k ≡ false → IsRight c.args.tree.now.shape (by_lists c.args.config.now) k) c.loop-sym.sym c.loop-sym.invariant (c.symbol_is_right.ensures.0 said)
