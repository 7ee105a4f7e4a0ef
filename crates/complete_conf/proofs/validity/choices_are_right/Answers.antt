use Rattle.std.proofs.Common.{◌≡◌, true, sym, ◌∙◌, arith}
use Rattle.std.proofs.lemmas.Grind.{common_steps}
use borrow.Author.Count.{below_more}
use Rattle.kconf_tree.specs.Right.{is_right_choice}
use Rattle.complete_conf.specs.Config.{by_lists}
use Rattle.complete_conf.proofs.validity.choices_are_right.Goals as goal

pub loop-choice-preserved : goal.loop-choice-preserved
loop-choice-preserved c = let said : c.choice_is_right.result ≡ true = grind (arith, common_steps) in
    below_more (λ i. is_right_choice c.args.tree.now.shape (by_lists c.args.config.now) i ≡ true) c.loop-choice.choice c.loop-choice.invariant (sym c.choice_is_right.ensures ∙ said)
