-- The earlier ones keep their rules.
use Rattle.std.proofs.Common.{◌≡◌, ◌<◌, ℕ, true}
use Rattle.kconf_tree.specs.Right.{is_right_choice}
use Rattle.complete_conf.specs.Config.{by_lists}
use Rattle.complete_conf.proofs.validity.choices_are_right.Given as goal

abbrev pub invariant-loop-choice : goal.invariant-loop-choice
invariant-loop-choice l = (i : ℕ) → i < l.choice → is_right_choice l.tree.shape (by_lists l.config) i ≡ true
