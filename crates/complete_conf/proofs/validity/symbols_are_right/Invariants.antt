-- The earlier ones are right.
use Rattle.std.proofs.Common.{◌≡◌, ◌<◌, ℕ, false}
use Rattle.kconf_tree.specs.Shape.{is_member}
use Rattle.complete_conf.specs.Config.{by_lists}
use Rattle.kconf_tree.specs.Right.{IsRight}
use Rattle.complete_conf.proofs.validity.symbols_are_right.Given as goal

abbrev pub invariant-loop-sym : goal.invariant-loop-sym
invariant-loop-sym l = (k : ℕ) → k < l.sym → is_member l.tree.shape k ≡ false → IsRight l.tree.shape (by_lists l.config) k
