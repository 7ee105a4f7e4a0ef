-- What is left decides.
use Rattle.std.proofs.Common.{◌≡◌, drop}
use Rattle.std.specs.List.{find}
use Rattle.complete_conf.specs.Config.{by_lists}
use Rattle.complete_conf.specs.Free as spec
use Rattle.complete_conf.proofs.choosing.named_candidate.Given as goal

abbrev pub invariant-loop-default : goal.invariant-loop-default
invariant-loop-default l = find (spec.is_candidate l.tree.shape (by_lists l.config) l.choice) (spec.named_by_defaults l.tree.shape (by_lists l.config) l.defaults)
    ≡ find (spec.is_candidate l.tree.shape (by_lists l.config) l.choice) (spec.named_by_defaults l.tree.shape (by_lists l.config) (drop l.default-index l.defaults))
