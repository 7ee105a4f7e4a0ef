use Rattle.std.proofs.Common.{◌≡◌, ◌++◌, drop}
use Rattle.kbuild_paths.proofs.path.Path.extend.Given as goal

abbrev pub invariant-loop-step : goal.invariant-loop-step
invariant-loop-step l = l.self ++ drop l.step-index l.steps ≡ l.initial.self ++ l.steps
