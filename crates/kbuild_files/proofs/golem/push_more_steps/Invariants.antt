use Rattle.std.proofs.Common.{◌≡◌, ◌++◌, codes, map, drop}
use Rattle.kbuild_files.specs.Golem as spec
use Rattle.kbuild_files.proofs.golem.push_more_steps.Given as goal

abbrev pub invariant-loop-step : goal.invariant-loop-step
invariant-loop-step l =
    l.text.items ++ spec.led_by (codes " && ") (map spec.step_text (drop l.step-index l.steps)) ≡ l.initial.text.items ++ spec.led_by (codes " && ") (map spec.step_text l.steps)
