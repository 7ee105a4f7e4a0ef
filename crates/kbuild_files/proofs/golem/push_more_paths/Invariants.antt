use Rattle.std.proofs.Common.{◌≡◌, ◌++◌, codes, map, drop}
use Rattle.kbuild_files.specs.Golem as spec
use Rattle.kbuild_files.proofs.golem.push_more_paths.Given as goal

abbrev pub invariant-loop-path : goal.invariant-loop-path
invariant-loop-path l =
    l.text.items ++ spec.led_by (codes " || ") (map spec.path_text (drop l.path-index l.paths)) ≡ l.initial.text.items ++ spec.led_by (codes " || ") (map spec.path_text l.paths)
