use Rattle.std.proofs.Common.{◌≡◌, ◌++◌, drop}
use Rattle.kbuild_files.specs.Golem as spec
use Rattle.kbuild_files.specs.Tables.{files_of}
use Rattle.kbuild_files.proofs.golem.golem_text.Given as goal

abbrev pub invariant-loop-i : goal.invariant-loop-i
invariant-loop-i l = l.text.items ++ spec.file_lines (files_of (drop l.i l.names) (drop l.i l.conds)) ≡ spec.file_lines (files_of l.names l.conds)
