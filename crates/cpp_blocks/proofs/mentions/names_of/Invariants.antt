-- The names so far and those of what is left are all.
use Rattle.std.proofs.Common.{◌≡◌, drop}
use Rattle.std.specs.List.{flat_map}
use Rattle.ut_text.specs.Text.{text_eq}
use Rattle.cpp_blocks.specs.Mentions.{firsts, names_at, names_of}
use Rattle.cpp_blocks.proofs.mentions.names_of.Given as goal

abbrev pub invariant-loop-directive : goal.invariant-loop-directive
invariant-loop-directive l = firsts text_eq l.names.keys (flat_map (λ d. names_at d.what) (drop l.directive-index l.list)) ≡ names_of l.list
