-- The names so far and those that are left are all.
use Rattle.std.proofs.Common.{◌≡◌, [], drop}
use Rattle.ut_text.specs.Text.{text_eq}
use Rattle.cpp_blocks.specs.Mentions.{firsts}
use Rattle.problem_sources.proofs.ground.set_of.Given as goal

abbrev pub invariant-loop-name : goal.invariant-loop-name
invariant-loop-name l = firsts text_eq l.set.keys (drop l.name-index l.names) ≡ firsts text_eq [] l.names
