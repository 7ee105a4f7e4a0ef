-- The names so far and those of what is left are all.
use Rattle.std.proofs.Common.{◌≡◌, drop, map}
use Rattle.std.specs.List.{flat_map}
use Rattle.ut_text.specs.Text.{text_eq}
use Rattle.cpp_blocks.specs.Mentions.{firsts, names_in}
use Rattle.cpp_blocks.proofs.mentions.+names.Given as goal

abbrev pub invariant-add_names_each-loop-part : goal.invariant-add_names_each-loop-part
invariant-add_names_each-loop-part l = firsts text_eq l.names.keys (flat_map (λ found. found) (map names_in (drop l.part-index l.list))) ≡ firsts text_eq l.fn.names.keys (flat_map (λ found. found) (map names_in l.list))
