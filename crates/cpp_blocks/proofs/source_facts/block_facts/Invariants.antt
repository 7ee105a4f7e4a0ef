-- The turns are those of the directives passed, and the facts so far and those of what is left are all.
use Rattle.std.proofs.Common.{◌≡◌, [], ◌∷◌, drop, take}
use Rattle.cpp_blocks.specs.Counted.{IsCounted}
use Rattle.cpp_blocks.specs.Facts.{at_first, file_fact}
use Rattle.cpp_blocks.specs.Formulas.{source_of}
use Rattle.cpp_blocks.specs.Gathered.{put_all, lists_from}
use Rattle.cpp_blocks.specs.Steps.{facts_along}
use Rattle.cpp_blocks.specs.Turns.{touched_in}
use Rattle.cpp_blocks.proofs.source_facts.block_facts.Given as goal

abbrev pub invariant-loop-directive : goal.invariant-loop-directive
invariant-loop-directive l = IsCounted l.turns (touched_in (take l.directive-index l.blocks))
    × (put_all l.facts (facts_along (source_of l.file l.blocks) (touched_in (take l.directive-index l.blocks)) l.groups (drop l.directive-index l.blocks))
    ≡ put_all (record { blocks = file_fact l.file l.fn.built ∷ []; states = lists_from l.file [] 0 l.starts }) (facts_along (source_of l.file l.blocks) [] at_first l.blocks))
