-- The lists so far and those of what is left are all.
use Rattle.std.proofs.Common.{◌≡◌, ◌++◌, [], drop, map}
use Rattle.cpp_blocks.specs.Gathered.{lists_from}
use Rattle.cpp_blocks.proofs.gathered.start_lists.Given as goal

abbrev pub invariant-loop-place : goal.invariant-loop-place
invariant-loop-place l = map (λ list. list.items) l.lists.items ++ lists_from l.file [] l.place (drop l.place l.starts) ≡ lists_from l.file [] 0 l.starts
