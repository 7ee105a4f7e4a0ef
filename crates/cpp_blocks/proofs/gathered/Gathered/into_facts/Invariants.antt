-- The facts of blocks, and those of the names passed.
use Rattle.std.proofs.Common.{◌≡◌, ◌++◌}
use Rattle.std.specs.List.{flat_map}
use Rattle.cpp_blocks.proofs.gathered.Gathered.into_facts.Given as goal

abbrev pub invariant-loop-list : goal.invariant-loop-list
invariant-loop-list l = l.blocks.items ≡ l.initial.blocks.items ++ flat_map (λ list. list.items) l.yielded
