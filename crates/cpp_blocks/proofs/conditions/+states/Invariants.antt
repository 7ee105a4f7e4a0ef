-- The states so far and those of what is left are all.
use Rattle.std.proofs.Common.{◌≡◌, ◌++◌, map, drop}
use Rattle.std.specs.List.{flat_map}
use Rattle.cpp_blocks.specs.Formulas.{state_node}
use Rattle.cpp_blocks.specs.Mentions.{names_in}
use Rattle.cpp_blocks.specs.Places.{source_at, turns_at}
use Rattle.cpp_blocks.proofs.conditions.+states.Given as goal

abbrev pub invariant-add_states_each-loop-part : goal.invariant-add_states_each-loop-part
invariant-add_states_each-loop-part l = l.nodes.items ++ map (λ name. state_node (source_at l.place) name ((turns_at l.place).name name)) (flat_map (λ found. found) (map names_in (drop l.part-index l.list)))
    ≡ l.fn.nodes.items ++ map (λ name. state_node (source_at l.place) name ((turns_at l.place).name name)) (flat_map (λ found. found) (map names_in l.list))
