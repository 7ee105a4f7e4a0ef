use Rattle.std.proofs.Common.{ℕ, List, ◌+◌, ◌++◌, sym, ap, ◌∙◌, drop, map, arith}
use Rattle.std.specs.List.{flat_map}
use Rattle.ut_logic.specs.declared.node.Node.{Node}
use Rattle.cpp_blocks.specs.Formulas.{state_node, states_in}
use Rattle.cpp_blocks.specs.Mentions.{names_in}
use Rattle.cpp_blocks.specs.Places.{source_at, turns_at}
use Rattle.cpp_blocks.proofs.FirstsLaws.{mapped_next}
use Rattle.cpp_blocks.proofs.conditions.+states.Goals as goal

pub add_states_each-loop-part-preserved : goal.add_states_each-loop-part-preserved
add_states_each-loop-part-preserved t c =
    let src = source_at c.args.place.now in
    let turn = turns_at c.args.place.now in
    let state = λ (name : List ℕ). state_node src name (turn.name name) in
    ap (λ ns. ns ++ map state (flat_map (λ found. found) (map names_in (drop (c.loop-part.part-index + 1) c.args.list.now)))) (◌∙◌ {A = List Node} c.in_ok-add_states.ensures (ap (λ x. c.loop-part.nodes.items ++ states_in src turn x) c.part-item.is))
    ∙ (sym (mapped_next names_in state c.loop-part.nodes.items c.args.list.now c.loop-part.part-index c.part-item.result (omega (arith, c.loop-part-test.true))) ∙ c.loop-part.invariant)
