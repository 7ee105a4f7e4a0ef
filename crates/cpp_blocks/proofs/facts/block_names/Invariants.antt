-- The parent and the earlier groups so far.
use Rattle.std.proofs.Common.{◌≡◌, ◌∷◌, map, take}
use Rattle.ut_logic.specs.declared.node.Node.TheVariants.{Block}
use Rattle.cpp_blocks.proofs.facts.block_names.Given as goal

abbrev pub invariant-loop-block : goal.invariant-loop-block
invariant-loop-block l = l.names.items ≡ Block l.file l.parent ∷ map (λ group. Block l.file group) (take l.block-index l.earlier)
