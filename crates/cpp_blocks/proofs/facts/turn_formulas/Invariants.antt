-- The parent and the earlier groups so far.
use Rattle.std.proofs.Common.{◌≡◌, ◌∷◌, map, take}
use Rattle.ut_logic.specs.declared.item.Item.TheVariants.{Block}
use Rattle.ut_logic.specs.declared.formula.Formula.TheVariants.{Is}
use Rattle.ut_logic.specs.Fold.{not_of}
use Rattle.cpp_blocks.proofs.facts.turn_formulas.Given as goal

abbrev pub invariant-loop-group : goal.invariant-loop-group
invariant-loop-group l = l.list.items ≡ Is (Block l.file l.parent) ∷ map (λ group. not_of (Is (Block l.file group))) (take l.group-index l.earlier)
