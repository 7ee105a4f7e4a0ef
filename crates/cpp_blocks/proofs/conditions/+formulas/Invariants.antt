-- The formulas so far.
use Rattle.std.proofs.Common.{◌≡◌, map, take}
use Rattle.cpp_blocks.specs.Formulas.{formula_of}
use Rattle.cpp_blocks.specs.Places.{source_at, turns_at}
use Rattle.cpp_blocks.proofs.conditions.+formulas.Given as goal

abbrev pub invariant-formula_each-loop-part : goal.invariant-formula_each-loop-part
invariant-formula_each-loop-part l = l.all.items ≡ map (formula_of (source_at l.place) (turns_at l.place)) (take l.part-index l.list)
