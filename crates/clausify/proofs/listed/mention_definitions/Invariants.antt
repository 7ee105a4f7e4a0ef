-- What is left, after what is there, gives the whole.
use Rattle.std.proofs.Common.{◌≡◌, ◌∷◌, ◌++◌, drop, map}
use Rattle.ut_logic.specs.declared.facts.Definition.{Definition}
use Rattle.ut_logic.specs.Truth.{mentioned, together}
use Rattle.clausify.proofs.listed.mention_definitions.Given as goal

abbrev pub invariant-loop-definition : goal.invariant-loop-definition
invariant-loop-definition l = l.items.items ++ together (map (λ (d : Definition). d.item ∷ mentioned d.formula) (drop l.definition-index l.list)) ≡ l.initial.items.items ++ together (map (λ (d : Definition). d.item ∷ mentioned d.formula) l.list)
