-- Truths that meet the facts of needed nodes stand for a case, whose configuration has a closed and right part there.
use Rattle.std.proofs.Common.{Bool, List, refl, subst}
use Rattle.ut_logic.specs.declared.item.Item.{Item}
use Rattle.ut_logic.specs.declared.node.Node.{Node}
use Rattle.kconf_tree.specs.Parts.{Part, part_of_nodes, IsRightPart}
use Rattle.kconf_tree.specs.Value.{Configuration, HasValues}
use Rattle.kconf_constr.specs.Scope.{Scope}
use Rattle.kconf_constr.specs.Standing.{SomeConfiguration, StandsFor}
use Rattle.kconf_constr.specs.Stands.{read_off}
use Rattle.ut_case.specs.Laws.{NodesStandFor}
use Rattle.ut_case.specs.Numbering.{shared}
use Rattle.ut_case.specs.StartFormulas.{scope_of}
use Rattle.case_laws.specs.Listed.{QuestionsAreKnown}
use Rattle.case_laws.proofs.FreeTruths.{IsMadeOf, IsReadOn, free_same, made_of}
use Rattle.case_laws.proofs.ItemsOf.{ListLaws, item_is}
use Rattle.case_laws.proofs.TreeNodes.{PartLaws, closed_part, of_tree, same_part, stand_at}

-- what is read off is read on all nodes
pub read_there : (s : Scope) (nodes : List Node) (v : Item → Bool) → IsReadOn s nodes v (read_off s v)
read_there s nodes v = record { values = λ k h. refl; modes = λ i h. refl; outers = λ k. refl; undeclared = λ name. refl }

pub nodes_stand : ListLaws → PartLaws → QuestionsAreKnown → NodesStandFor
nodes_stand lists laws all p q t nodes items v askable is other needs named met = (
  record { configuration = read_off s v; environment = v },
  λ i m free. free_same p q nodes v (record { configuration = read_off s v; environment = v }) met made i (item_is lists p q nodes askable.posed items named i m) free,
  subst HasValues some.read some.values,
  closed_part laws p q t askable.posed is nodes needs (all p q askable),
  subst (λ (part : Part). IsRightPart t (read_off s v) part) (same_part nodes) (subst (λ (c : Configuration). IsRightPart t c (part_of_nodes (of_tree nodes))) some.read some.right),
)
  where
    s : Scope
    s = scope_of (shared p) q.family t

    some : SomeConfiguration (scope_of (shared p) q.family t) (of_tree nodes) v
    some = stand_at laws p q t askable.posed is nodes needs (all p q askable) v met

    stands : StandsFor (scope_of (shared p) q.family t) (of_tree nodes) v (read_off (scope_of (shared p) q.family t) v)
    stands = subst (λ (c : Configuration). StandsFor (scope_of (shared p) q.family t) (of_tree nodes) v c) some.read some.stands

    made : IsMadeOf p q nodes v (record { configuration = read_off (scope_of (shared p) q.family t) v; environment = v })
    made = made_of p q t is nodes v stands (read_off (scope_of (shared p) q.family t) v) (read_there (scope_of (shared p) q.family t) nodes v) v (λ i h. refl)
