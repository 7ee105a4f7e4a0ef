-- The formula of a source's condition: some path has every step not n.
-- Rule: Linux kbuild/makefiles, "Built-in object goals"; formulas are this project's rule.
use Rattle.std.specs.Prelude.{ℕ, List, [], ◌∷◌, ◌++◌, Option, None, Some, map, codes}
use Rattle.std.specs.List.{flat_map}
use Rattle.std.specs.Option.{option_to_list}
use Rattle.ut_text.specs.Bytes.{Bytes}
use Rattle.ut_logic.specs.declared.item.Item.TheVariants as item
use Rattle.ut_logic.specs.declared.node.Node.{Node}
use Rattle.ut_logic.specs.declared.formula.Formula.{Formula}
use Rattle.ut_logic.specs.declared.formula.Formula.TheVariants.{Yes, No, Is}
use Rattle.ut_logic.specs.Fold.{all_of, any_of}
use Rattle.kconf_tree.specs.Shape.{number_of}
use Rattle.kconf_constr.specs.FactsOf.{loose_items}
use Rattle.kconf_constr.specs.Levels.{name_levels}
use Rattle.kconf_constr.specs.Scope.{number_among}
use Rattle.cpp_blocks.specs.declared.starts.BuiltOf.{BuiltOf}
use Rattle.kbuild_paths.specs.declared.step.Step.{Step}
use Rattle.kbuild_paths.specs.declared.step.Step.TheVariants as step
use Rattle.ut_case.specs.declared.question.Family.{Family}
use Rattle.ut_case.specs.declared.question.Family.TheVariants as family
use Rattle.ut_case.specs.Built.{kbuild_number}
use Rattle.ut_case.specs.Numbering.{Shared}
use Rattle.ut_case.specs.Problem.{Basis, OfTree, OfRules}
use Rattle.ut_case.specs.StartFormulas.{owners_in, scope_of, symbol_nodes}

-- that a name of a model text is true, by its number
abbrev pub rule_formula : Option ℕ → Formula
rule_formula None = No
rule_formula (Some k) = Is (item.SymY k)

-- that a symbol isn't n; over a model text, that `CONFIG_X` or `CONFIG_X_MODULE` is true
abbrev pub enabled_formula : Shared → Family → Basis → Bytes → Formula
enabled_formula s f (OfTree t) name = (name_levels (scope_of s f t) name).not_n
enabled_formula s f (OfRules r) name = any_of (rule_formula (number_among r.names (codes "CONFIG_" ++ name))
    ∷ rule_formula (number_among r.names (codes "CONFIG_" ++ name ++ codes "_MODULE")) ∷ [])

-- the node of a declared symbol; every name of a model text is needed anyway
abbrev pub enabled_nodes : Basis → Bytes → List Node
enabled_nodes (OfTree t) name = symbol_nodes (option_to_list (number_of t name))
enabled_nodes (OfRules r) name = []

-- that a step isn't n
abbrev pub step_formula : Shared → Family → Step → Formula
step_formula s f (step.On name) = enabled_formula s f s.basis name
step_formula s f (step.Free text) = Is (item.Outer (kbuild_number s text))

-- the nodes of its symbol
abbrev pub step_nodes : Basis → Step → List Node
step_nodes b (step.On name) = enabled_nodes b name
step_nodes b (step.Free text) = []

-- that some path has every step not n
abbrev pub paths_formula : Shared → Family → List (List Step) → Formula
paths_formula s f paths = any_of (map (λ path. all_of (map (step_formula s f) path)) paths)

-- it names the nodes of its symbols, and those of all that it mentions; its loose items stand beside it
abbrev pub paths_built : Shared → Family → List (List Step) → BuiltOf
paths_built s f paths = record {
  formula = paths_formula s f paths;
  names = flat_map (flat_map (step_nodes s.basis)) paths ++ owners_in (paths_formula s f paths ∷ []);
  items = loose_items (paths_formula s f paths ∷ []);
}

-- family Code builds every source
abbrev pub built_of : Shared → Family → List (List Step) → BuiltOf
built_of s family.Code paths = record { formula = Yes; names = []; items = [] }
built_of s family.Kconfig paths = paths_built s family.Kconfig paths
built_of s family.Whole paths = paths_built s family.Whole paths
