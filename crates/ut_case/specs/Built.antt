-- When a source is built: some path that names it has every step not n.
-- Rule: Linux kbuild/makefiles, "Built-in object goals" and "Descending down in directories"; that steps which can't be
-- told are outer conditions is this project's rule.
use Rattle.std.specs.Prelude.{ℕ, ◌==◌, Bool, true, false, not, ◌||◌, List, ◌++◌, Option, None, Some, codes}
use Rattle.std.specs.List.{list_any, list_all, position_or_len}
use Rattle.ut_text.specs.Bytes.{Bytes}
use Rattle.ut_text.specs.Text.{text_eq}
use Rattle.kbuild_paths.specs.declared.step.Step.{Step}
use Rattle.kbuild_paths.specs.declared.step.Step.TheVariants as step
use Rattle.kconf_tree.specs.Value.{Configuration, name_value}
use Rattle.kconf_constr.specs.Scope.{number_among}
use Rattle.ut_case.specs.declared.question.Family.{Family}
use Rattle.ut_case.specs.declared.question.Family.TheVariants as family
use Rattle.ut_case.specs.Problem.{Basis, OfTree, OfRules}
use Rattle.ut_case.specs.Numbering.{Shared, kbuild_text}

-- the truth of a name of a model text by its number; one that it doesn't have is false
abbrev pub rule_truth : Configuration → Option ℕ → Bool
rule_truth c None = false
rule_truth c (Some k) = c.value k == 2

-- that a symbol isn't n; over a model text, that `CONFIG_X` or `CONFIG_X_MODULE` is true
abbrev pub is_enabled : Basis → Configuration → Bytes → Bool
is_enabled (OfTree t) c name = not (name_value t c name == 0)
is_enabled (OfRules r) c name = rule_truth c (number_among r.names (codes "CONFIG_" ++ name))
    || rule_truth c (number_among r.names (codes "CONFIG_" ++ name ++ codes "_MODULE"))

-- the number of the outer condition of a free step
abbrev pub kbuild_number : Shared → Bytes → ℕ
kbuild_number s text = position_or_len (text_eq (kbuild_text text)) s.outers

-- a step isn't n
abbrev pub step_truth : Shared → Configuration → Step → Bool
step_truth s c (step.On name) = is_enabled s.basis c name
step_truth s c (step.Free text) = c.outer (kbuild_number s text)

-- some path has every step not n
abbrev pub has_path : Shared → Configuration → List (List Step) → Bool
has_path s c paths = list_any (list_all (step_truth s c)) paths

-- family Code builds every source
abbrev pub is_built : Shared → Family → Configuration → List (List Step) → Bool
is_built s family.Code c paths = true
is_built s family.Kconfig c paths = has_path s c paths
is_built s family.Whole c paths = has_path s c paths
