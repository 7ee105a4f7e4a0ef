-- How outer conditions and undeclared names are numbered in a problem: outer conditions first those of the Kconfig texts,
-- then those of the steps of all sources, each at its first place; undeclared names by their bytes. This project's rule.
use Rattle.std.specs.Prelude.{◌↔◌, List, [], ◌∷◌, ◌++◌, Option, None, Some, if◌then◌else◌, is_some, codes, Contains}
use Rattle.std.specs.List.{flat_map}
use Rattle.ut_text.specs.Bytes.{Bytes}
use Rattle.ut_text.specs.Text.{text_eq}
use Rattle.kbuild_paths.specs.declared.step.Step.{Step}
use Rattle.kbuild_paths.specs.declared.step.Step.TheVariants as step
use Rattle.kconf_tree.specs.Shape.{number_of}
use Rattle.kconf_tree.specs.Undeclared.{undeclared_of}
use Rattle.kconf_constr.specs.Scope.{IsRising}
use Rattle.cpp_blocks.specs.Mentions.{firsts, names_of}
use Rattle.ut_case.specs.Names.{config_name, is_declared}
use Rattle.ut_case.specs.Problem.{Basis, OfTree, OfRules, Source, Problem, directives_of}

-- ---- outer conditions

-- the outer condition of a free step
abbrev pub kbuild_text : Bytes → Bytes
kbuild_text text = codes "kbuild " ++ text

-- that of a step, if it has one
abbrev pub step_outers : Step → List Bytes
step_outers (step.On name) = []
step_outers (step.Free text) = kbuild_text text ∷ []

-- those of the steps of a source, in the order of its paths
abbrev pub source_outers : Source → List Bytes
source_outers s = flat_map (flat_map step_outers) s.paths

-- those of the Kconfig texts
abbrev pub basis_outers : Basis → List Bytes
basis_outers (OfTree t) = t.outers
basis_outers (OfRules r) = []

-- all outer conditions of a problem; those of refused sources count too
abbrev pub outers_of : Problem → List Bytes
outers_of p = firsts text_eq (basis_outers p.basis) (flat_map source_outers p.sources)

-- ---- undeclared names

-- those that the Kconfig texts name; a model text has none
abbrev pub basis_undeclared : Basis → List Bytes
basis_undeclared (OfTree t) = undeclared_of t
basis_undeclared (OfRules r) = []

-- the N of a macro `CONFIG_N` that isn't declared
abbrev pub macro_undeclared : Basis → Bytes → Option Bytes → List Bytes
macro_undeclared b macro None = []
macro_undeclared b macro (Some name) = if is_declared b macro name then [] else name ∷ []

-- the X of a step On X that isn't declared; over a model text it is never on
abbrev pub step_undeclared : Basis → Step → List Bytes
step_undeclared (OfTree t) (step.On name) = if is_some (number_of t name) then [] else name ∷ []
step_undeclared (OfTree t) (step.Free text) = []
step_undeclared (OfRules r) (step.On name) = []
step_undeclared (OfRules r) (step.Free text) = []

-- those that a source names
abbrev pub source_undeclared : Basis → Source → List Bytes
source_undeclared b s = flat_map (λ macro. macro_undeclared b macro (config_name macro)) (names_of (directives_of s))
    ++ flat_map (flat_map (step_undeclared b)) s.paths

-- all undeclared names of a problem, where they stand
abbrev pub undeclared_names : Problem → List Bytes
undeclared_names p = basis_undeclared p.basis ++ flat_map (source_undeclared p.basis) p.sources

-- the list rises by bytes and has these names
pub record IsNumbered (p : Problem) : Type 0 where
  pub rising : IsRising p.undeclared
  pub exact : (name : Bytes) → Contains p.undeclared name ↔ Contains (undeclared_names p) name

-- ---- what the sources of a problem share

-- the basis, and the numbers of outer conditions and of undeclared names
pub record Shared : Type 0 where
  pub basis : Basis
  pub outers : List Bytes
  pub undeclared : List Bytes

-- what is said of a source rests on this and on the source alone
abbrev pub shared : Problem → Shared
shared p = record { basis = p.basis; outers = outers_of p; undeclared = p.undeclared }
