-- What a problem is: what configurations must keep, the sources with the paths by which they are built, and the numbers
-- of undeclared names. This project's rule.
use Rattle.std.specs.Prelude.{ℕ, List, [], Result, Ok, Err, get_or}
use Rattle.ut_text.specs.Bytes.{Bytes}
use Rattle.ut_logic.specs.declared.facts.Rules.{Rules}
use Rattle.cpp_directives.specs.declared.directive.Directive.{Directive}
use Rattle.cpp_directives.specs.declared.bad.CppBad.{CppBad}
use Rattle.kbuild_paths.specs.declared.step.Step.{Step}
use Rattle.kconf_tree.specs.Shape.{Shape}

-- a tree of Kconfig texts, or the rules of a model text
pub data Basis : Type 0 where
  OfTree : Shape → Basis
  OfRules : Rules → Basis

-- a source: its name, the paths by which it is built, and its directives or its first fault
pub record Source : Type 0 where
  pub name : Bytes
  pub paths : List (List Step)
  pub read : Result (List Directive) CppBad

-- undeclared names are numbered by their places in the list
pub record Problem : Type 0 where
  pub basis : Basis
  pub sources : List Source
  pub undeclared : List Bytes

-- the source that is read past the last one
abbrev pub no_source : Source
no_source = record { name = []; paths = []; read = Ok [] }

-- the source with a number
abbrev pub source_at : Problem → ℕ → Source
source_at p file = get_or p.sources file no_source

-- the directives of what was read; a refused text has none
abbrev pub directives_in : Result (List Directive) CppBad → List Directive
directives_in (Ok ds) = ds
directives_in (Err bad) = []

-- the directives of a source
abbrev pub directives_of : Source → List Directive
directives_of s = directives_in s.read

-- those of the source with a number
abbrev pub directives_at : Problem → ℕ → List Directive
directives_at p file = directives_of (source_at p file)
