-- What a problem is made from: a tree or the rules of a model text, sources, and the paths by which these are built.
-- This project's rule.
use Rattle.std.specs.Prelude.{◌≡◌, List, map, Option, None, Some, []}
use Rattle.ut_text.specs.Bytes.{Bytes}
use Rattle.kbuild_paths.specs.Paths.{Conds, paths_of}
use Rattle.ut_case.specs.Numbering.{IsNumbered, Shared, shared}
use Rattle.ut_case.specs.Problem.{Basis, OfTree, OfRules, Source, Problem}
use Rattle.problem_sources.specs.declared.ground.Ground.{Ground}
use Rattle.problem_sources.specs.declared.ground.Ground.TheVariants as ground
use Rattle.problem_sources.specs.declared.source.Source as read

-- the basis that a ground stands for
abbrev pub basis_of : Ground → Basis
basis_of (ground.Tree tree) = OfTree tree.shape
basis_of (ground.Rules rules) = OfRules rules

-- a source with the paths that name it
abbrev pub posed_source : Conds → read.Source → Source
posed_source conds s = record { name = s.name; paths = paths_of conds s.name; read = s.blocks }

-- the problem over these, with these undeclared names
abbrev pub posed_with : Basis → Conds → List read.Source → List Bytes → Problem
posed_with b conds sources undeclared = record { basis = b; sources = map (posed_source conds) sources; undeclared = undeclared }

-- what the sources of that problem share, where its undeclared names are numbered
pub record IsSharedOf (b : Basis) (conds : Conds) (sources : List read.Source) (s : Shared) : Type 0 where
  pub numbered : IsNumbered (posed_with b conds sources s.undeclared)
  pub same : s ≡ shared (posed_with b conds sources s.undeclared)

-- ---- which of the two

-- the basis, where it is a tree
abbrev pub tree_in : Basis → Option Basis
tree_in (OfTree t) = Some (OfTree t)
tree_in (OfRules r) = None

-- the basis, where it is the rules of a model text
abbrev pub rules_in : Basis → Option Basis
rules_in (OfTree t) = None
rules_in (OfRules r) = Some (OfRules r)

-- the names of a model text
abbrev pub rule_names : Basis → List Bytes
rule_names (OfTree t) = []
rule_names (OfRules r) = r.names
