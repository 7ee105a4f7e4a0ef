-- The problems of the rows, and which of their questions are undecided. This project's rule.
use Rattle.std.specs.Prelude.{ℕ, ◌==◌, Bool, true, false, if◌then◌else◌, List, [], ◌∷◌, Ok, Err, codes}
use Rattle.ut_text.specs.Bytes.{Bytes}
use Rattle.cpp_directives.specs.declared.directive.Directive.{Directive}
use Rattle.cpp_directives.specs.declared.bad.CppBad.TheVariants.{Unclosed}
use Rattle.kbuild_paths.specs.declared.step.Step.TheVariants.{On}
use Rattle.kconf_tree.specs.Shape.{Shape}
use Rattle.kconf_tree.specs.Value.{Configuration}
use Rattle.ut_case.specs.declared.question.Ask.{Ask}
use Rattle.ut_case.specs.declared.question.Ask.TheVariants.{Selected, Dropped}
use Rattle.ut_case.specs.declared.question.BlockId.{BlockId}
use Rattle.ut_case.specs.declared.question.Family.{Family}
use Rattle.ut_case.specs.declared.question.Family.TheVariants.{Code, Kconfig, Whole}
use Rattle.ut_case.specs.Cases.{Case}
use Rattle.ut_case.specs.Problem.{Basis, OfTree, Source, Problem}
use Rattle.worked_rows.specs.Texts.{two_tree, without_a}

-- ---- problems

-- a source that no Kbuild text names
abbrev pub plain_source : Bytes → List Directive → Source
plain_source name ds = record { name = name; paths = [] ∷ []; read = Ok ds }

-- one source, with these undeclared names
abbrev pub with_names : Basis → List Bytes → List Directive → Problem
with_names b names ds = record { basis = b; sources = plain_source (codes "a.c") ds ∷ []; undeclared = names }

-- one source over a tree, without undeclared names
abbrev pub over : Shape → List Directive → Problem
over t ds = with_names (OfTree t) [] ds

-- `a.c`, which is built where A isn't n; `b.c`, which no Kbuild text names; and `c.c`, whose line 1 opens an open chain
abbrev pub three_sources : Problem
three_sources = record {
  basis = OfTree two_tree;
  sources = record { name = codes "a.c"; paths = (On (codes "A") ∷ []) ∷ []; read = Ok without_a }
      ∷ plain_source (codes "b.c") without_a
      ∷ record { name = codes "c.c"; paths = [] ∷ []; read = Err (Unclosed 1) }
      ∷ [];
  undeclared = [];
}

-- a block of the first source
abbrev pub block : ℕ → BlockId
block k = record { file = 0; block = k }

-- a block of the second source
abbrev pub second_block : ℕ → BlockId
second_block k = record { file = 1; block = k }

-- ---- a case

-- of the symbols this one is y, and each choice has mode y
abbrev pub picking : ℕ → Configuration
picking k = record { value = λ j. if j == k then 2 else 0; mode = λ i. 2; outer = λ k. false; undeclared = λ name. false }

-- the second member of a choice is y, and nothing else is true
abbrev pub second_picked : Case
second_picked = record { configuration = picking 1; environment = λ i. false }

-- ---- questions

-- each question on a block is decided
abbrev pub none_spent : Family → Ask → Bool
none_spent f ask = false

-- each question of a run is decided
abbrev pub all_decided : BlockId → Family → Ask → Bool
all_decided b = none_spent

-- of the questions over valid configurations this one isn't decided
abbrev pub spent_at : Ask → Family → Ask → Bool
spent_at asked Code ask = false
spent_at asked Kconfig ask = false
spent_at Selected Whole Selected = true
spent_at Selected Whole Dropped = false
spent_at Dropped Whole Selected = false
spent_at Dropped Whole Dropped = true
