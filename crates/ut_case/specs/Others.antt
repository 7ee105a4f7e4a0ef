-- The law that other sources don't matter to a block: where the basis, the names and paths of all sources and the block's
-- own source stay, so does all that is said of the block, with undeclared names renumbered in order. This project's rule.
use Rattle.std.specs.Prelude.{◌≡◌, ◌↔◌, ℕ, List, Option, None, Some, map, slice_get}
use Rattle.std.specs.List.{position_or_len}
use Rattle.ut_text.specs.Bytes.{Bytes}
use Rattle.ut_text.specs.Text.{text_eq}
use Rattle.ut_logic.specs.declared.item.Item.{Item}
use Rattle.ut_logic.specs.declared.item.Item.TheVariants.{Undeclared}
use Rattle.ut_logic.specs.declared.node.Node.{Node}
use Rattle.ut_logic.specs.declared.literals.Lit.{Lit}
use Rattle.kbuild_paths.specs.declared.step.Step.{Step}
use Rattle.ut_case.specs.declared.question.Family.{Family}
use Rattle.ut_case.specs.declared.question.Ask.{Ask}
use Rattle.ut_case.specs.declared.question.BlockId.{BlockId}
use Rattle.ut_case.specs.Cases.{Case, IsCaseOf}
use Rattle.ut_case.specs.ClauseForms.{AreClauses, CanRunOut}
use Rattle.ut_case.specs.Least.{IsLeast}
use Rattle.ut_case.specs.Needs.{AreNeeds}
use Rattle.ut_case.specs.Numbering.{shared}
use Rattle.ut_case.specs.On.{start_in, is_on}
use Rattle.ut_case.specs.Posed.{IsPosed, IsBlockOf}
use Rattle.ut_case.specs.Problem.{Source, Problem, source_at}
use Rattle.ut_case.specs.Questions.{question_on}

-- what other sources may look at
abbrev pub face : Source → Bytes × List (List Step)
face s = (s.name, s.paths)

-- two problems that differ in what other sources than this say
pub record AreAlike (p other : Problem) (file : ℕ) : Type 0 where
  pub posed : IsPosed p
  pub posed_other : IsPosed other
  pub basis : p.basis ≡ other.basis
  pub faces : map face p.sources ≡ map face other.sources
  pub own : source_at p file ≡ source_at other file

-- the number that a name has in a list, in place of this one
abbrev pub number_in : List Bytes → ℕ → Option Bytes → ℕ
number_in names k None = k
number_in names k (Some name) = position_or_len (text_eq name) names

-- the item with the number that its undeclared name has in the other problem; every other item stays
abbrev pub renumbered : Problem → Problem → Item → Item
renumbered p other (Undeclared k) = Undeclared (number_in other.undeclared k (slice_get p.undeclared k))
renumbered p other i = i

-- both problems say the same of a block
pub record SaySame (p other : Problem) (b : BlockId) : Type 0 where
  pub cases : (f : Family) (x : Case) → IsCaseOf p f x ↔ IsCaseOf other f x
  pub starts : (f : Family) (x : Case) → start_in (shared p) f x b.file (source_at p b.file) ≡ start_in (shared other) f x b.file (source_at other b.file)
  pub on : (f : Family) (x : Case) → is_on p f x b ≡ is_on other f x b
  pub questions : (f : Family) (ask : Ask) → question_on p b f ask ≡ question_on other b f ask
  pub needs : (f : Family) (ask : Ask) (nodes : List Node) → AreNeeds p (question_on p b f ask) nodes ↔ AreNeeds other (question_on p b f ask) nodes
  pub clauses : (f : Family) (ask : Ask) (items : List Item) (vars : ℕ) (clauses : List (List Lit)) → AreClauses p (question_on p b f ask) items vars clauses
      → AreClauses other (question_on p b f ask) (map (renumbered p other) items) vars clauses
  pub run_out : (f : Family) (ask : Ask) (steps : ℕ) → CanRunOut p (question_on p b f ask) steps ↔ CanRunOut other (question_on p b f ask) steps
  pub least : (f : Family) (ask : Ask) (x : Case) → IsLeast p (question_on p b f ask) x ↔ IsLeast other (question_on p b f ask) x

-- other sources don't matter
abbrev pub OthersDontMatter : Type 0
OthersDontMatter = (p other : Problem) (b : BlockId) → IsBlockOf p b → AreAlike p other b.file → SaySame p other b
