-- What is read of a problem where its report is written. This project's rule.
use Rattle.std.specs.Prelude.{◌≡◌, ℕ, nat_lt, List, [], Option, None, Some, Result, Ok, Err, length, if◌then◌else◌}
use Rattle.ut_text.specs.Bytes.{Bytes}
use Rattle.ut_logic.specs.declared.item.Item.{Item}
use Rattle.ut_logic.specs.declared.literals.Lit.{Lit}
use Rattle.cpp_directives.specs.declared.bad.CppBad.{CppBad}
use Rattle.cpp_directives.specs.declared.directive.Directive.{Directive}
use Rattle.kconf_tree.specs.Shape.{Shape}
use Rattle.ut_case.specs.ClauseForms.{AreClauses}
use Rattle.ut_case.specs.Problem.{Basis, OfTree, OfRules, Problem, source_at}
use Rattle.ut_case.specs.Questions.{Question}

-- the tree, if there is one
abbrev pub tree_of : Basis → Option Shape
tree_of (OfTree t) = Some t
tree_of (OfRules r) = None

-- the names of a model text; a tree has none of these
abbrev pub rule_names : Basis → List Bytes
rule_names (OfTree t) = []
rule_names (OfRules r) = r.names

-- the directives, where the text isn't refused
abbrev pub blocks_in : Result (List Directive) CppBad → Option (List Directive)
blocks_in (Ok ds) = Some ds
blocks_in (Err e) = None

-- those of the source with a number, where there are so many
abbrev pub blocks_at : Problem → ℕ → Option (List Directive)
blocks_at p file = if nat_lt file (length p.sources) then blocks_in (source_at p file).read else None

-- why the text is refused, if it is
abbrev pub refusal_in : Result (List Directive) CppBad → Option CppBad
refusal_in (Ok ds) = None
refusal_in (Err e) = Some e

-- the question has so many clauses
abbrev pub HasClauses : Problem → Question → ℕ → Type 0
HasClauses p q n = (items : List Item) (vars : ℕ) (clauses : List (List Lit)) → AreClauses p q items vars clauses → length clauses ≡ n
