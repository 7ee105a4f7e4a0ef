-- The clauses of a question, and when its steps can run out.
-- Rule: Tseitin's translation; the order of variables and clauses is this project's rule.
use Rattle.std.specs.Prelude.{◌≡◌, ℕ, List, [], length}
use Rattle.ut_logic.specs.declared.item.Item.{Item}
use Rattle.ut_logic.specs.declared.node.Node.{Node}
use Rattle.ut_logic.specs.declared.literals.Lit.{Lit}
use Rattle.clausify.specs.Form.{Form}
use Rattle.clausify.specs.ClauseForm.{var_of, hold_each}
use Rattle.clausify.specs.Order.{form_of}
use Rattle.clausify.specs.Tidy.{AreTidy}
use Rattle.sat_log.specs.Runs.{IsSpent}
use Rattle.ut_case.specs.Facts.{rules_for}
use Rattle.ut_case.specs.Needs.{AreNeeds, AreItems, needed_facts, wish_of}
use Rattle.ut_case.specs.Problem.{Problem}
use Rattle.ut_case.specs.Questions.{Question}

-- the form before its clauses are put in order: the rules of a model text, the facts of the nodes, the wishes
abbrev pub form_for : Problem → Question → List Node → List Item → Form
form_for p q nodes items = form_of (var_of items) (needed_facts p q nodes) (wish_of p q)
    (hold_each (var_of items) (rules_for q.family p.basis) (record { vars = length items; clauses = [] }))

-- the clauses of a question over its items and inner nodes
pub record AreClauses (p : Problem) (q : Question) (items : List Item) (vars : ℕ) (clauses : List (List Lit)) : Type 0 where
  pub nodes : List Node
  pub needs : AreNeeds p q nodes
  pub named : AreItems p q nodes items
  pub count : vars ≡ (form_for p q nodes items).vars
  pub written : AreTidy (form_for p q nodes items).clauses clauses

-- some run of so many steps over the clauses of a question is then at neither end
pub record CanRunOut (p : Problem) (q : Question) (steps : ℕ) : Type 0 where
  pub items : List Item
  pub vars : ℕ
  pub clauses : List (List Lit)
  pub form : AreClauses p q items vars clauses
  pub spent : IsSpent vars clauses steps
