-- What a clause form says: its models are the assignments of its items that meet facts and wish, each
-- extended to the inner nodes in one way. The usual meaning of clauses.
use Rattle.std.specs.Prelude.{◌≡◌, ℕ, ◌≤◌, Bool, true, List, length}
use Rattle.ut_logic.specs.declared.item.Item.{Item}
use Rattle.ut_logic.specs.declared.literals.Lit.{Lit}
use Rattle.ut_logic.specs.declared.formula.Formula.{Formula}
use Rattle.ut_logic.specs.declared.facts.Fact.{Fact}
use Rattle.ut_logic.specs.Clauses.{IsModel}
use Rattle.ut_logic.specs.Facts.{MeetsAll}
use Rattle.ut_logic.specs.Truth.{truths, all_true}
use Rattle.clausify.specs.ClauseForm.{var_of}

-- the values agree on the variables up to n, and on 0, which stands for the items that the list does not have
abbrev pub Agree : ℕ → (ℕ → Bool) → (ℕ → Bool) → Type 0
Agree n w u = (x : ℕ) → x ≤ n → w x ≡ u x

-- the truths of items where their variables have these values
abbrev pub items_under : List Item → (ℕ → Bool) → Item → Bool
items_under items w i = w (var_of items i)

-- the facts and the wish are met
pub record AreMet (v : Item → Bool) (facts : List Fact) (wish : List Formula) : Type 0 where
  pub facts_met : MeetsAll v facts
  pub wish_met : all_true (truths v wish) ≡ true

-- a model meets facts and wish; what meets them extends to a model; and it does so in one way
pub record StandsFor (items : List Item) (facts : List Fact) (wish : List Formula) (vars : ℕ) (clauses : List (List Lit)) : Type 0 where
  pub sound : (w : ℕ → Bool) → IsModel w clauses → AreMet (items_under items w) facts wish
  pub complete : (w : ℕ → Bool) → AreMet (items_under items w) facts wish → (u : ℕ → Bool) × Agree (length items) w u × IsModel u clauses
  pub one : (w u : ℕ → Bool) → IsModel w clauses → IsModel u clauses → Agree (length items) w u → Agree vars w u
