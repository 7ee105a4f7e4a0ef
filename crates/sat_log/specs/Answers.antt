-- What the answers of the search say of the trail that it leaves. This project's rule.
use Rattle.std.specs.Prelude.{◌≡◌, ℕ, ◌+◌, ◌<◌, true, List, length, slice_index_or, Contains}
use Rattle.ut_logic.specs.declared.item.Item.{Item}
use Rattle.ut_logic.specs.declared.literals.Lit.{Lit}
use Rattle.ut_logic.specs.Assign.{is_in}
use Rattle.log_check.specs.Derivations.{Refutes}
use Rattle.sat_log.specs.declared.solving.Answer.{Answer}
use Rattle.sat_log.specs.declared.solving.Answer.TheVariants.{Found, Refuted, Spent}
use Rattle.sat_log.specs.Moves.{State}
use Rattle.sat_log.specs.Runs.{IsAtModel, IsAtRefutation}
use Rattle.sat_log.specs.LeastModel.{IsLeastModel, value_in}

-- the trail is at the least model, and the assignment is the trail's on the items
pub record IsFound (n : ℕ) (items : List Item) (clauses : List (List Lit)) (s : State) (a : List Item) : Type 0 where
  pub model : IsAtModel n clauses s
  pub least : IsLeastModel n clauses (value_in s.marks)
  pub given : (k : ℕ) (d : Item) → k < length items → is_in a (slice_index_or items k d) ≡ value_in s.marks (k + 1)
  pub only : (item : Item) → is_in a item ≡ true → Contains items item

-- the trail is at the end that the answer names, or at neither end with the budget used up
abbrev pub IsAnswer : ℕ → List Item → List (List Lit) → ℕ → State → Answer → Type 0
IsAnswer n items clauses budget s (Found a) = IsFound n items clauses s a
IsAnswer n items clauses budget s (Refuted d) = IsAtRefutation clauses s × Refutes clauses d.lines
IsAnswer n items clauses budget s (Spent steps) =
    (steps ≡ budget) × (s.steps ≡ budget) × (¬ IsAtModel n clauses s) × (¬ IsAtRefutation clauses s)
