-- A clause form on its way: its first clauses are put in order before the others are written. This project's rule.
use Rattle.std.specs.Prelude.{◌≡◌, ◌≤◌, List, [], ◌++◌, length, All}
use Rattle.ut_logic.specs.declared.item.Item.{Item}
use Rattle.ut_logic.specs.declared.literals.Lit.{Lit}
use Rattle.ut_logic.specs.Clauses.{CountFromOne}
use Rattle.clausify.specs.Form.{Form}
use Rattle.clausify.specs.Tidy.{AreTidy}

-- the form with these clauses in front of its own
abbrev pub after : List (List Lit) → Form → Form
after front s = record { vars = s.vars; clauses = front ++ s.clauses }

-- of the form s some first clauses are put in order, as cs, and those after them are as they were written
pub record IsDraft (s written : Form) (cs : List (List Lit)) : Type 0 where
  pub front : List (List Lit)
  pub is : s ≡ after front written
  pub tidy : AreTidy front cs

-- no clause has the variable 0
abbrev pub AreCounted : List (List Lit) → Type 0
AreCounted cs = All CountFromOne cs

-- between two facts: each item has a variable, and all clauses are in order
pub record IsSettled (items : List Item) (written : Form) : Type 0 where
  pub wide : length items ≤ written.vars
  pub none : written.clauses ≡ []
