-- The part of a clause form before the wish, which several wishes share. This project's rule.
use Rattle.std.specs.Prelude.{◌≡◌, ℕ, true, List, ◌++◌, IsSorted}
use Rattle.ut_logic.specs.declared.item.Item.{Item}
use Rattle.ut_logic.specs.declared.literals.Lit.{Lit}
use Rattle.ut_logic.specs.declared.formula.Formula.{Formula}
use Rattle.ut_logic.specs.declared.facts.Fact.{Fact}
use Rattle.ut_logic.specs.Assign.{is_in}
use Rattle.ut_logic.specs.Item.{item_cmp}
use Rattle.clausify.specs.Form.{Form}
use Rattle.clausify.specs.Draft.{IsDraft, IsSettled}
use Rattle.clausify.specs.Order.{items_of, mentioned_in, form_before, form_with, AreListed, AreOver}
use Rattle.clausify.specs.Tidy.{AreTidy}
use Rattle.clausify.specs.Meaning.{StandsFor}
use Rattle.clausify.specs.Over.{StandsOver}

-- items, which have the first variables, the number of variables, and clauses
pub record Begun : Type 0 where
  pub items : List Item
  pub vars : ℕ
  pub clauses : List (List Lit)

-- they are the form of these facts and of what is held before them, over the items that the facts list; and what is
-- mentioned is listed
pub record IsBegun (held : List Formula) (facts : List Fact) (b : Begun) : Type 0 where
  pub sorted : IsSorted item_cmp b.items
  pub members : (i : Item) → is_in b.items i ≡ is_in (items_of facts) i
  pub vars : b.vars ≡ (form_before b.items held facts).vars
  pub clauses : AreTidy (form_before b.items held facts).clauses b.clauses
  pub listed : AreListed facts
  pub held_listed : AreOver (items_of facts) held

-- the form with a wish: its variables and clauses are those that are defined, and they say what facts and formulas say
pub record IsFormOf (held : List Formula) (facts : List Fact) (wish : List Formula) (items : List Item) (vars : ℕ) (clauses : List (List Lit)) : Type 0 where
  pub count : vars ≡ (form_with items held facts wish).vars
  pub written : AreTidy (form_with items held facts wish).clauses clauses
  pub means : StandsFor items facts (held ++ wish) vars clauses
  pub over : StandsOver items facts (held ++ wish) vars clauses

-- ---- on its way

-- the draft of the form before the wish, over items that have all that is mentioned
pub record IsDrafted (held : List Formula) (facts : List Fact) (items : List Item) (written : Form) (cs : List (List Lit)) : Type 0 where
  pub of_held : AreOver items held
  pub of_facts : (i : Item) → is_in (mentioned_in facts) i ≡ true → is_in items i ≡ true
  pub draft : IsDraft (form_before items held facts) written cs
  pub settled : IsSettled items written

-- it is that of some formulas and facts
abbrev pub IsSomeDraft : List Item → Form → List (List Lit) → Type 0
IsSomeDraft items written cs = (held : List Formula) × (facts : List Fact) × IsDrafted held facts items written cs

-- what is begun is that of some formulas and facts
pub record IsSomeBegun (b : Begun) : Type 0 where
  pub held : List Formula
  pub facts : List Fact
  pub begun : IsBegun held facts b
