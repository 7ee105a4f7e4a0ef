-- The clauses of formulas, with a new variable for each inner node: Tseitin's translation, in the order in
-- which this project writes it. A formula that is held, an item that a formula defines, and an inner node
-- of a formula each have their own clauses; those of inner nodes come before those that use them.
use Rattle.std.specs.Prelude.{◌≡◌, ℕ, ◌+◌, ◌<◌, true, false, List, [], ◌∷◌, ◌++◌, map, position, Option, None, Some}
use Rattle.ut_logic.specs.declared.item.Item.{Item}
use Rattle.ut_logic.specs.declared.literals.Lit.{Lit}
use Rattle.ut_logic.specs.declared.facts.Definition.{Definition}
use Rattle.ut_logic.specs.declared.formula.Formula.{Formula, out-Formula}
use Rattle.ut_logic.specs.declared.formula.Formula.TheOpen.{Formula-F}
use Rattle.ut_logic.specs.declared.formula.Formula.TheFolds.{fold-Formula}
use Rattle.ut_logic.specs.Clauses.{literal as lit, negated}
use Rattle.ut_logic.specs.Assign.{is_in}
use Rattle.ut_logic.specs.Item.{item_eq}
use Rattle.clausify.specs.Form.{Form}

-- the variable as a literal
abbrev pub pos : ℕ → Lit
pos x = lit x true

-- its negation
abbrev pub neg : ℕ → Lit
neg x = lit x false

-- the variable at a place: places count from 0, variables from 1
abbrev pub var_at : Option ℕ → ℕ
var_at None = 0
var_at (Some k) = k + 1

-- the variable of an item, by its place in the list; an item that is not there has none
abbrev pub var_of : List Item → Item → ℕ
var_of items item = var_at (position (item_eq item) items)

-- each item of the list has a variable
abbrev pub HaveVariables : (Item → ℕ) → List Item → Type 0
HaveVariables at items = (i : Item) → is_in items i ≡ true → 0 < at i

-- ---- what says that a variable is all, any or one of some literals

-- x implies each, and all of them x
abbrev pub all_clauses : ℕ → List Lit → List (List Lit)
all_clauses x ls = map (λ l. neg x ∷ l ∷ []) ls ++ (pos x ∷ map negated ls) ∷ []

-- each implies x, and x some one of them
abbrev pub any_clauses : ℕ → List Lit → List (List Lit)
any_clauses x ls = map (λ l. pos x ∷ negated l ∷ []) ls ++ (neg x ∷ ls) ∷ []

-- x implies the literal, and the literal x
abbrev pub same_clauses : ℕ → Lit → List (List Lit)
same_clauses x l = (neg x ∷ l ∷ []) ∷ (pos x ∷ negated l ∷ []) ∷ []

-- ---- the literal of a formula

-- the form with these clauses at its end
abbrev pub with_clauses : Form → List (List Lit) → Form
with_clauses s cs = record { vars = s.vars; clauses = s.clauses ++ cs }

-- the form with one more variable and these clauses at its end
abbrev pub with_new : Form → List (List Lit) → Form
with_new s cs = record { vars = s.vars + 1; clauses = s.clauses ++ cs }

-- a new variable with the clauses that define it
abbrev pub define : Form → (ℕ → List (List Lit)) → Lit × Form
define s cs = (pos (s.vars + 1), with_new s (cs (s.vars + 1)))

-- a new variable that is all of the literals
abbrev pub define_all : List Lit × Form → Lit × Form
define_all r = define r.1 (λ x. all_clauses x r.0)

-- a new variable that is any of the literals
abbrev pub define_any : List Lit × Form → Lit × Form
define_any r = define r.1 (λ x. any_clauses x r.0)

-- the literal's negation in its place
abbrev pub negate_first : Lit × Form → Lit × Form
negate_first r = (negated r.0, r.1)

-- the literal in front of others
abbrev pub joined : Lit → List Lit × Form → List Lit × Form
joined l r = (l ∷ r.0, r.1)

-- the literals of several, one after another
abbrev pub each_in_turn : List (Form → Lit × Form) → Form → List Lit × Form
each_in_turn [] s = ([], s)
each_in_turn (m ∷ ms) s = joined (m s).0 (each_in_turn ms (m s).1)

-- one after another
abbrev pub in_turn : List (Form → Form) → Form → Form
in_turn [] s = s
in_turn (m ∷ ms) s = in_turn ms (m s)

-- the literal as a clause
abbrev pub asserted : Lit × Form → Form
asserted r = with_clauses r.1 ((r.0 ∷ []) ∷ [])

-- the literals as one clause
abbrev pub asserted_any : List Lit × Form → Form
asserted_any r = with_clauses r.1 (r.0 ∷ [])

-- what a formula does to a form where its literal is wanted, and where it is held
pub record Ways : Type 0 where
  pub literal : Form → Lit × Form
  pub held : Form → Form

-- one layer, with the ways of each inner formula in its place
abbrev pub ways_step : (Item → ℕ) → Formula-F Ways → Ways
ways_step at Formula-F.Yes = record { literal = λ s. define_all ([], s); held = λ s. s }
ways_step at Formula-F.No = record { literal = λ s. define_any ([], s); held = λ s. with_clauses s ([] ∷ []) }
ways_step at (Formula-F.Is item) = record { literal = λ s. (pos (at item), s); held = λ s. asserted (pos (at item), s) }
ways_step at (Formula-F.Neg m) = record { literal = λ s. negate_first (m.literal s); held = λ s. asserted (negate_first (m.literal s)) }
ways_step at (Formula-F.AllOf ms) = record { literal = λ s. define_all (each_in_turn (map (λ m. m.literal) ms) s); held = in_turn (map (λ m. m.held) ms) }
ways_step at (Formula-F.AnyOf ms) = record { literal = λ s. define_any (each_in_turn (map (λ m. m.literal) ms) s); held = λ s. asserted_any (each_in_turn (map (λ m. m.literal) ms) s) }

-- what a formula does
abbrev pub ways : (Item → ℕ) → Formula → Ways
ways at = fold-Formula Ways (ways_step at)

-- the literal of a formula, and the form with the clauses of its inner nodes
abbrev pub literal : (Item → ℕ) → Formula → Form → Lit × Form
literal at f = (ways at f).literal

-- the literals of formulas, one after another
abbrev pub literals : (Item → ℕ) → List Formula → Form → List Lit × Form
literals at fs = each_in_turn (map (λ m. m.literal) (map (ways at) fs))

-- the form with the clauses of a formula that is held
abbrev pub hold : (Item → ℕ) → Formula → Form → Form
hold at f = (ways at f).held

-- formulas that are held, one after another
abbrev pub hold_each : (Item → ℕ) → List Formula → Form → Form
hold_each at fs = in_turn (map (λ m. m.held) (map (ways at) fs))

-- ---- an item that a formula defines

-- x is all, any, or the one of the literals that were made
abbrev pub all_after : ℕ → List Lit × Form → Form
all_after x r = with_clauses r.1 (all_clauses x r.0)

abbrev pub any_after : ℕ → List Lit × Form → Form
any_after x r = with_clauses r.1 (any_clauses x r.0)

abbrev pub same_after : ℕ → Lit × Form → Form
same_after x r = with_clauses r.1 (same_clauses x r.0)

-- by the outermost layer of the formula
abbrev pub defined_at : (Item → ℕ) → ℕ → Formula → Formula-F Formula → Form → Form
defined_at at x f Formula-F.Yes s = with_clauses s ((pos x ∷ []) ∷ [])
defined_at at x f Formula-F.No s = with_clauses s ((neg x ∷ []) ∷ [])
defined_at at x f (Formula-F.Is item) s = same_after x (literal at f s)
defined_at at x f (Formula-F.Neg g) s = same_after x (literal at f s)
defined_at at x f (Formula-F.AllOf fs) s = all_after x (literals at fs s)
defined_at at x f (Formula-F.AnyOf fs) s = any_after x (literals at fs s)

-- the form with the clauses of a definition
abbrev pub defined : (Item → ℕ) → Definition → Form → Form
defined at d = defined_at at (at d.item) d.formula (out-Formula d.formula)

-- definitions, one after another
abbrev pub defined_each : (Item → ℕ) → List Definition → Form → Form
defined_each at ds = in_turn (map (defined at) ds)
