-- How deep a formula is, and how deep an expression is nested: by negations and lists, one inside another.
-- This project's rule.
use Rattle.std.specs.Prelude.{ℕ, ◌+◌, ◌≤◌, List, All}
use Rattle.ut_logic.specs.declared.formula.Formula.{Formula}
use Rattle.ut_logic.specs.declared.formula.Formula.TheOpen.{Formula-F}
use Rattle.ut_logic.specs.declared.formula.Formula.TheFolds.{fold-Formula}
use Rattle.kconf_entries.specs.declared.expr.Expr.{Expr}
use Rattle.kconf_entries.specs.declared.expr.Expr.TheOpen.{Expr-F}
use Rattle.kconf_entries.specs.declared.expr.Expr.TheFolds.{fold-Expr}
use Rattle.kconf_entries.specs.declared.entries.DefaultOf.{DefaultOf}
use Rattle.ut_logic.specs.declared.facts.Fact.{Fact}
use Rattle.kconf_tree.specs.Shape.{Shape, Selecting, symbol_at, choice_at, selectors_of, impliers_of}
use Rattle.kconf_tree.specs.Value.{greatest}

-- the depth of one layer of a formula, given that of each inner one
abbrev pub depth_step : Formula-F ℕ → ℕ
depth_step Formula-F.Yes = 0
depth_step Formula-F.No = 0
depth_step (Formula-F.Is item) = 0
depth_step (Formula-F.Neg n) = 1 + n
depth_step (Formula-F.AllOf ns) = 1 + greatest ns
depth_step (Formula-F.AnyOf ns) = 1 + greatest ns

-- the depth of a formula
abbrev pub depth : Formula → ℕ
depth = fold-Formula ℕ depth_step

-- the nesting of one layer of an expression, given that of each inner one
abbrev pub nesting_step : Expr-F ℕ → ℕ
nesting_step (Expr-F.Const x) = 0
nesting_step (Expr-F.Name name) = 0
nesting_step (Expr-F.Outer text) = 0
nesting_step (Expr-F.Compare left sign right) = 0
nesting_step (Expr-F.Neg n) = 1 + n
nesting_step (Expr-F.And ns) = 1 + greatest ns
nesting_step (Expr-F.Or ns) = 1 + greatest ns

-- the nesting of an expression
abbrev pub nesting : Expr → ℕ
nesting = fold-Expr ℕ nesting_step

-- a formula is at most five deeper than the expression is nested: so much takes a comparison of two names
abbrev pub IsShallow : Expr → Formula → Type 0
IsShallow e f = depth f ≤ nesting e + 5

-- ---- facts

-- an expression that is nested at most so deep
abbrev pub IsNested : ℕ → Expr → Type 0
IsNested n e = nesting e ≤ n

-- a default's condition and value are
abbrev pub IsNestedDefault : ℕ → DefaultOf → Type 0
IsNestedDefault n d = IsNested n d.cond × IsNested n d.value

-- the condition of a select or an imply is
abbrev pub IsNestedSelecting : ℕ → Selecting → Type 0
IsNestedSelecting n x = IsNested n x.cond

-- each expression of a tree is
pub record AreNested (t : Shape) (n : ℕ) : Type 0 where
  pub prompts : (k : ℕ) → All (IsNested n) (symbol_at t k).prompts
  pub places : (k : ℕ) → All (IsNested n) (symbol_at t k).places
  pub defaults : (k : ℕ) → All (IsNestedDefault n) (symbol_at t k).defaults
  pub selects : (k : ℕ) → All (IsNestedSelecting n) (selectors_of t k)
  pub implies : (k : ℕ) → All (IsNestedSelecting n) (impliers_of t k)
  pub choices : (i : ℕ) → All (IsNested n) (choice_at t i).prompts

-- the formulas of a fact are at most thirteen deeper
abbrev pub IsShallowFact : ℕ → Fact → Type 0
IsShallowFact n fact = All (λ f. depth f ≤ n + 13) fact.holds

-- those of facts are, however deep the tree's expressions are nested
abbrev pub AreShallow : Shape → List Fact → Type 0
AreShallow t facts = (n : ℕ) → AreNested t n → All (IsShallowFact n) facts
