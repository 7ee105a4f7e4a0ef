-- Configurations, and the value of an expression under one, where n is 0, m is 1 and y is 2.
-- Rule: Linux kconfig-language, "Menu dependencies". That comparisons of other types are free
-- conditions, and that undeclared names may be read as y, is this project's rule.
use Rattle.std.specs.Prelude.{ℕ, ◌-◌, ◌≤◌, ◌==◌, Bool, true, false, not, ◌&&◌, List, [], ◌∷◌, Option, None, Some, if◌then◌else◌, min, max}
use Rattle.ut_text.specs.Bytes.{Bytes}
use Rattle.ut_logic.specs.Trit.{rank}
use Rattle.ut_logic.specs.declared.trit.Trit.{Trit}
use Rattle.ut_logic.specs.declared.trit.Trit.TheVariants.{N, M, Y}
use Rattle.kconf_entries.specs.declared.expr.Side.{Side}
use Rattle.kconf_entries.specs.declared.expr.Side.TheVariants as side
use Rattle.kconf_entries.specs.declared.expr.Sign.{Sign}
use Rattle.kconf_entries.specs.declared.expr.Sign.TheVariants as sign
use Rattle.kconf_entries.specs.declared.expr.Expr.{Expr}
use Rattle.kconf_entries.specs.declared.expr.Expr.TheOpen.{Expr-F}
use Rattle.kconf_entries.specs.declared.expr.Expr.TheFolds.{fold-Expr}
use Rattle.kconf_entries.specs.Written.{comparison_text}
use Rattle.kconf_entries.specs.declared.entries.Kind.{Kind}
use Rattle.kconf_entries.specs.declared.entries.Kind.TheVariants as kind
use Rattle.kconf_tree.specs.declared.shape.Counts.{Counts}
use Rattle.kconf_tree.specs.declared.shape.Counts.TheVariants as counts
-- where an expression stands: a bare m is n in a condition without modules, and m in a default's value
pub use Rattle.kconf_tree.specs.declared.place.Place.{Place}
pub use Rattle.kconf_tree.specs.declared.place.Place.TheVariants.{Condition, Value}
use Rattle.kconf_tree.specs.Shape.{Shape, symbol_at, counts_as, number_of, outer_at}

-- one value for each symbol, one mode for each choice, one truth for each outer condition; and of
-- each undeclared name whether it is read as y. What lies past the counts is never used.
pub record Configuration : Type 0 where
  pub value : ℕ → ℕ
  pub mode : ℕ → ℕ
  pub outer : ℕ → Bool
  pub undeclared : Bytes → Bool

-- each value is n, m or y
abbrev pub HasValues : Configuration → Type 0
HasValues c = (k : ℕ) → c.value k ≤ 2

-- the minimum of values, y of none
abbrev pub least : List ℕ → ℕ
least [] = 2
least (x ∷ xs) = min x (least xs)

-- the maximum, n of no values
abbrev pub greatest : List ℕ → ℕ
greatest [] = 0
greatest (x ∷ xs) = max x (greatest xs)

-- that the modules symbol isn't n
abbrev pub has_modules : Shape → Configuration → Bool
has_modules t c = is_on t.modules
  where
    is_on : Option ℕ → Bool
    is_on None = false
    is_on (Some k) = not (c.value k == 0)

-- a symbol that is bool or tristate stands for its value, every other for n
abbrev pub stands_for : Counts → ℕ → ℕ
stands_for counts.Neither x = 0
stands_for kind x = x

-- the value that a symbol stands for
abbrev pub own_value : Shape → Configuration → ℕ → ℕ
own_value t c k = stands_for (counts_as t k) (c.value k)

-- an undeclared name is n, or y where the configuration reads it so
abbrev pub named : Shape → Configuration → Bytes → Option ℕ → ℕ
named t c name None = if c.undeclared name then 2 else 0
named t c name (Some k) = own_value t c k

-- the value that a name stands for
abbrev pub name_value : Shape → Configuration → Bytes → ℕ
name_value t c name = named t c name (number_of t name)

-- ---- comparisons

-- a type whose symbols have texts or numbers for values
abbrev pub is_text_or_number : Kind → Bool
is_text_or_number kind.Str = true
is_text_or_number kind.Hex = true
is_text_or_number kind.Int = true
is_text_or_number k = false

-- a side that has one of the three values
abbrev pub has_trit_named : Shape → Option ℕ → Bool
has_trit_named t None = true
has_trit_named t (Some k) = not (is_text_or_number (symbol_at t k).kind)

-- a constant, or a name that is bool, tristate, untyped or undeclared
abbrev pub has_trit : Shape → Side → Bool
has_trit t (side.Const x) = true
has_trit t (side.Name name) = has_trit_named t (number_of t name)
has_trit t s = false

-- `=` and `!=`
abbrev pub is_equation : Sign → Bool
is_equation sign.Same = true
is_equation sign.Differ = true
is_equation s = false

-- the value of a side
abbrev pub side_value : Shape → Configuration → Side → ℕ
side_value t c (side.Const x) = rank x
side_value t c (side.Name name) = name_value t c name
side_value t c s = 0

-- y where the comparison holds, else n
abbrev pub compared : Sign → ℕ → ℕ → ℕ
compared sign.Same a b = if a == b then 2 else 0
compared s a b = if a == b then 0 else 2

-- whether a comparison is of two of the three values
abbrev pub compares_trits : Shape → Side → Sign → Side → Bool
compares_trits t left s right = is_equation s && (has_trit t left && has_trit t right)

-- what a comparison is: of two of the three values, or else an outer condition of this text
pub data Comparison : Type 0 where
  OfTrits : Comparison
  OfText : Bytes → Comparison

-- what this comparison is
abbrev pub comparison_of : Shape → Side → Sign → Side → Comparison
comparison_of t left s right = if compares_trits t left s right then OfTrits else OfText (comparison_text left s right)

-- ---- the value of an expression

-- y where the outer condition with this text is true, else n
abbrev pub outer_value : Shape → Configuration → Bytes → ℕ
outer_value t c text = truth_of (outer_at t text)
  where
    truth_of : Option ℕ → ℕ
    truth_of None = 0
    truth_of (Some k) = if c.outer k then 2 else 0

-- the value of a comparison
abbrev pub comparison_value : Shape → Configuration → Side → Sign → Side → Comparison → ℕ
comparison_value t c left s right OfTrits = compared s (side_value t c left) (side_value t c right)
comparison_value t c left s right (OfText text) = outer_value t c text

-- a constant, where a bare m looks at the place
abbrev pub const_value : Shape → Configuration → Place → Trit → ℕ
const_value t c p N = 0
const_value t c Condition M = if has_modules t c then 1 else 0
const_value t c Value M = 1
const_value t c p Y = 2

-- `!e` is 2 less the value, `&&` the minimum, `||` the maximum
abbrev pub value_step : Shape → Configuration → Place → Expr-F ℕ → ℕ
value_step t c p (Expr-F.Const x) = const_value t c p x
value_step t c p (Expr-F.Name name) = name_value t c name
value_step t c p (Expr-F.Outer text) = outer_value t c text
value_step t c p (Expr-F.Compare left s right) = comparison_value t c left s right (comparison_of t left s right)
value_step t c p (Expr-F.Neg x) = 2 - x
value_step t c p (Expr-F.And xs) = least xs
value_step t c p (Expr-F.Or xs) = greatest xs

-- the value of an expression at a place
abbrev pub value_in : Shape → Configuration → Place → Expr → ℕ
value_in t c p = fold-Expr ℕ (value_step t c p)

-- the value of a condition
abbrev pub value_of : Shape → Configuration → Expr → ℕ
value_of t c = value_in t c Condition
