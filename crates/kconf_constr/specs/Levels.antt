-- The two formulas of an expression: that its value isn't n, and that it is y.
-- Rule: Linux kconfig-language, "Menu dependencies"; the formulas are this project's rule.
use Rattle.std.specs.Prelude.{ℕ, List, [], ◌∷◌, Option, None, Some, map}
use Rattle.ut_text.specs.Bytes.{Bytes}
use Rattle.ut_logic.specs.declared.trit.Trit.{Trit}
use Rattle.ut_logic.specs.declared.trit.Trit.TheVariants.{N, M, Y}
use Rattle.ut_logic.specs.declared.item.Item.TheVariants.{SymY, SymM, Undeclared, Outer}
use Rattle.ut_logic.specs.declared.formula.Formula.{Formula}
use Rattle.ut_logic.specs.declared.formula.Formula.TheVariants.{Yes, No, Is}
use Rattle.ut_logic.specs.Fold.{all_of, any_of, not_of}
use Rattle.kconf_entries.specs.declared.expr.Side.{Side}
use Rattle.kconf_entries.specs.declared.expr.Side.TheVariants as side
use Rattle.kconf_entries.specs.declared.expr.Sign.{Sign}
use Rattle.kconf_entries.specs.declared.expr.Sign.TheVariants as sign
use Rattle.kconf_entries.specs.declared.expr.Expr.{Expr}
use Rattle.kconf_entries.specs.declared.expr.Expr.TheOpen.{Expr-F}
use Rattle.kconf_entries.specs.declared.expr.Expr.TheFolds.{fold-Expr}
use Rattle.kconf_tree.specs.declared.shape.Counts.{Counts}
use Rattle.kconf_tree.specs.declared.shape.Counts.TheVariants as counts
use Rattle.kconf_tree.specs.Shape.{counts_as, number_of, outer_at}
use Rattle.kconf_tree.specs.declared.place.Place.{Place}
use Rattle.kconf_tree.specs.declared.place.Place.TheVariants.{Condition, Value}
use Rattle.kconf_tree.specs.Value.{Comparison, OfTrits, OfText, comparison_of}
use Rattle.kconf_constr.specs.declared.level.Level.{Level}
use Rattle.kconf_constr.specs.declared.level.Level.TheVariants.{NotN, IsY}
use Rattle.kconf_constr.specs.Scope.{Scope, number_among}

-- the formula that the value isn't n, and the formula that it is y
pub record Levels : Type 0 where
  pub not_n : Formula
  pub is_y : Formula

-- of an expression whose value is n or y
abbrev pub both : Formula → Levels
both f = record { not_n = f; is_y = f }

-- the formula at a level
abbrev pub at_level : Level → Levels → Formula
at_level NotN h = h.not_n
at_level IsY h = h.is_y

-- the other level
abbrev pub other_level : Level → Level
other_level NotN = IsY
other_level IsY = NotN

-- ---- names and constants

-- the item of an undeclared name, or No
abbrev pub undeclared_formula : Option ℕ → Formula
undeclared_formula None = No
undeclared_formula (Some k) = Is (Undeclared k)

-- the formulas of a symbol that counts as this; one of another type is n
abbrev pub own_levels_as : Counts → ℕ → Levels
own_levels_as counts.Bool k = both (Is (SymY k))
own_levels_as counts.Tristate k = record { not_n = any_of (Is (SymY k) ∷ Is (SymM k) ∷ []); is_y = Is (SymY k) }
own_levels_as counts.Neither k = both No

-- the formulas of a symbol
abbrev pub own_levels : Scope → ℕ → Levels
own_levels s k = own_levels_as (counts_as s.shape k) k

-- the formulas of a name that is declared with this number, or undeclared
abbrev pub named_levels : Scope → Bytes → Option ℕ → Levels
named_levels s name None = both (undeclared_formula (number_among s.undeclared name))
named_levels s name (Some k) = own_levels s k

-- the formulas of a name
abbrev pub name_levels : Scope → Bytes → Levels
name_levels s name = named_levels s name (number_of s.shape name)

-- the item of an outer condition
abbrev pub outer_formula : Option ℕ → Formula
outer_formula None = No
outer_formula (Some k) = Is (Outer k)

-- that the modules symbol, which counts as bool, isn't n
abbrev pub modules_formula : Option ℕ → Formula
modules_formula None = No
modules_formula (Some k) = Is (SymY k)

-- the formulas of a value
abbrev pub value_levels : Trit → Levels
value_levels N = both No
value_levels M = record { not_n = Yes; is_y = No }
value_levels Y = both Yes

-- the formulas of a constant at a place; a bare m in a condition is n without modules
abbrev pub const_levels : Scope → Place → Trit → Levels
const_levels s Value x = value_levels x
const_levels s Condition N = both No
const_levels s Condition M = record { not_n = modules_formula s.shape.modules; is_y = No }
const_levels s Condition Y = both Yes

-- ---- comparisons

-- the formulas of a side
abbrev pub side_levels : Scope → Side → Levels
side_levels s (side.Const x) = value_levels x
side_levels s (side.Name name) = name_levels s name
side_levels s d = both No

-- both are y
abbrev pub both_y : Levels → Levels → Formula
both_y a b = all_of (a.is_y ∷ b.is_y ∷ [])

-- both are n
abbrev pub both_n : Levels → Levels → Formula
both_n a b = all_of (not_of a.not_n ∷ not_of b.not_n ∷ [])

-- both are m
abbrev pub both_m : Levels → Levels → Formula
both_m a b = all_of (a.not_n ∷ not_of a.is_y ∷ b.not_n ∷ not_of b.is_y ∷ [])

-- both have the same value
abbrev pub same : Levels → Levels → Formula
same a b = any_of (both_y a b ∷ both_n a b ∷ both_m a b ∷ [])

-- `=`, or its negation
abbrev pub compared : Sign → Formula → Formula
compared sign.Same f = f
compared sign f = not_of f

-- the formula of a comparison of two of the three values, or of an outer condition
abbrev pub comparison_formula : Scope → Side → Sign → Side → Comparison → Formula
comparison_formula s left sign right OfTrits = compared sign (same (side_levels s left) (side_levels s right))
comparison_formula s left sign right (OfText text) = outer_formula (outer_at s.shape text)

-- ---- expressions

-- that none of them is n
abbrev pub not_ns : List Levels → List Formula
not_ns hs = map (at_level NotN) hs

-- that each of them is y
abbrev pub is_ys : List Levels → List Formula
is_ys hs = map (at_level IsY) hs

-- the formulas of the least of several
abbrev pub each : List Levels → Levels
each hs = record { not_n = all_of (not_ns hs); is_y = all_of (is_ys hs) }

-- the formulas of the greatest of several
abbrev pub some : List Levels → Levels
some hs = record { not_n = any_of (not_ns hs); is_y = any_of (is_ys hs) }

-- the formulas of one layer of an expression, given those of each inner one
abbrev pub levels_step : Scope → Place → Expr-F Levels → Levels
levels_step s p (Expr-F.Const x) = const_levels s p x
levels_step s p (Expr-F.Name name) = name_levels s name
levels_step s p (Expr-F.Outer text) = both (outer_formula (outer_at s.shape text))
levels_step s p (Expr-F.Compare left sign right) = both (comparison_formula s left sign right (comparison_of s.shape left sign right))
levels_step s p (Expr-F.Neg h) = record { not_n = not_of h.is_y; is_y = not_of h.not_n }
levels_step s p (Expr-F.And hs) = each hs
levels_step s p (Expr-F.Or hs) = some hs

-- the formulas of an expression at a place
abbrev pub levels : Scope → Place → Expr → Levels
levels s p = fold-Expr Levels (levels_step s p)
