-- Flat lists: each list of `&&` or `||` in an expression has two members or more, none of them a list of the same sign.
-- This project's words.
use Rattle.std.specs.Prelude.{Bool, true, false, not, ◌&&◌, nat_le, length, List}
use Rattle.std.specs.List.{list_all}
use Rattle.kconf_entries.specs.declared.expr.Expr.{Expr}
use Rattle.kconf_entries.specs.declared.expr.Expr.TheOpen.{Expr-F}
use Rattle.kconf_entries.specs.declared.expr.Expr.TheFolds.{fold-Expr}

-- what an expression is: a list of `&&`, a list of `||`, or neither
pub data Joins : Type 0 where
  ByAnd : Joins
  ByOr : Joins
  Alone : Joins

-- whether both are lists of the same sign
abbrev pub is_alike : Joins → Joins → Bool
is_alike ByAnd ByAnd = true
is_alike ByOr ByOr = true
is_alike j k = false

-- what an expression is, and whether its lists are flat
pub record Shaped : Type 0 where
  pub joins : Joins
  pub flat : Bool

-- a member of a list of this sign: flat, and no list of the same sign
abbrev pub is_member : Joins → Shaped → Bool
is_member j m = m.flat && not (is_alike j m.joins)

-- an expression that is no list
abbrev pub single : Bool → Shaped
single flat = record { joins = Alone; flat = flat }

-- a list with these members
abbrev pub flat_list : Joins → List Shaped → Shaped
flat_list j ms = record { joins = j; flat = nat_le 2 (length ms) && list_all (is_member j) ms }

-- an expression with these parts
abbrev pub flat_layer : Expr-F Shaped → Shaped
flat_layer (Expr-F.Const value) = single true
flat_layer (Expr-F.Name name) = single true
flat_layer (Expr-F.Outer text) = single true
flat_layer (Expr-F.Compare left sign right) = single true
flat_layer (Expr-F.Neg inner) = single inner.flat
flat_layer (Expr-F.And members) = flat_list ByAnd members
flat_layer (Expr-F.Or members) = flat_list ByOr members

-- what an expression is, and whether its lists are flat
abbrev pub shape_of : Expr → Shaped
shape_of = fold-Expr Shaped flat_layer

-- whether the lists of an expression are flat
abbrev pub is_flat : Expr → Bool
is_flat e = (shape_of e).flat
