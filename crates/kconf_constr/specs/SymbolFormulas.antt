-- The formulas that hold for a symbol.
-- Rule: Linux kconfig-language, "Menu attributes"; the formulas are this project's rule.
use Rattle.std.specs.Prelude.{ℕ, List, [], ◌∷◌, ◌++◌, if◌then◌else◌}
use Rattle.ut_logic.specs.declared.item.Item.TheVariants.{SymY, SymM}
use Rattle.ut_logic.specs.declared.formula.Formula.{Formula}
use Rattle.ut_logic.specs.declared.formula.Formula.TheVariants.{Is}
use Rattle.ut_logic.specs.Fold.{any_of, not_of}
use Rattle.kconf_tree.specs.declared.shape.Counts.{Counts}
use Rattle.kconf_tree.specs.declared.shape.Counts.TheVariants as counts
use Rattle.kconf_tree.specs.Shape.{counts_as, is_member}
use Rattle.kconf_constr.specs.Scope.{Scope}
use Rattle.kconf_constr.specs.Levels.{Levels, own_levels, modules_formula}
use Rattle.kconf_constr.specs.PropertyFormulas.{visibility_levels, reverse_levels, default_levels}

-- the formulas of a symbol's value, and of its visibility, reverse dependency and default
pub record Properties : Type 0 where
  pub own : Levels
  pub vis : Levels
  pub rev : Levels
  pub def : Levels

-- those of a symbol
abbrev pub properties_of : Scope → ℕ → Properties
properties_of s k = record { own = own_levels s k; vis = visibility_levels s k; rev = reverse_levels s k; def = default_levels s k }

-- a selected symbol isn't n
abbrev pub raised : Properties → Formula
raised l = any_of (not_of l.rev.not_n ∷ l.own.not_n ∷ [])

-- a symbol that isn't n is visible, has a default or is selected
abbrev pub allowed : Properties → Formula
allowed l = any_of (not_of l.own.not_n ∷ l.vis.not_n ∷ l.def.not_n ∷ l.rev.not_n ∷ [])

-- the default counts where no prompt is visible
abbrev pub kept : Properties → Formula
kept l = any_of (l.vis.not_n ∷ not_of l.def.not_n ∷ l.own.not_n ∷ [])

-- that the symbol isn't n exactly where some setting makes it so
abbrev pub base_holds : Properties → List Formula
base_holds l = raised l ∷ allowed l ∷ kept l ∷ []

-- one value, and m only with modules
abbrev pub one_holds : Formula → ℕ → List Formula
one_holds on k = any_of (not_of (Is (SymY k)) ∷ not_of (Is (SymM k)) ∷ []) ∷ any_of (not_of (Is (SymM k)) ∷ on ∷ []) ∷ []

-- a symbol selected by y is y
abbrev pub y_raised : ℕ → Properties → Formula
y_raised k l = any_of (not_of l.rev.is_y ∷ Is (SymY k) ∷ [])

-- a symbol that is y has a visibility, default or reverse dependency of y, unless modules are off
abbrev pub y_allowed : Formula → ℕ → Properties → Formula
y_allowed on k l = any_of (not_of (Is (SymY k)) ∷ l.vis.is_y ∷ l.def.is_y ∷ l.rev.is_y ∷ not_of on ∷ [])

-- a default y counts where no prompt is visible
abbrev pub y_kept : ℕ → Properties → Formula
y_kept k l = any_of (l.vis.not_n ∷ not_of l.def.is_y ∷ Is (SymY k) ∷ [])

-- that it is y exactly where some setting makes it so
abbrev pub y_holds : Formula → ℕ → Properties → List Formula
y_holds on k l = y_raised k l ∷ y_allowed on k l ∷ y_kept k l ∷ []

-- the formulas that hold for a symbol that counts as this
abbrev pub holds_as : Counts → Formula → ℕ → Properties → List Formula
holds_as counts.Bool on k l = base_holds l
holds_as counts.Tristate on k l = one_holds on k ++ base_holds l ++ y_holds on k l
holds_as counts.Neither on k l = []

-- the formulas that hold for a symbol that is no member of a choice
abbrev pub non_member_holds : Scope → ℕ → List Formula
non_member_holds s k = holds_as (counts_as s.shape k) (modules_formula s.shape.modules) k (properties_of s k)

-- none hold for a member: they hold for its choice
abbrev pub symbol_holds : Scope → ℕ → List Formula
symbol_holds s k = if is_member s.shape k then [] else non_member_holds s k
