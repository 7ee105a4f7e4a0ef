-- The formulas of a symbol's visibility, reverse dependency and default, which gives way where it is implied.
-- Rule: Linux kconfig-language, "Menu attributes"; the formulas are this project's rule.
use Rattle.std.specs.Prelude.{ℕ, List, [], ◌∷◌, ◌++◌, map}
use Rattle.ut_logic.specs.declared.formula.Formula.{Formula}
use Rattle.ut_logic.specs.Fold.{all_of, any_of, not_of}
use Rattle.kconf_entries.specs.declared.expr.Expr.{Expr}
use Rattle.kconf_entries.specs.declared.entries.DefaultOf.{DefaultOf}
use Rattle.kconf_tree.specs.Shape.{Selecting, symbol_at, selectors_of, impliers_of}
use Rattle.kconf_tree.specs.declared.place.Place.TheVariants.{Condition, Value}
use Rattle.kconf_constr.specs.declared.level.Level.{Level}
use Rattle.kconf_constr.specs.declared.level.Level.TheVariants.{NotN, IsY}
use Rattle.kconf_constr.specs.Scope.{Scope}
use Rattle.kconf_constr.specs.Levels.{Levels, levels, own_levels, some, at_level}

-- the formula of a condition
abbrev pub condition_at : Scope → Level → Expr → Formula
condition_at s h e = at_level h (levels s Condition e)

-- the formulas of the greatest of conditions
abbrev pub greatest_levels : Scope → List Expr → Levels
greatest_levels s es = some (map (levels s Condition) es)

-- the formulas of a symbol's visibility
abbrev pub visibility_levels : Scope → ℕ → Levels
visibility_levels s k = greatest_levels s (symbol_at s.shape k).prompts

-- the formula of what one select or imply gives its target: the least of the symbol that has it, and its condition
abbrev pub selected_at : Scope → Level → Selecting → Formula
selected_at s h x = all_of (at_level h (own_levels s x.by) ∷ condition_at s h x.cond ∷ [])

-- the formula of the greatest of these
abbrev pub reverse_at : Scope → Level → List Selecting → Formula
reverse_at s h xs = any_of (map (selected_at s h) xs)

-- the formulas of what selects, or implies, together give
abbrev pub selecting_levels : Scope → List Selecting → Levels
selecting_levels s xs = record { not_n = reverse_at s NotN xs; is_y = reverse_at s IsY xs }

-- the formulas of a symbol's reverse dependency
abbrev pub reverse_levels : Scope → ℕ → Levels
reverse_levels s k = selecting_levels s (selectors_of s.shape k)

-- that the condition of a default is n
abbrev pub is_passed : Scope → DefaultOf → Formula
is_passed s d = not_of (condition_at s NotN d.cond)

-- that the defaults before are passed, and condition and value aren't n, or are y
abbrev pub default_part : Scope → Level → List Formula → DefaultOf → Formula
default_part s h passed d = all_of (passed ++ (condition_at s h d.cond ∷ at_level h (levels s Value d.value) ∷ []))

-- of each default, where those before are passed
abbrev pub default_parts : Scope → Level → List Formula → List DefaultOf → List Formula
default_parts s h passed [] = []
default_parts s h passed (d ∷ ds) = default_part s h passed d ∷ default_parts s h (passed ++ (is_passed s d ∷ [])) ds

-- that the first default whose condition isn't n gives no n, or y
abbrev pub default_at : Scope → Level → List DefaultOf → Formula
default_at s h ds = any_of (default_parts s h [] ds)

-- the formulas of the first default whose condition isn't n
abbrev pub first_levels : Scope → List DefaultOf → Levels
first_levels s ds = record { not_n = default_at s NotN ds; is_y = default_at s IsY ds }

-- the formulas of a default that gives way where the symbol is implied: it is raised as far as it is implied, and as far
-- as the direct dependency allows
abbrev pub weakened : Levels → Levels → Levels → Levels
weakened implied direct def = record {
  not_n = any_of (all_of (implied.not_n ∷ direct.not_n ∷ []) ∷ all_of (not_of implied.not_n ∷ def.not_n ∷ []) ∷ []);
  is_y = any_of (all_of (implied.not_n ∷ any_of (def.is_y ∷ implied.is_y ∷ []) ∷ direct.is_y ∷ []) ∷ all_of (not_of implied.not_n ∷ def.is_y ∷ []) ∷ []);
}

-- the formulas of a symbol's default, given what implies it; where nothing does, folding leaves the first default's
abbrev pub default_by : Scope → ℕ → List Selecting → Levels
default_by s k [] = first_levels s (symbol_at s.shape k).defaults
default_by s k (x ∷ xs) = weakened (selecting_levels s (x ∷ xs)) (greatest_levels s (symbol_at s.shape k).places) (first_levels s (symbol_at s.shape k).defaults)

-- the formulas of a symbol's default
abbrev pub default_levels : Scope → ℕ → Levels
default_levels s k = default_by s k (impliers_of s.shape k)

-- that the condition of a default isn't n
abbrev pub default_counts : Scope → DefaultOf → Formula
default_counts s d = condition_at s NotN d.cond

-- that a symbol of texts or numbers is written: some prompt's or some default's condition isn't n
abbrev pub written_formula : Scope → ℕ → Formula
written_formula s k = any_of (map (condition_at s NotN) (symbol_at s.shape k).prompts ++ map (default_counts s) (symbol_at s.shape k).defaults)
