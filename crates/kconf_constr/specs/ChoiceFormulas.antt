-- The formulas that hold for a choice.
-- Rule: Linux kconfig-language, "Menu entries" (choice); the formulas are this project's.
use Rattle.std.specs.Prelude.{ℕ, Bool, List, [], ◌∷◌, ◌++◌, map, if◌then◌else◌}
use Rattle.std.specs.List.{flat_map}
use Rattle.ut_logic.specs.declared.item.Item.TheVariants.{SymY, SymM, ModeY, ModeM}
use Rattle.ut_logic.specs.declared.formula.Formula.{Formula}
use Rattle.ut_logic.specs.declared.formula.Formula.TheVariants.{Is}
use Rattle.ut_logic.specs.Fold.{all_of, any_of, not_of}
use Rattle.kconf_tree.specs.declared.shape.Counts.{Counts}
use Rattle.kconf_tree.specs.declared.shape.Counts.TheVariants as counts
use Rattle.kconf_tree.specs.Shape.{choice_at, counts_as}
use Rattle.kconf_tree.specs.Valid.{choice_counts}
use Rattle.kconf_constr.specs.Scope.{Scope}
use Rattle.kconf_constr.specs.Levels.{Levels, modules_formula}
use Rattle.kconf_constr.specs.PropertyFormulas.{greatest_levels, visibility_levels}

-- ---- members

-- that a visibility with these formulas lets what counts as this be y
abbrev pub lets_y_as : Counts → Formula → Levels → Formula
lets_y_as counts.Bool on vis = vis.not_n
lets_y_as counts.Tristate on vis = any_of (vis.is_y ∷ all_of (not_of on ∷ vis.not_n ∷ []) ∷ [])
lets_y_as counts.Neither on vis = vis.not_n

-- that a member can be y
abbrev pub can_y : Scope → ℕ → Formula
can_y s j = lets_y_as (counts_as s.shape j) (modules_formula s.shape.modules) (visibility_levels s j)

-- a member is y only in mode y, and only where it can be
abbrev pub member_y_holds : Scope → Formula → ℕ → List Formula
member_y_holds s mode j = any_of (not_of (Is (SymY j)) ∷ mode ∷ []) ∷ any_of (not_of (Is (SymY j)) ∷ can_y s j ∷ []) ∷ []

-- a tristate member is m only in mode m, and only where it is visible
abbrev pub m_holds_as : Scope → Formula → Counts → ℕ → List Formula
m_holds_as s mode counts.Bool j = []
m_holds_as s mode counts.Tristate j = any_of (not_of (Is (SymM j)) ∷ mode ∷ []) ∷ any_of (not_of (Is (SymM j)) ∷ (visibility_levels s j).not_n ∷ []) ∷ []
m_holds_as s mode counts.Neither j = []

-- likewise by what the member counts as
abbrev pub member_m_holds : Scope → Formula → ℕ → List Formula
member_m_holds s mode j = m_holds_as s mode (counts_as s.shape j) j

-- one of the two isn't y
abbrev pub not_both : ℕ → ℕ → Formula
not_both j k = any_of (not_of (Is (SymY j)) ∷ not_of (Is (SymY k)) ∷ [])

-- at most one is y
abbrev pub pairs : List ℕ → List Formula
pairs [] = []
pairs (j ∷ js) = map (not_both j) js ++ pairs js

-- the items of members
abbrev pub are_y : List ℕ → List Formula
are_y js = map (λ j. Is (SymY j)) js

-- in mode y, where a member can be y, some member is
abbrev pub some_holds : Scope → Formula → List ℕ → ℕ → Formula
some_holds s mode members j = any_of (not_of mode ∷ not_of (can_y s j) ∷ are_y members)

-- ---- the mode

-- the formulas of a choice's visibility
abbrev pub choice_levels : Scope → ℕ → Levels
choice_levels s i = greatest_levels s (choice_at s.shape i).prompts

-- of a bool choice: mode y only where it is visible, and there unless it is optional
abbrev pub bool_mode : Bool → Formula → Levels → List Formula
bool_mode optional y vis = any_of (not_of y ∷ vis.not_n ∷ []) ∷ (if optional then [] else any_of (not_of vis.not_n ∷ y ∷ []) ∷ [])

-- of a tristate choice: one mode, and m only with modules
abbrev pub one_mode : Formula → Formula → Formula → List Formula
one_mode y m on = any_of (not_of y ∷ not_of m ∷ []) ∷ any_of (not_of m ∷ on ∷ []) ∷ []

-- each mode only as far as the choice is visible
abbrev pub seen_modes : Formula → Formula → Formula → Levels → List Formula
seen_modes y m on vis = any_of (not_of y ∷ vis.not_n ∷ []) ∷ any_of (not_of y ∷ vis.is_y ∷ not_of on ∷ []) ∷ any_of (not_of m ∷ vis.not_n ∷ []) ∷ []

-- and one of the two where it is visible, unless it is optional
abbrev pub some_mode : Bool → Formula → Formula → Levels → List Formula
some_mode optional y m vis = if optional then [] else any_of (not_of vis.not_n ∷ y ∷ m ∷ []) ∷ []

-- all of these
abbrev pub tristate_mode : Bool → Formula → Formula → Formula → Levels → List Formula
tristate_mode optional y m on vis = one_mode y m on ++ seen_modes y m on vis ++ some_mode optional y m vis

-- ---- a choice

-- of a bool choice with these members
abbrev pub bool_choice_holds : Scope → ℕ → List ℕ → List Formula
bool_choice_holds s i members = bool_mode (choice_at s.shape i).optional (Is (ModeY i)) (choice_levels s i)
    ++ flat_map (member_y_holds s (Is (ModeY i))) members
    ++ pairs members
    ++ map (some_holds s (Is (ModeY i)) members) members

-- of a tristate choice with these members
abbrev pub tristate_choice_holds : Scope → ℕ → List ℕ → List Formula
tristate_choice_holds s i members = tristate_mode (choice_at s.shape i).optional (Is (ModeY i)) (Is (ModeM i)) (modules_formula s.shape.modules) (choice_levels s i)
    ++ flat_map (member_y_holds s (Is (ModeY i))) members
    ++ flat_map (member_m_holds s (Is (ModeM i))) members
    ++ pairs members
    ++ map (some_holds s (Is (ModeY i)) members) members

-- of a choice that counts as this
abbrev pub choice_holds_as : Scope → Counts → ℕ → List ℕ → List Formula
choice_holds_as s counts.Bool i members = bool_choice_holds s i members
choice_holds_as s counts.Tristate i members = tristate_choice_holds s i members
choice_holds_as s counts.Neither i members = bool_choice_holds s i members

-- the formulas that hold for a choice
abbrev pub choice_holds : Scope → ℕ → List Formula
choice_holds s i = choice_holds_as s (choice_counts s.shape i) i (choice_at s.shape i).members
