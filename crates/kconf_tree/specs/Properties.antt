-- The limits of a symbol under a configuration: visibility, reverse dependency, default, which gives way where
-- the symbol is implied, and whether a string, hex or int symbol is written.
-- Rule: Linux kconfig-language, "Menu attributes". That several prompts and selects give the maximum is
-- the document's rule for selects and this project's for prompts.
use Rattle.std.specs.Prelude.{ℕ, ◌==◌, Bool, not, ◌&&◌, ◌||◌, List, [], ◌∷◌, if◌then◌else◌, min, max, map}
use Rattle.std.specs.List.{list_any}
use Rattle.kconf_entries.specs.declared.entries.DefaultOf.{DefaultOf}
use Rattle.kconf_tree.specs.Shape.{Selecting, Shape, symbol_at, choice_at, selectors_of, impliers_of}
use Rattle.kconf_tree.specs.Value.{Configuration, Value, value_in, value_of, own_value, greatest, is_text_or_number}

-- the maximum of its prompts' full conditions
abbrev pub visibility_of : Shape → Configuration → ℕ → ℕ
visibility_of t c k = greatest (map (value_of t c) (symbol_at t k).prompts)

-- the minimum of the symbol that selects or implies, and its condition
abbrev pub selected_by : Shape → Configuration → Selecting → ℕ
selected_by t c s = min (own_value t c s.by) (value_of t c s.cond)

-- the reverse dependency: the maximum over the selects of the symbol
abbrev pub reverse_of : Shape → Configuration → ℕ → ℕ
reverse_of t c k = greatest (map (selected_by t c) (selectors_of t k))

-- the minimum of value and full condition of the first default whose condition isn't n, or n
abbrev pub first_default : Shape → Configuration → List DefaultOf → ℕ
first_default t c [] = 0
first_default t c (d ∷ ds) = if value_of t c d.cond == 0 then first_default t c ds else min (value_in t c Value d.value) (value_of t c d.cond)

-- the weak reverse dependency: the maximum over the implies of the symbol
abbrev pub implied_of : Shape → Configuration → ℕ → ℕ
implied_of t c k = greatest (map (selected_by t c) (impliers_of t k))

-- the direct dependency: the maximum of the places' dependencies
abbrev pub direct_of : Shape → Configuration → ℕ → ℕ
direct_of t c k = greatest (map (value_of t c) (symbol_at t k).places)

-- where a symbol is implied its default is raised that far, as far as its direct dependency allows
abbrev pub weakened : ℕ → ℕ → ℕ → ℕ
weakened implied direct def = if implied == 0 then def else min direct (max def implied)

-- the default of a symbol, which gives way where it is implied
abbrev pub default_of : Shape → Configuration → ℕ → ℕ
default_of t c k = weakened (implied_of t c k) (direct_of t c k) (first_default t c (symbol_at t k).defaults)

-- a string, hex or int symbol that is visible, or has a default whose condition isn't n
abbrev pub is_written : Shape → Configuration → ℕ → Bool
is_written t c k = is_text_or_number (symbol_at t k).kind
    && (not (visibility_of t c k == 0) || list_any (λ d. not (value_of t c d.cond == 0)) (symbol_at t k).defaults)

-- the maximum of a choice's prompts' full conditions
abbrev pub choice_visibility_of : Shape → Configuration → ℕ → ℕ
choice_visibility_of t c i = greatest (map (value_of t c) (choice_at t i).prompts)
