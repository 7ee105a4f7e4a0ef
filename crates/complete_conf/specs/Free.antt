-- Values and modes without a user's setting: what calculation gives a symbol, the least mode that a choice
-- allows, and the member that a choice picks.
-- Rule: Linux kconfig-language, "Menu attributes" and "Menu entries" (choice).
use Rattle.std.specs.Prelude.{ℕ, ◌==◌, Bool, ◌&&◌, ◌||◌, List, [], ◌∷◌, ◌++◌, Option, None, Some, if◌then◌else◌}
use Rattle.std.specs.List.{find}
use Rattle.std.specs.Option.{option_to_list}
use Rattle.kconf_entries.specs.declared.entries.SelectOf.{SelectOf}
use Rattle.kconf_tree.specs.Shape.{Shape, symbol_at, choice_at, is_the, number_of}
use Rattle.kconf_tree.specs.declared.shape.Counts.{Counts}
use Rattle.kconf_tree.specs.declared.shape.Counts.TheVariants as counts
use Rattle.kconf_tree.specs.Value.{Configuration, has_modules, value_of}
use Rattle.kconf_tree.specs.Properties.{choice_visibility_of}
use Rattle.kconf_tree.specs.Valid.{calculated_of, can_be_y, choice_counts}

-- the least mode that a choice allows that counts as this
abbrev pub least_mode : Counts → Bool → Bool → ℕ → ℕ
least_mode counts.Bool on optional vis = if (vis == 0) || optional then 0 else 2
least_mode counts.Tristate on optional vis = if (vis == 0) || optional then 0 else (if on then 1 else 2)
least_mode counts.Neither on optional vis = if (vis == 0) || optional then 0 else 2

-- the mode of a choice without a user's setting
abbrev pub free_mode : Shape → Configuration → ℕ → ℕ
free_mode t c i = least_mode (choice_counts t i) (has_modules t c) (choice_at t i).optional (choice_visibility_of t c i)

-- what the defaults name whose conditions aren't n
abbrev pub named_by_defaults : Shape → Configuration → List SelectOf → List ℕ
named_by_defaults t c [] = []
named_by_defaults t c (d ∷ ds) = if value_of t c d.cond == 0 then named_by_defaults t c ds
    else option_to_list (number_of t d.target) ++ named_by_defaults t c ds

-- a member of the choice that can be y
abbrev pub is_candidate : Shape → Configuration → ℕ → ℕ → Bool
is_candidate t c i j = is_the (symbol_at t j).member_of i && can_be_y t c j

-- the first that a default names, else the first member, that can be y
abbrev pub candidate_of : Shape → Configuration → ℕ → Option ℕ
candidate_of t c i = find (is_candidate t c i) (named_by_defaults t c (choice_at t i).defaults ++ (choice_at t i).members)

-- the member that is y: none but in mode y
abbrev pub picked_at : ℕ → Option ℕ → Option ℕ
picked_at mode candidate = if mode == 2 then candidate else None

-- the member that is y without a user's setting
abbrev pub picked_of : Shape → Configuration → ℕ → Option ℕ
picked_of t c i = picked_at (free_mode t c i) (candidate_of t c i)

-- y for the member that is picked, n for every other
abbrev pub picked_value : Option ℕ → ℕ → ℕ
picked_value picked j = if is_the picked j then 2 else 0

-- the value without a user's setting of a symbol, or of a member of a choice
abbrev pub free_by : Shape → Configuration → ℕ → Option ℕ → ℕ
free_by t c k None = calculated_of t c None k
free_by t c k (Some i) = picked_value (picked_of t c i) k

-- the value without a user's setting
abbrev pub free_value : Shape → Configuration → ℕ → ℕ
free_value t c k = free_by t c k (symbol_at t k).member_of
