-- Which symbols are right under a configuration: some user's setting, or none, gives the symbol its own
-- value by calculation. Beside it the same demands on symbols and choices as tests.
-- Rule: Linux kconfig-language, "Menu attributes".
use Rattle.std.specs.Prelude.{ℕ, ◌==◌, Bool, true, ◌&&◌, ◌||◌, List, Option, None, Some, if◌then◌else◌, length, filter}
use Rattle.std.specs.List.{list_any, list_all}
use Rattle.kconf_tree.specs.declared.shape.Counts.{Counts}
use Rattle.kconf_tree.specs.Shape.{Shape, choice_at, counts_as}
use Rattle.kconf_tree.specs.Value.{Configuration, has_modules}
use Rattle.kconf_tree.specs.Properties.{visibility_of, reverse_of, default_of}
use Rattle.kconf_tree.specs.Valid.{calculate, HasValueBy, is_y, can_be_y, can_be_m, has_allowed_mode}

-- a user's setting, or none, gives the symbol its own value
abbrev pub IsRight : Shape → Configuration → ℕ → Type 0
IsRight t c k = (u : Option ℕ) × HasValueBy t c u k

-- the value x comes without a setting, or with x itself as the setting
abbrev pub is_settled : Counts → Bool → ℕ → ℕ → ℕ → ℕ → Bool
is_settled kind on vis rev def x = (calculate kind on vis rev def None == x) || (calculate kind on vis rev def (Some x) == x)

-- a symbol has such a value
abbrev pub is_right : Shape → Configuration → ℕ → Bool
is_right t c k = is_settled (counts_as t k) (has_modules t c) (visibility_of t c k) (reverse_of t c k) (default_of t c k) (c.value k)

-- ---- choices

-- a member has m
abbrev pub is_m : Configuration → ℕ → Bool
is_m c j = c.value j == 1

-- a member has n
abbrev pub is_n : Configuration → ℕ → Bool
is_n c j = c.value j == 0

-- a member keeps to a mode
abbrev pub keeps_mode : Shape → Configuration → ℕ → ℕ → Bool
keeps_mode t c mode j = if is_y c j then (mode == 2) && can_be_y t c j else (if is_m c j then (mode == 1) && can_be_m t c j else is_n c j)

-- in mode y, where some member can be y, exactly one is
abbrev pub has_one_y : Shape → Configuration → ℕ → List ℕ → Bool
has_one_y t c mode members = if (mode == 2) && list_any (can_be_y t c) members then length (filter (is_y c) members) == 1 else true

-- a choice keeps its rules
abbrev pub is_right_choice : Shape → Configuration → ℕ → Bool
is_right_choice t c i = has_allowed_mode t c i && (list_all (keeps_mode t c (c.mode i)) (choice_at t i).members && has_one_y t c (c.mode i) (choice_at t i).members)
