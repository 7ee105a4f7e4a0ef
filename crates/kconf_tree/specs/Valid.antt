-- Which configurations are valid: some user setting gives every symbol its own value by calculation,
-- and every choice keeps its rules.
-- Rule: Linux kconfig-language, "Menu attributes", "Menu structure" and "Menu entries" (choice); that an
-- undeclared name is n is this project's rule.
use Rattle.std.specs.Prelude.{◌≡◌, ℕ, ◌==◌, ◌<◌, ◌≤◌, Bool, true, false, not, ◌&&◌, ◌||◌, ◌⊎◌, Option, None, Some, All, if◌then◌else◌, min, max, length, filter}
use Rattle.std.specs.List.{list_any}
use Rattle.ut_text.specs.Bytes.{Bytes}
use Rattle.kconf_tree.specs.declared.shape.Counts.{Counts}
use Rattle.kconf_tree.specs.declared.shape.Counts.TheVariants as counts
use Rattle.kconf_tree.specs.Shape.{Shape, choice_at, counts_alone, counts_as, is_member}
use Rattle.kconf_tree.specs.Value.{Configuration, has_modules}
use Rattle.kconf_tree.specs.Properties.{visibility_of, reverse_of, default_of, choice_visibility_of}

-- ---- calculation

-- a user's value counts where the symbol is visible, at most as far as it is; else the default counts
abbrev pub base_of : ℕ → ℕ → Option ℕ → ℕ
base_of vis def None = def
base_of vis def (Some u) = if vis == 0 then def else min u vis

-- a bool, and any symbol without modules, takes y for m; a symbol of another type has n
abbrev pub promoted : Counts → Bool → ℕ → ℕ
promoted counts.Bool on x = if x == 0 then 0 else 2
promoted counts.Tristate on x = if on then x else (if x == 0 then 0 else 2)
promoted counts.Neither on x = 0

-- the value calculated from visibility, reverse dependency, default and the user's value
abbrev pub calculate : Counts → Bool → ℕ → ℕ → ℕ → Option ℕ → ℕ
calculate kind on vis rev def u = promoted kind on (max (base_of vis def u) rev)

-- the value that a symbol gets where the user sets it to u, or not at all
abbrev pub calculated_of : Shape → Configuration → Option ℕ → ℕ → ℕ
calculated_of t c u k = calculate (counts_as t k) (has_modules t c) (visibility_of t c k) (reverse_of t c k) (default_of t c k) u

-- ---- symbols

-- a user sets a bool to n or y, a tristate to any value
abbrev pub Fits : Counts → Option ℕ → Type 0
Fits kind None = Unit {0}
Fits counts.Bool (Some u) = (u ≡ 0) ⊎ (u ≡ 2)
Fits counts.Tristate (Some u) = u ≤ 2
Fits counts.Neither (Some u) = ⊥

-- the symbol has the value that this user's value, or none, gives it
abbrev pub HasValueBy : Shape → Configuration → Option ℕ → ℕ → Type 0
HasValueBy t c u k = Fits (counts_as t k) u × (calculated_of t c u k ≡ c.value k)

-- a user setting gives some symbols a value, and every symbol that is no member its own by calculation
pub record IsSettingOf (t : Shape) (c : Configuration) (setting : ℕ → Option ℕ) : Type 0 where
  pub gives : (k : ℕ) → k < length t.symbols → is_member t k ≡ false → HasValueBy t c (setting k) k

-- ---- choices

-- a member has y
abbrev pub is_y : Configuration → ℕ → Bool
is_y c j = c.value j == 2

-- whether what counts as this can be y at a visibility: it is raised to y for a bool, and where modules are off
abbrev pub lets_y : Counts → Bool → ℕ → Bool
lets_y counts.Bool on vis = not (vis == 0)
lets_y counts.Tristate on vis = if on then vis == 2 else not (vis == 0)
lets_y counts.Neither on vis = not (vis == 0)

-- whether it can be m
abbrev pub lets_m : Counts → ℕ → Bool
lets_m counts.Bool vis = false
lets_m counts.Tristate vis = not (vis == 0)
lets_m counts.Neither vis = false

-- whether a member's own visibility lets it be y in mode y
abbrev pub can_be_y : Shape → Configuration → ℕ → Bool
can_be_y t c j = lets_y (counts_as t j) (has_modules t c) (visibility_of t c j)

-- and m in mode m
abbrev pub can_be_m : Shape → Configuration → ℕ → Bool
can_be_m t c j = lets_m (counts_as t j) (visibility_of t c j)

-- mode n where the choice is optional or not visible; m, with modules, and y as far as its visibility lets it
abbrev pub allows_mode : Counts → Bool → Bool → ℕ → ℕ → Bool
allows_mode kind on optional vis mode = if mode == 0 then (vis == 0) || optional
    else (if mode == 1 then on && lets_m kind vis else ((mode == 2) && lets_y kind on vis))

-- what a choice counts as
abbrev pub choice_counts : Shape → ℕ → Counts
choice_counts t i = counts_alone (choice_at t i).kind

-- a choice allows its mode
abbrev pub has_allowed_mode : Shape → Configuration → ℕ → Bool
has_allowed_mode t c i = allows_mode (choice_counts t i) (has_modules t c) (choice_at t i).optional (choice_visibility_of t c i) (c.mode i)

-- a member is n; or y, in mode y and where it can be; or m, in mode m and where it can be
abbrev pub KeepsMode : Shape → Configuration → ℕ → ℕ → Type 0
KeepsMode t c mode j = (c.value j ≡ 0) ⊎ (((c.value j ≡ 2) × (mode ≡ 2) × (can_be_y t c j ≡ true)) ⊎ ((c.value j ≡ 1) × (mode ≡ 1) × (can_be_m t c j ≡ true)))

-- a choice keeps its rules: its mode is allowed, its members keep to it, and in mode y, where some member can be
-- y, exactly one is
pub record IsRightChoice (t : Shape) (c : Configuration) (i : ℕ) : Type 0 where
  pub mode : has_allowed_mode t c i ≡ true
  pub members : All (KeepsMode t c (c.mode i)) (choice_at t i).members
  pub one : c.mode i ≡ 2 → list_any (can_be_y t c) (choice_at t i).members ≡ true → length (filter (is_y c) (choice_at t i).members) ≡ 1

-- ---- configurations

-- each value is n, m or y, some user setting gives the symbols their values, and the choices keep their rules; what
-- undeclared names are read as is left open here
pub record KeepsRules (t : Shape) (c : Configuration) : Type 0 where
  pub values : (k : ℕ) → k < length t.symbols → c.value k ≤ 2
  pub setting : ℕ → Option ℕ
  pub calculated : IsSettingOf t c setting
  pub choices : (i : ℕ) → i < length t.choices → IsRightChoice t c i

-- a valid configuration keeps the rules, and each undeclared name is n
pub record IsValid (t : Shape) (c : Configuration) : Type 0 where
  pub rules : KeepsRules t c
  pub undeclared_are_n : (name : Bytes) → c.undeclared name ≡ false
