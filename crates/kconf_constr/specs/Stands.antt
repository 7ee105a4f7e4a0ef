-- What truths of items and a configuration say of each other.
-- This project's rule.
use Rattle.std.specs.Prelude.{ℕ, ◌==◌, Bool, true, false, not, ◌&&◌, [], Option, None, Some, slice_index_or, if◌then◌else◌}
use Rattle.ut_logic.specs.declared.item.Item.{Item}
use Rattle.ut_logic.specs.declared.item.Item.TheVariants.{SymY, SymM, Undeclared, ModeY, ModeM, Outer}
use Rattle.kconf_tree.specs.declared.shape.Counts.{Counts}
use Rattle.kconf_tree.specs.declared.shape.Counts.TheVariants as counts
use Rattle.kconf_tree.specs.Shape.{Shape, counts_as}
use Rattle.kconf_tree.specs.Value.{Configuration}
use Rattle.kconf_tree.specs.Valid.{choice_counts}
use Rattle.kconf_constr.specs.Scope.{Scope, number_among}

-- ---- truths that a configuration gives

-- the truth of each item of symbols, choices, undeclared names and outer conditions; every other item is false
abbrev pub truths_of : Scope → Configuration → Item → Bool
truths_of s c (SymY k) = c.value k == 2
truths_of s c (SymM k) = c.value k == 1
truths_of s c (Undeclared k) = c.undeclared (slice_index_or s.undeclared k [])
truths_of s c (ModeY i) = c.mode i == 2
truths_of s c (ModeM i) = c.mode i == 1
truths_of s c (Outer k) = c.outer k
truths_of s c i = false

-- ---- the configuration that is read off truths. A pair of items that are both true reads as y.

-- the value of a symbol that counts as this; one of another type has n
abbrev pub value_as : Counts → (Item → Bool) → ℕ → ℕ
value_as counts.Bool v k = if v (SymY k) then 2 else 0
value_as counts.Tristate v k = if v (SymY k) then 2 else (if v (SymM k) then 1 else 0)
value_as counts.Neither v k = 0

-- the mode of a choice that counts as this
abbrev pub mode_as : Counts → (Item → Bool) → ℕ → ℕ
mode_as counts.Bool v i = if v (ModeY i) then 2 else 0
mode_as counts.Tristate v i = if v (ModeY i) then 2 else (if v (ModeM i) then 1 else 0)
mode_as counts.Neither v i = if v (ModeY i) then 2 else 0

-- whether the undeclared name with this number is y; one without a number is n
abbrev pub undeclared_truth : (Item → Bool) → Option ℕ → Bool
undeclared_truth v None = false
undeclared_truth v (Some k) = v (Undeclared k)

-- the whole configuration
abbrev pub read_off : Scope → (Item → Bool) → Configuration
read_off s v = record {
  value = λ k. value_as (counts_as s.shape k) v k;
  mode = λ i. mode_as (choice_counts s.shape i) v i;
  outer = λ k. v (Outer k);
  undeclared = λ name. undeclared_truth v (number_among s.undeclared name);
}

-- ---- one value

-- a symbol that counts as tristate has two items, of which at most one is true
abbrev pub has_one_as : Counts → (Item → Bool) → ℕ → Bool
has_one_as counts.Bool v k = true
has_one_as counts.Tristate v k = not (v (SymY k) && v (SymM k))
has_one_as counts.Neither v k = true

-- a symbol has one value
abbrev pub has_one_value : Shape → (Item → Bool) → ℕ → Bool
has_one_value t v k = has_one_as (counts_as t k) v k

-- likewise the mode of a choice that counts as this
abbrev pub has_one_mode_as : Counts → (Item → Bool) → ℕ → Bool
has_one_mode_as counts.Bool v i = true
has_one_mode_as counts.Tristate v i = not (v (ModeY i) && v (ModeM i))
has_one_mode_as counts.Neither v i = true

-- a choice has one mode
abbrev pub has_one_mode : Shape → (Item → Bool) → ℕ → Bool
has_one_mode t v i = has_one_mode_as (choice_counts t i) v i
