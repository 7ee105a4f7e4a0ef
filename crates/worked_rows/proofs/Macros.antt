-- The macros of the rows, and cases in which one of the macros that start free is defined.
use Rattle.std.proofs.Common.{◌≡◌, ℕ, ◌==◌, Bool, true, false, ◌||◌, cond, refl, List, codes}
use Rattle.ut_logic.specs.declared.item.Item.{Item}
use Rattle.ut_logic.specs.declared.item.Item.TheVariants as item
use Rattle.cpp_blocks.specs.declared.state.MacroState.TheVariants.{Undefined, DefinedTrue}
use Rattle.cpp_blocks.specs.Run.{is_defined}
use Rattle.kconf_tree.specs.Value.{Configuration}
use Rattle.ut_case.specs.Cases.{Case}

-- A's macro
abbrev pub config_a : List ℕ
config_a = codes "CONFIG_A"

-- B's macro
abbrev pub config_b : List ℕ
config_b = codes "CONFIG_B"

-- defined where this holds, and else undefined
pub defined_if : (b : Bool) → is_defined (cond (b || false) DefinedTrue Undefined) ≡ b
defined_if true = refl
defined_if false = refl

-- of the macros that start free the one with this number is defined and true, and no other
abbrev pub starting : ℕ → Item → Bool
starting n (item.StartD file k) = k == n
starting n (item.StartT file k) = k == n
starting n i = false

-- with this configuration
abbrev pub case_with : Configuration → ℕ → Case
case_with c n = record { configuration = c; environment = starting n }
