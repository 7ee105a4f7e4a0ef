-- What the name of a macro means where bool symbols of these names are declared.
use Rattle.std.specs.Prelude.{ℕ, Bool, List, Option, None, Some, if◌then◌else◌, is_some}
use Rattle.std.specs.Option.{option_and_then}
use Rattle.undertaker.specs.On.{config_name, module_name}
use Rattle.undertaker.specs.declared.wishes.Meaning.{Meaning}
use Rattle.undertaker.specs.declared.wishes.Meaning.TheVariants.{Free, Symbol, Module, Undeclared}
use Rattle.undertaker.specs.Names.{number_among}

-- a name `P_MODULE` with P declared
abbrev pub is_module_under : List (List ℕ) → List ℕ → Bool
is_module_under names name = is_some (option_and_then (number_among names) (module_name name))

-- of `CONFIG_N`, from the number of N
abbrev pub config_meaning_by : List (List ℕ) → List ℕ → Option ℕ → Meaning
config_meaning_by names name (Some k) = Symbol k
config_meaning_by names name None = if is_module_under names name then Module else Undeclared

abbrev pub config_meaning_under : List (List ℕ) → List ℕ → Meaning
config_meaning_under names name = config_meaning_by names name (number_among names name)

abbrev pub meaning_by_name : List (List ℕ) → Option (List ℕ) → Meaning
meaning_by_name names None = Free
meaning_by_name names (Some name) = config_meaning_under names name

abbrev pub meaning_under : List (List ℕ) → List ℕ → Meaning
meaning_under names macro = meaning_by_name names (config_name macro)
