-- Which symbols of the Kconfig texts a macro of C stands for.
-- Rule: Linux kbuild defines `CONFIG_N` where N is y and `CONFIG_N_MODULE` where N is m; a model text has the names of
-- macros themselves, as the tools of the EuroSys 2011 paper on Undertaker write it.
use Rattle.std.specs.Prelude.{ℕ, ◌-◌, Bool, ◌||◌, Option, None, Some, if◌then◌else◌, take, drop, length, nat_eq, codes, is_some}
use Rattle.std.specs.List.{starts_with, ends_with}
use Rattle.std.specs.Option.{option_and_then}
use Rattle.ut_text.specs.Bytes.{Bytes}
use Rattle.kconf_tree.specs.Shape.{Shape, number_of}
use Rattle.kconf_constr.specs.Scope.{number_among}
use Rattle.ut_case.specs.Problem.{Basis, OfTree, OfRules}

-- the N of a macro `CONFIG_N`
abbrev pub config_name : Bytes → Option Bytes
config_name macro = if starts_with nat_eq macro (codes "CONFIG_") then Some (drop 7 macro) else None

-- the P of a name `P_MODULE`
abbrev pub module_name : Bytes → Option Bytes
module_name name = if ends_with nat_eq name (codes "_MODULE") then Some (take (length name - 7) name) else None

-- the declared symbol P for a name `P_MODULE`
abbrev pub module_of : Shape → Bytes → Option ℕ
module_of t name = option_and_then (number_of t) (module_name name)

-- whether the macro `CONFIG_N` is declared: N is, or P for N = `P_MODULE`; over a model text, the macro's own name is
abbrev pub is_declared : Basis → Bytes → Bytes → Bool
is_declared (OfTree t) macro name = is_some (number_of t name) || is_some (module_of t name)
is_declared (OfRules r) macro name = is_some (number_among r.names macro)
