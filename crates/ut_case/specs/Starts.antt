-- The state of a macro at the start of a source: `CONFIG_N` by the configuration, every other macro free.
-- Rule: Linux kconfig-language gives the symbols' values, kbuild the macros `CONFIG_N` and `CONFIG_N_MODULE`; when the
-- macro of a string, hex or int symbol is defined, and free states, are this project's rule.
use Rattle.std.specs.Prelude.{ℕ, ◌==◌, Bool, false, ◌||◌, Option, None, Some, if◌then◌else◌, is_some}
use Rattle.ut_text.specs.Bytes.{Bytes}
use Rattle.ut_logic.specs.declared.item.Item.TheVariants as item
use Rattle.kconf_tree.specs.Shape.{Shape, number_of}
use Rattle.kconf_tree.specs.Value.{Configuration, own_value}
use Rattle.kconf_tree.specs.Properties.{is_written}
use Rattle.kconf_constr.specs.Scope.{number_among}
use Rattle.cpp_blocks.specs.declared.state.MacroState.{MacroState}
use Rattle.cpp_blocks.specs.declared.state.MacroState.TheVariants.{Undefined, DefinedFalse, DefinedTrue}
use Rattle.cpp_blocks.specs.Solution.{state_of}
use Rattle.ut_case.specs.declared.question.Family.{Family}
use Rattle.ut_case.specs.declared.question.Family.TheVariants as family
use Rattle.ut_case.specs.Names.{config_name, module_of}
use Rattle.ut_case.specs.Problem.{Basis, OfTree, OfRules}
use Rattle.ut_case.specs.Cases.{Case}

-- a declared symbol has this value
abbrev pub has_value : Shape → Configuration → ℕ → Option ℕ → Bool
has_value t c x None = false
has_value t c x (Some k) = own_value t c k == x

-- a declared string, hex or int symbol is written
abbrev pub is_written_one : Shape → Configuration → Option ℕ → Bool
is_written_one t c None = false
is_written_one t c (Some k) = is_written t c k

-- defined, and true where this says so
abbrev pub defined_as : Bool → MacroState
defined_as truth = if truth then DefinedTrue else DefinedFalse

-- defined and true where this says so, else undefined
abbrev pub present_if : Bool → MacroState
present_if truth = if truth then DefinedTrue else Undefined

-- `CONFIG_N`, where n is the number of N, and m that of P for N = `P_MODULE`: defined and true where N is y or P is m;
-- else defined with a free truth where N is written; else, where N or P is declared, undefined; else as the name is read
abbrev pub start_by : Shape → Configuration → Bool → Bytes → Option ℕ → Option ℕ → MacroState
start_by t c truth name n m = if has_value t c 2 n || has_value t c 1 m then DefinedTrue
    else (if is_written_one t c n then defined_as truth
    else (if is_some n || is_some m then Undefined
    else present_if (c.undeclared name)))

-- over a model text: by the name with this number; where it has none, as the undeclared name is read
abbrev pub rule_start : Configuration → Bytes → Option ℕ → MacroState
rule_start c name None = present_if (c.undeclared name)
rule_start c name (Some k) = present_if (c.value k == 2)

-- the state of `CONFIG_N` under a configuration
abbrev pub config_start : Basis → Configuration → Bool → Bytes → Bytes → MacroState
config_start (OfTree t) c truth macro name = start_by t c truth name (number_of t name) (module_of t name)
config_start (OfRules r) c truth macro name = rule_start c name (number_among r.names macro)

-- the state that the environment chooses for the macro with this number
abbrev pub free_start : Case → ℕ → ℕ → MacroState
free_start x file n = state_of (x.environment (item.StartD file n)) (x.environment (item.StartT file n))

-- by the N of the macro, if it has one
abbrev pub named_start : Basis → Case → ℕ → ℕ → Bytes → Option Bytes → MacroState
named_start b x file n macro None = free_start x file n
named_start b x file n macro (Some name) = config_start b x.configuration (x.environment (item.Truth file n)) macro name

-- the state at the start of a macro with its number in a source; family Code leaves every macro free
abbrev pub macro_start : Basis → Family → Case → ℕ → ℕ → Bytes → MacroState
macro_start b family.Code x file n macro = free_start x file n
macro_start b family.Kconfig x file n macro = named_start b x file n macro (config_name macro)
macro_start b family.Whole x file n macro = named_start b x file n macro (config_name macro)

-- a macro that the source doesn't name is undefined; a run never looks at it
abbrev pub numbered_start : Basis → Family → Case → ℕ → Bytes → Option ℕ → MacroState
numbered_start b f x file macro None = Undefined
numbered_start b f x file macro (Some n) = macro_start b f x file n macro
