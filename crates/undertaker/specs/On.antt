-- When a block is on: the state that each macro has at the start under a configuration and an
-- environment, and the run from there.
-- Rule: Linux kconfig-language gives the symbols' values, kbuild the macros `CONFIG_N` and
-- `CONFIG_N_MODULE`; the free states of all other macros are this project's rule.
use Rattle.std.specs.Prelude.{ℕ, ◌==◌, ◌-◌, Bool, true, false, ◌||◌, List, Option, None, Some, if◌then◌else◌, take, drop, length, nat_eq, codes, is_some}
use Rattle.std.specs.List.{starts_with, ends_with}
use Rattle.std.specs.Option.{option_and_then}
use Rattle.ut_text.specs.Bytes.{Bytes}
use Rattle.cpp_directives.specs.declared.directive.Directive.{Directive}
use Rattle.kconf_tree.specs.Shape.{Shape, number_of}
use Rattle.kconf_tree.specs.Value.{Configuration, own_value}
use Rattle.kconf_tree.specs.Properties.{is_written}
use Rattle.cpp_blocks.specs.declared.state.MacroState.{MacroState}
use Rattle.cpp_blocks.specs.declared.state.MacroState.TheVariants.{Undefined, DefinedFalse, DefinedTrue}
use Rattle.cpp_blocks.specs.Run.{Start, is_on_in}
use Rattle.ut_case.specs.declared.question.Family.{Family}
use Rattle.ut_case.specs.declared.question.Family.TheVariants as family

-- what a source meets outside the configuration: the state of each macro that starts free, the truth of
-- the macro of each written string, hex or int symbol, and the truths of opaque pieces and `#define` lines
pub record Environment : Type 0 where
  pub start : Bytes → MacroState
  pub truth : Bytes → Bool
  pub piece : Bytes → ℕ → Bool
  pub line : ℕ → Bool

-- a configuration and an environment
pub record Case : Type 0 where
  pub configuration : Configuration
  pub environment : Environment

-- the N of a macro `CONFIG_N`
abbrev pub config_name : Bytes → Option Bytes
config_name macro = if starts_with nat_eq macro (codes "CONFIG_") then Some (drop 7 macro) else None

-- the P of a name `P_MODULE`
abbrev pub module_name : Bytes → Option Bytes
module_name name = if ends_with nat_eq name (codes "_MODULE") then Some (take (length name - 7) name) else None

-- the declared symbol P for a name `P_MODULE`
abbrev pub module_of : Shape → Bytes → Option ℕ
module_of t name = option_and_then (number_of t) (module_name name)

-- a declared symbol that has this value
abbrev pub has_value : Shape → Configuration → ℕ → Option ℕ → Bool
has_value t c x None = false
has_value t c x (Some k) = own_value t c k == x

-- a declared symbol that is written
abbrev pub is_written_one : Shape → Configuration → Option ℕ → Bool
is_written_one t c None = false
is_written_one t c (Some k) = is_written t c k

-- defined, with this truth
abbrev pub truth_state : Bool → MacroState
truth_state b = if b then DefinedTrue else DefinedFalse

-- `CONFIG_N` is defined and true where N is y, or where N is `P_MODULE` and P is m; else defined where N
-- is a written string, hex or int symbol; else undefined. An undeclared one is defined where it is read as y.
abbrev pub config_start : Shape → Case → Bytes → Bytes → MacroState
config_start t x macro name = if has_value t x.configuration 2 (number_of t name) || has_value t x.configuration 1 (module_of t name) then DefinedTrue
    else (if is_written_one t x.configuration (number_of t name) then truth_state (x.environment.truth macro)
    else (if is_some (number_of t name) || is_some (module_of t name) then Undefined
    else (if x.configuration.undeclared name then DefinedTrue else Undefined)))

-- every other macro starts free
abbrev pub start_by : Shape → Case → Bytes → Option Bytes → MacroState
start_by t x macro None = x.environment.start macro
start_by t x macro (Some name) = config_start t x macro name

-- the state at the start, where family Code leaves every macro free
abbrev pub macro_start : Family → Shape → Case → Bytes → MacroState
macro_start family.Code t x macro = x.environment.start macro
macro_start f t x macro = start_by t x macro (config_name macro)

-- what the run of a source finds; without Kbuild texts every source is built
abbrev pub start_of : Family → Shape → Case → Start
start_of f t x = record { built = true; macros = macro_start f t x; piece = x.environment.piece; line = x.environment.line }

-- whether a block is on in a case of a family; block 0 is the source itself
abbrev pub is_on : Family → Shape → List Directive → Case → ℕ → Bool
is_on f t ds x block = is_on_in (start_of f t x) ds block
