-- Words of the worked texts: files by their names, and entries by what they say beyond their names.
use Rattle.std.specs.Prelude.{ℕ, zero, suc, ◌++◌, false, codes, bytes_eq, Option, None, Some, option_and_then, Result, Ok, Err, List, [], if◌then◌else◌}
use Rattle.ut_logic.specs.declared.trit.Trit.TheVariants.{Y}
use Rattle.kconf_texts.specs.declared.bad.KconfBad.{KconfBad}
use Rattle.kconf_entries.specs.declared.entries.Kind.TheVariants as kind
use Rattle.kconf_entries.specs.declared.entries.ConfigEntry.{ConfigEntry}
use Rattle.kconf_entries.specs.declared.entries.ChoiceEntry.{ChoiceEntry}
use Rattle.kconf_entries.specs.declared.entries.DefaultOf.{DefaultOf}
use Rattle.kconf_entries.specs.declared.entries.SelectOf.{SelectOf}
use Rattle.kconf_entries.specs.declared.entries.Entries.{Entries}
use Rattle.kconf_entries.specs.declared.entries.Var.{Var}
use Rattle.kconf_entries.specs.declared.expr.Expr.{Expr}
use Rattle.kconf_entries.specs.declared.expr.Expr.TheVariants as expr
use Rattle.ut_text.specs.Bytes.{Bytes}
use Rattle.ut_base.specs.Plans.{Plan, Gives, Refuses, Takes, Asks}
use Rattle.kconf_texts.specs.Texts.{tree_plan}

-- what a plan comes to with these files; none where it takes a file that is not among them
abbrev pub comes_to : {A E : Type 0} → (Bytes → Option Bytes) → Plan A E → Option (Result A E)
comes_to files (Gives x) = Some (Ok x)
comes_to files (Refuses e) = Some (Err e)
comes_to files (Takes name next) = option_and_then (λ bytes. comes_to files (next bytes)) (files name)
comes_to files (Asks name next) = comes_to files (next (files name))

-- a file of this name, or others
abbrev pub file : Bytes → Bytes → (Bytes → Option Bytes) → Bytes → Option Bytes
file name bytes others asked = if bytes_eq name asked then Some bytes else others asked

-- no other file
abbrev pub no_file : Bytes → Option Bytes
no_file asked = None

-- in each file a line sources the one whose name has one `x` more
abbrev pub one_longer : Bytes → Option Bytes
one_longer asked = Some (codes "source \"" ++ (asked ++ codes "x\"\n"))

-- what the text `K` comes to, with these values for macros and these other files
abbrev pub read_with : List Var → (Bytes → Option Bytes) → Bytes → Option (Result Entries KconfBad)
read_with vars others bytes = comes_to (file (codes "K") bytes others) (tree_plan vars (codes "K"))

-- what one text comes to
abbrev pub read : Bytes → Option (Result Entries KconfBad)
read bytes = read_with [] no_file bytes

-- a config without attributes
abbrev pub bare : Bytes → ConfigEntry
bare name = record {
  name = name;
  kind = kind.Untyped;
  depends = expr.Const Y;
  prompts = [];
  defaults = [];
  selects = [];
  implies = [];
  modules = false;
  choice = None;
}

-- these entries
abbrev pub entries : List ConfigEntry → List ChoiceEntry → Option (Result Entries KconfBad)
entries configs choices = Some (Ok (record { configs = configs; choices = choices }))

-- a name as an expression
abbrev pub name : Bytes → Expr
name text = expr.Name text

-- all of these conditions
abbrev pub and : List Expr → Expr
and es = expr.And es

-- a default with its condition
abbrev pub default : Expr → Expr → Option Bytes → DefaultOf
default value cond text = record { value = value; cond = cond; text = text }

-- a name with its condition
abbrev pub target : Bytes → Expr → SelectOf
target name cond = record { target = name; cond = cond }

-- a choice without attributes
abbrev pub choice : ChoiceEntry
choice = record { kind = kind.Untyped; optional = false; prompts = []; defaults = [] }

-- a value for a macro
abbrev pub var : Bytes → Bytes → Var
var name value = record { name = name; value = value }

-- this refusal
abbrev pub refused : KconfBad → Option (Result Entries KconfBad)
refused e = Some (Err e)

-- a text so many times
abbrev pub many : ℕ → Bytes → Bytes
many zero text = []
many (suc n) text = text ++ many n text
