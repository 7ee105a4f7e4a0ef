-- The entries of what lines say: each condition joined with those of the lines that enclose it. Rule: Linux
-- kconfig-language, "Menu dependencies" and "Menu entries"; the type of a choice without one of its own is this project's.
use Rattle.std.specs.Prelude.{ℕ, suc, ◌-◌, Bool, true, false, ◌==◌, ◌&&◌, map, ◌++◌, Option, None, Some, List, [], ◌∷◌, if◌then◌else◌}
use Rattle.ut_text.specs.Text.{text_eq}
use Rattle.kconf_entries.specs.declared.entries.Kind.{Kind}
use Rattle.kconf_entries.specs.declared.entries.Kind.TheVariants as kind
use Rattle.kconf_entries.specs.declared.entries.ConfigEntry.{ConfigEntry}
use Rattle.kconf_entries.specs.declared.entries.ChoiceEntry.{ChoiceEntry}
use Rattle.kconf_entries.specs.declared.entries.DefaultOf.{DefaultOf}
use Rattle.kconf_entries.specs.declared.entries.SelectOf.{SelectOf}
use Rattle.kconf_entries.specs.declared.entries.Entries.{Entries}
use Rattle.kconf_entries.specs.declared.expr.Expr.{Expr}
use Rattle.ut_text.specs.Bytes.{Bytes}
use Rattle.kconf_entries.specs.Joined.{all_of}
use Rattle.kconf_statements.specs.EntryLines.{ConfigLines, ChoiceLines, first_type, type_of_lines, Entry, At, Before}
use Rattle.kconf_statements.specs.Enclosing.{Opener, enclosing, conditions, visible_conditions, in_choice}

-- a full condition begins with the own one, and goes on with those of its place
abbrev pub full : List Expr → Expr → Expr
full place own = all_of (own ∷ place)

-- a default with its full condition
abbrev pub full_default : List Expr → DefaultOf → DefaultOf
full_default place d = record d { cond = full place d.cond }

-- a select, an imply or the default of a choice with its full condition
abbrev pub full_select : List Expr → SelectOf → SelectOf
full_select place s = record s { cond = full place s.cond }

-- a config: the conditions of its place are those of the enclosing lines and its own; `visible if` joins prompts alone, last
abbrev pub config_at : List Expr → List Expr → Option ℕ → ConfigLines → ConfigEntry
config_at place visible choice c = record {
  name = c.name;
  kind = type_of_lines c.types;
  depends = all_of place;
  prompts = map (full (place ++ visible)) c.prompts;
  defaults = map (full_default place) c.defaults;
  selects = map (full_select place) c.selects;
  implies = map (full_select place) c.implies;
  modules = c.modules;
  choice = choice;
}

-- a config among these enclosing lines, in this choice
abbrev pub config_entry : List Opener → Option ℕ → ConfigLines → ConfigEntry
config_entry os choice c = config_at (conditions os ++ c.depends) (visible_conditions os) choice c

-- a choice of this type
abbrev pub choice_at : List Expr → List Expr → Kind → ChoiceLines → ChoiceEntry
choice_at place visible k c = record {
  kind = k;
  optional = c.optional;
  prompts = map (full (place ++ visible)) c.prompts;
  defaults = map (full_select place) c.defaults;
}

-- a choice among these enclosing lines; its own conditions are those of its place too
abbrev pub choice_entry : List Opener → Kind → ChoiceLines → ChoiceEntry
choice_entry os k c = choice_at (conditions os ++ c.depends) (visible_conditions os) k c

-- how many choices stand among these entries
abbrev pub with_choice : Entry → ℕ → ℕ
with_choice Entry.MainMenu n = n
with_choice Entry.Comment n = n
with_choice (Entry.Menu m) n = n
with_choice (Entry.Config c) n = n
with_choice (Entry.Choice c) n = suc n
with_choice (Entry.If e) n = n
with_choice (Entry.End what) n = n
with_choice (Entry.Source file) n = n
with_choice Entry.Sourced n = n

-- how many choices stand among these entries
abbrev pub choice_count : Before → ℕ
choice_count [] = 0
choice_count (At line e ∷ before) = with_choice e (choice_count before)

-- the number of the choice that encloses what follows: as choices do not nest it is the last one
abbrev pub number_of_choice : Before → Option ℕ
number_of_choice before = if in_choice (enclosing before) then Some (choice_count before - 1) else None

-- the configs of these entries, in order
abbrev pub config_of : Before → Entry → List ConfigEntry
config_of before Entry.MainMenu = []
config_of before Entry.Comment = []
config_of before (Entry.Menu m) = []
config_of before (Entry.Config c) = config_entry (enclosing before) (number_of_choice before) c ∷ []
config_of before (Entry.Choice c) = []
config_of before (Entry.If e) = []
config_of before (Entry.End what) = []
config_of before (Entry.Source file) = []
config_of before Entry.Sourced = []

-- the configs of these entries, in order
abbrev pub configs_of : Before → List ConfigEntry
configs_of [] = []
configs_of (At line e ∷ before) = configs_of before ++ config_of before e

-- a type line of a config, in the choice that encloses it
pub record TypeLine : Type 0 where
  pub name : Bytes
  pub kind : Kind
  pub choice : Option ℕ

-- a type line of this config
abbrev pub type_line : Bytes → Option ℕ → Kind → TypeLine
type_line name choice k = record { name = name; kind = k; choice = choice }

-- the type lines of an entry, in order
abbrev pub types_in : Before → Entry → List TypeLine
types_in before Entry.MainMenu = []
types_in before Entry.Comment = []
types_in before (Entry.Menu m) = []
types_in before (Entry.Config c) = map (type_line c.name (number_of_choice before)) c.types
types_in before (Entry.Choice c) = []
types_in before (Entry.If e) = []
types_in before (Entry.End what) = []
types_in before (Entry.Source file) = []
types_in before Entry.Sourced = []

-- the type lines of the configs of these entries, in order
abbrev pub types_of : Before → List TypeLine
types_of [] = []
types_of (At line e ∷ before) = types_of before ++ types_in before e

-- the type of a symbol by these type lines: the first
abbrev pub type_of : List TypeLine → Bytes → Kind
type_of [] name = kind.Untyped
type_of (t ∷ ts) name = if text_eq t.name name then first_type t.kind (type_of ts name) else type_of ts name

-- a type that a member of a choice may have, and one that it gives to the choice
abbrev pub may_be_member : Kind → Bool
may_be_member kind.Bool = true
may_be_member kind.Tristate = true
may_be_member kind.Str = false
may_be_member kind.Hex = false
may_be_member kind.Int = false
may_be_member kind.Untyped = true

-- a type that a config gives to its choice
abbrev pub is_logical : Kind → Bool
is_logical kind.Bool = true
is_logical kind.Tristate = true
is_logical kind.Str = false
is_logical kind.Hex = false
is_logical kind.Int = false
is_logical kind.Untyped = false

-- whether this is the number of the choice
abbrev pub is_number : ℕ → Option ℕ → Bool
is_number n None = false
is_number n (Some m) = n == m

-- whether a type line gives choice n its type: it stands there, is bool or tristate, and its symbol has no other type by
-- an earlier line
abbrev pub gives_type : ℕ → List TypeLine → TypeLine → Bool
gives_type n earlier t = is_number n t.choice && (is_logical t.kind && may_be_member (type_of earlier t.name))

-- the type that type lines give to choice n: that of the first that gives one
abbrev pub given_type : ℕ → List TypeLine → List TypeLine → Kind
given_type n earlier [] = kind.Untyped
given_type n earlier (t ∷ ts) = if gives_type n earlier t then t.kind else given_type n (earlier ++ t ∷ []) ts

-- the choices of these entries, in order
abbrev pub choice_of : List TypeLine → Before → Entry → List ChoiceEntry
choice_of types before Entry.MainMenu = []
choice_of types before Entry.Comment = []
choice_of types before (Entry.Menu m) = []
choice_of types before (Entry.Config c) = []
choice_of types before (Entry.Choice c) = choice_entry (enclosing before) (first_type c.kind (given_type (choice_count before) [] types)) c ∷ []
choice_of types before (Entry.If e) = []
choice_of types before (Entry.End what) = []
choice_of types before (Entry.Source file) = []
choice_of types before Entry.Sourced = []

-- the choices of these entries, in order
abbrev pub choices_of : List TypeLine → Before → List ChoiceEntry
choices_of types [] = []
choices_of types (At line e ∷ before) = choices_of types before ++ choice_of types before e

-- the configs and choices of all lines
abbrev pub entries_of : Before → Entries
entries_of before = record { configs = configs_of before; choices = choices_of (types_of before) before }
