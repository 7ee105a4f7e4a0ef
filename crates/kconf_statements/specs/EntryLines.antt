-- What lines say: the entries, with the attributes of each one. The conditions here are those of the lines themselves.
-- Rule: Linux kconfig-language, "Menu entries" and "Menu attributes".
use Rattle.std.specs.Prelude.{ℕ, Bool, true, false, ◌++◌, ◌||◌, option_to_list, Option, List, [], ◌∷◌}
use Rattle.kconf_entries.specs.declared.entries.Kind.{Kind}
use Rattle.kconf_entries.specs.declared.entries.Kind.TheVariants as kind
use Rattle.kconf_entries.specs.declared.entries.DefaultOf.{DefaultOf}
use Rattle.kconf_entries.specs.declared.entries.SelectOf.{SelectOf}
use Rattle.kconf_entries.specs.declared.expr.Expr.{Expr}
use Rattle.ut_text.specs.Bytes.{Bytes}
use Rattle.kconf_statements.specs.declared.lines.Opens.{Opens}
use Rattle.kconf_statements.specs.declared.lines.ConfigLine.{ConfigLine}
use Rattle.kconf_statements.specs.declared.lines.ConfigLine.TheVariants as config
use Rattle.kconf_statements.specs.declared.lines.ChoiceLine.{ChoiceLine}
use Rattle.kconf_statements.specs.declared.lines.ChoiceLine.TheVariants as choice
use Rattle.kconf_statements.specs.declared.lines.MenuLine.{MenuLine}
use Rattle.kconf_statements.specs.declared.lines.MenuLine.TheVariants as menu

-- what the lines of a config say; the types are those of its type lines, in order
pub record ConfigLines : Type 0 where
  pub name : Bytes
  pub types : List Kind
  pub depends : List Expr
  pub prompts : List Expr
  pub defaults : List DefaultOf
  pub selects : List SelectOf
  pub implies : List SelectOf
  pub modules : Bool

-- what the lines of a choice say
pub record ChoiceLines : Type 0 where
  pub name : Option Bytes
  pub kind : Kind
  pub optional : Bool
  pub depends : List Expr
  pub prompts : List Expr
  pub defaults : List SelectOf

-- what the lines of a menu say
pub record MenuLines : Type 0 where
  pub depends : List Expr
  pub visible : List Expr

-- a config without attributes
abbrev pub new_config : Bytes → ConfigLines
new_config name = record { name = name; types = []; depends = []; prompts = []; defaults = []; selects = []; implies = []; modules = false }

-- a choice without attributes
abbrev pub new_choice : Option Bytes → ChoiceLines
new_choice name = record { name = name; kind = kind.Untyped; optional = false; depends = []; prompts = []; defaults = [] }

-- a menu without attributes
abbrev pub new_menu : MenuLines
new_menu = record { depends = []; visible = [] }

-- the first type counts
abbrev pub first_type : Kind → Kind → Kind
first_type kind.Untyped k = k
first_type kind.Bool k = kind.Bool
first_type kind.Tristate k = kind.Tristate
first_type kind.Str k = kind.Str
first_type kind.Hex k = kind.Hex
first_type kind.Int k = kind.Int

-- the first of these types
abbrev pub type_of_lines : List Kind → Kind
type_of_lines [] = kind.Untyped
type_of_lines (k ∷ ks) = first_type k (type_of_lines ks)

-- a config with one more attribute; `range`, `help` and every `option` but `option modules` are without effect
abbrev pub config_with : ConfigLines → ConfigLine → ConfigLines
config_with c (config.Typed k prompt) = record c { types = c.types ++ k ∷ []; prompts = c.prompts ++ option_to_list prompt }
config_with c (config.TypedDefault k d) = record c { types = c.types ++ k ∷ []; defaults = c.defaults ++ d ∷ [] }
config_with c (config.Prompt e) = record c { prompts = c.prompts ++ e ∷ [] }
config_with c (config.Default d) = record c { defaults = c.defaults ++ d ∷ [] }
config_with c (config.DependsOn e) = record c { depends = c.depends ++ e ∷ [] }
config_with c (config.Select s) = record c { selects = c.selects ++ s ∷ [] }
config_with c (config.Imply s) = record c { implies = c.implies ++ s ∷ [] }
config_with c config.Range = c
config_with c config.Modules = record c { modules = true }
config_with c (config.AnyOption is_modules) = record c { modules = c.modules || is_modules }
config_with c config.Help = c

-- a choice with one more attribute
abbrev pub choice_with : ChoiceLines → ChoiceLine → ChoiceLines
choice_with c (choice.Typed k prompt) = record c { kind = first_type c.kind k; prompts = c.prompts ++ option_to_list prompt }
choice_with c (choice.Prompt e) = record c { prompts = c.prompts ++ e ∷ [] }
choice_with c (choice.Default s) = record c { defaults = c.defaults ++ s ∷ [] }
choice_with c (choice.DependsOn e) = record c { depends = c.depends ++ e ∷ [] }
choice_with c choice.Optional = record c { optional = true }
choice_with c choice.Help = c

-- a menu with one more attribute
abbrev pub menu_with : MenuLines → MenuLine → MenuLines
menu_with m (menu.DependsOn e) = record m { depends = m.depends ++ e ∷ [] }
menu_with m (menu.VisibleIf e) = record m { visible = m.visible ++ e ∷ [] }

-- what lines say one after another, each attribute in its entry; after the lines of a sourced text stands `Sourced`
pub data Entry : Type 0 where
  MainMenu : Entry
  Comment : Entry
  Menu : MenuLines → Entry
  Config : ConfigLines → Entry
  Choice : ChoiceLines → Entry
  If : Expr → Entry
  End : Opens → Entry
  Source : Bytes → Entry
  Sourced : Entry

-- an entry, at the line of its first words
pub data Placed : Type 0 where
  At : ℕ → Entry → Placed

-- the entries before a line, the last one first
abbrev pub Before : Type 0
Before = List Placed
