-- The entry that is being read, as it is kept.
use Rattle.std.specs.Prelude.{ℕ, true, false, ◌||◌, map, option_to_list, Option, None, Some, List, [], ◌∷◌, ◌++◌}
use Rattle.ut_text.specs.Bytes.{Bytes}
use Rattle.kconf_entries.specs.declared.entries.Kind.{Kind}
use Rattle.kconf_entries.specs.declared.entries.Kind.TheVariants as kind
use Rattle.kconf_entries.specs.declared.entries.ConfigEntry.{ConfigEntry}
use Rattle.kconf_entries.specs.declared.entries.ChoiceEntry.{ChoiceEntry}
use Rattle.kconf_entries.specs.declared.expr.Expr.{Expr}
use Rattle.kconf_entries.specs.Joined.{all_of}
use Rattle.kconf_statements.specs.declared.lines.Owner.{Owner}
use Rattle.kconf_statements.specs.declared.lines.Owner.TheVariants as owner
use Rattle.kconf_statements.specs.declared.lines.ConfigLine.{ConfigLine}
use Rattle.kconf_statements.specs.declared.lines.ConfigLine.TheVariants as config
use Rattle.kconf_statements.specs.declared.lines.ChoiceLine.{ChoiceLine}
use Rattle.kconf_statements.specs.declared.lines.ChoiceLine.TheVariants as choice
use Rattle.kconf_statements.specs.EntryLines.{first_type}
use Rattle.kconf_statements.specs.Entries.{full, full_default, full_select}
use Rattle.kconf_progress.specs.declared.open_entries.ConfigLines.{ConfigLines}
use Rattle.kconf_progress.specs.declared.open_entries.ChoiceLines.{ChoiceLines}
use Rattle.kconf_progress.specs.declared.open_entries.OpenEntry.{OpenEntry}
use Rattle.kconf_progress.specs.declared.open_entries.OpenEntry.TheVariants as entry
use Rattle.kconf_progress.specs.declared.openers.OpenLine.{OpenLine}
use Rattle.kconf_progress.specs.Openers.{inherited, inherited_visible}

-- before the first attribute
abbrev pub new_config : Bytes → ConfigLines
new_config name = record { name = name; kind = kind.Untyped; depends = []; prompts = []; defaults = []; selects = []; implies = []; modules = false }

abbrev pub new_choice : ChoiceLines
new_choice = record { kind = kind.Untyped; optional = false; prompts = []; defaults = [] }

-- which entry the attributes belong to
abbrev pub owner_of : OpenEntry → Owner
owner_of entry.Nothing = owner.Nothing
owner_of (entry.Config c) = owner.Config
owner_of (entry.Choice c) = owner.Choice
owner_of entry.Menu = owner.Menu
owner_of entry.Comment = owner.Comment

-- the type that a line of a config is for
abbrev pub type_in : ConfigLine → Option Kind
type_in (config.Typed k prompt) = Some k
type_in (config.TypedDefault k d) = Some k
type_in (config.Prompt e) = None
type_in (config.Default d) = None
type_in (config.DependsOn e) = None
type_in (config.Select s) = None
type_in (config.Imply s) = None
type_in config.Range = None
type_in config.Modules = None
type_in (config.AnyOption is_modules) = None
type_in config.Help = None

-- with the prompt of a type line
abbrev pub with_prompt : ConfigLines → Option Expr → ConfigLines
with_prompt c prompt = record c { prompts = c.prompts ++ option_to_list prompt }

abbrev pub with_choice_prompt : ChoiceLines → Option Expr → ChoiceLines
with_choice_prompt c prompt = record c { prompts = c.prompts ++ option_to_list prompt }

-- a config with one more attribute
abbrev pub config_with : ConfigLines → ConfigLine → ConfigLines
config_with c (config.Typed k prompt) = record c { kind = first_type c.kind k; prompts = c.prompts ++ option_to_list prompt }
config_with c (config.TypedDefault k d) = record c { kind = first_type c.kind k; defaults = c.defaults ++ d ∷ [] }
config_with c (config.Prompt e) = record c { prompts = c.prompts ++ e ∷ [] }
config_with c (config.Default d) = record c { defaults = c.defaults ++ d ∷ [] }
config_with c (config.DependsOn e) = record c { depends = c.depends ++ e ∷ [] }
config_with c (config.Select s) = record c { selects = c.selects ++ s ∷ [] }
config_with c (config.Imply s) = record c { implies = c.implies ++ s ∷ [] }
config_with c config.Range = c
config_with c config.Modules = record c { modules = true }
config_with c (config.AnyOption is_modules) = record c { modules = c.modules || is_modules }
config_with c config.Help = c

-- a choice with one more attribute, and the condition that belongs to its opener
abbrev pub choice_with : ChoiceLines → ChoiceLine → ChoiceLines × Option Expr
choice_with c (choice.Typed k prompt) = (record c { kind = first_type c.kind k; prompts = c.prompts ++ option_to_list prompt }, None)
choice_with c (choice.Prompt e) = (record c { prompts = c.prompts ++ e ∷ [] }, None)
choice_with c (choice.Default s) = (record c { defaults = c.defaults ++ s ∷ [] }, None)
choice_with c (choice.DependsOn e) = (c, Some e)
choice_with c choice.Optional = (record c { optional = true }, None)
choice_with c choice.Help = (c, None)

-- the entry of a config whose place has these conditions, and these of `visible if` lines
abbrev pub config_at : List Expr → List Expr → Option ℕ → ConfigLines → ConfigEntry
config_at place visible number c = record {
  name = c.name;
  kind = c.kind;
  depends = all_of place;
  prompts = map (full (place ++ visible)) c.prompts;
  defaults = map (full_default place) c.defaults;
  selects = map (full_select place) c.selects;
  implies = map (full_select place) c.implies;
  modules = c.modules;
  choice = number;
}

abbrev pub config_entry : List OpenLine → Option ℕ → ConfigLines → ConfigEntry
config_entry openers number c = config_at (inherited openers ++ c.depends) (inherited_visible openers) number c

-- the entry of a choice, whose opener is the innermost
abbrev pub choice_at : List Expr → List Expr → ChoiceLines → ChoiceEntry
choice_at place visible c = record {
  kind = c.kind;
  optional = c.optional;
  prompts = map (full (place ++ visible)) c.prompts;
  defaults = map (full_select place) c.defaults;
}

abbrev pub choice_entry : List OpenLine → ChoiceLines → ChoiceEntry
choice_entry openers c = choice_at (inherited openers) (inherited_visible openers) c
