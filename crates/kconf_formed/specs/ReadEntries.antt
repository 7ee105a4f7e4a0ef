-- What holds of the entries of every tree that is read: lists are flat, no expression is nested deeply, names are names,
-- and choices have types that a choice may have. This project's words.
use Rattle.std.specs.Prelude.{◌≡◌, ◌≤◌, ℕ, true, All}
use Rattle.kconf_entries.specs.declared.expr.Expr.{Expr}
use Rattle.kconf_entries.specs.declared.entries.DefaultOf.{DefaultOf}
use Rattle.kconf_entries.specs.declared.entries.SelectOf.{SelectOf}
use Rattle.kconf_entries.specs.declared.entries.ConfigEntry.{ConfigEntry}
use Rattle.kconf_entries.specs.declared.entries.ChoiceEntry.{ChoiceEntry}
use Rattle.kconf_entries.specs.declared.entries.Entries.{Entries}
use Rattle.kconf_statements.specs.Entries.{may_be_member}
use Rattle.kconf_formed.specs.Flat.{is_flat}
use Rattle.kconf_formed.specs.Nesting.{nesting}
use Rattle.kconf_formed.specs.Names.{has_names}
use Rattle.kconf_words.specs.Kinds.{is_name_text}

-- negations and lists that may stand one inside another
abbrev pub most_nested : ℕ
most_nested = 512

-- an expression
pub record IsFormed (e : Expr) : Type 0 where
  pub flat : is_flat e ≡ true
  pub nested : nesting e ≤ most_nested
  pub names : has_names e ≡ true

-- a default, its value and its condition
pub record IsFormedDefault (d : DefaultOf) : Type 0 where
  pub value : IsFormed d.value
  pub cond : IsFormed d.cond

-- a select, an imply or the default of a choice
pub record IsFormedSelect (s : SelectOf) : Type 0 where
  pub target : is_name_text s.target ≡ true
  pub cond : IsFormed s.cond

-- a config with all that it has
pub record IsFormedConfig (c : ConfigEntry) : Type 0 where
  pub name : is_name_text c.name ≡ true
  pub depends : IsFormed c.depends
  pub prompts : All IsFormed c.prompts
  pub defaults : All IsFormedDefault c.defaults
  pub selects : All IsFormedSelect c.selects
  pub implies : All IsFormedSelect c.implies

-- a choice with all that it has: its type is bool or tristate, or it has none
pub record IsFormedChoice (c : ChoiceEntry) : Type 0 where
  pub kind : may_be_member c.kind ≡ true
  pub prompts : All IsFormed c.prompts
  pub defaults : All IsFormedSelect c.defaults

-- all configs and choices
pub record AreFormedEntries (e : Entries) : Type 0 where
  pub configs : All IsFormedConfig e.configs
  pub choices : All IsFormedChoice e.choices
