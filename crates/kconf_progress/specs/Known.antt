-- What is known of a symbol: its type, and the first choice that it stands in.
use Rattle.std.specs.Prelude.{ℕ, Bool, Option, None, Some, unwrap_or, List, [], ◌∷◌, if◌then◌else◌}
use Rattle.std.specs.Map.{lookup}
use Rattle.ut_text.specs.Bytes.{Bytes}
use Rattle.ut_text.specs.Text.{text_eq}
use Rattle.kconf_entries.specs.declared.entries.Kind.TheVariants as kind
use Rattle.kconf_entries.specs.declared.entries.ConfigEntry.{ConfigEntry}
use Rattle.kconf_statements.specs.EntryLines.{Before}
use Rattle.kconf_statements.specs.Entries.{configs_of, types_of, type_of}
use Rattle.kconf_statements.specs.Standing as standing
use Rattle.kconf_progress.specs.declared.kinds.Known.{Known}

-- whether a symbol stands in another choice than this
abbrev pub is_elsewhere : ℕ → Option ℕ → Bool
is_elsewhere n choice = standing.is_elsewhere n choice

-- the first choice counts
abbrev pub first_choice : Option ℕ → Option ℕ → Option ℕ
first_choice None choice = choice
first_choice (Some n) choice = Some n

-- the first choice that a symbol stands in by these configs
abbrev pub choice_by : List ConfigEntry → Bytes → Option ℕ
choice_by [] name = None
choice_by (c ∷ cs) name = if text_eq c.name name then first_choice c.choice (choice_by cs name) else choice_by cs name

-- what is known of a symbol by these lines
abbrev pub known_by : Before → Bytes → Known
known_by before name = record { kind = type_of (types_of before) name; choice = choice_by (configs_of before) name }

-- what a look-up finds; at first no type and no choice
abbrev pub unknown : Known
unknown = record { kind = kind.Untyped; choice = None }

abbrev pub known_of : List (Bytes × Known) → Bytes → Known
known_of symbols name = unwrap_or (lookup (text_eq name) symbols) unknown
