-- Names with what their entries declare, as they are gathered, and a tree of types alone.
-- This project's rule.
use Rattle.std.specs.Prelude.{ℕ, false, ◌||◌, List, [], ◌++◌, Option, None, Some, if◌then◌else◌, map, slice_index_or}
use Rattle.std.specs.List.{list_any, flat_map}
use Rattle.ut_text.specs.Bytes.{Bytes}
use Rattle.kconf_entries.specs.declared.entries.Kind.{Kind}
use Rattle.kconf_entries.specs.declared.entries.Kind.TheVariants as kind
use Rattle.kconf_entries.specs.declared.entries.DefaultOf.{DefaultOf}
use Rattle.kconf_entries.specs.declared.entries.ConfigEntry.{ConfigEntry}
use Rattle.kconf_entries.specs.declared.entries.ChoiceEntry.{ChoiceEntry}
use Rattle.kconf_tree.specs.declared.shape.Symbol.{Symbol}
use Rattle.kconf_tree.specs.declared.types.Declared.{Declared}
use Rattle.kconf_tree.specs.Shape.{Shape, no_symbol}
use Rattle.kconf_tree.specs.Gathered.{once, entries_named, first_kind, is_untyped, outers_in, outers_of_config, outers_of_choice}

-- what the entries of one name declare together
abbrev pub declared_by : List ConfigEntry → Declared
declared_by es = record { kind = first_kind es; modules = list_any (λ (e : ConfigEntry). e.modules) es }

-- what the earlier entries, if any, and one more declare
abbrev pub joined_with : Option Declared → ConfigEntry → Declared
joined_with None e = record { kind = e.kind; modules = e.modules }
joined_with (Some d) e = record { kind = if is_untyped d.kind then e.kind else d.kind; modules = d.modules || e.modules }

-- the names in order of first declaration
abbrev pub names_of : List ConfigEntry → List Bytes
names_of es = once (map (λ (e : ConfigEntry). e.name) es)

-- each name with what its entries declare
abbrev pub types_of : List ConfigEntry → List (Bytes × Declared)
types_of es = map (λ name. (name, declared_by (entries_named es name))) (names_of es)

-- a symbol with its type alone
abbrev pub bare_symbol : Bytes → Kind → Symbol
bare_symbol name k = record no_symbol { name = name; kind = k }

-- the symbol of a declared name
abbrev pub typed_symbol : Bytes × Declared → Symbol
typed_symbol p = bare_symbol p.0 p.1.kind

-- a tree with the types alone
abbrev pub typed : List (Bytes × Declared) → Shape
typed ds = record { symbols = map typed_symbol ds; choices = []; outers = []; modules = None }

-- what the symbol with a number is declared as
abbrev pub declared_at : List (Bytes × Declared) → ℕ → Declared
declared_at ds k = (slice_index_or ds k ([], record { kind = kind.Untyped; modules = false })).1

-- the outer conditions in a default
abbrev pub outers_of_default : Shape → DefaultOf → List Bytes
outers_of_default t d = outers_in t d.value ++ outers_in t d.cond

-- the outer conditions of entries, where `t` has the types of names
abbrev pub outers_with : Shape → List ConfigEntry → List ChoiceEntry → List Bytes
outers_with t configs choices = once (flat_map (outers_of_config t) configs ++ flat_map (outers_of_choice t) choices)
