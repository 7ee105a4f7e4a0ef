-- How symbols and choices are gathered, one entry after another. No public contract cites this module.
use Rattle.std.specs.Prelude.{ℕ, List, [], ◌∷◌, ◌++◌, Option, None, Some, slice_index_or, slice_set, map}
use Rattle.std.specs.Option.{option_or}
use Rattle.ut_text.specs.Bytes.{Bytes}
use Rattle.kconf_entries.specs.declared.entries.Kind.{Kind}
use Rattle.kconf_entries.specs.declared.entries.ConfigEntry.{ConfigEntry}
use Rattle.kconf_tree.specs.declared.shape.Symbol.{Symbol}
use Rattle.kconf_tree.specs.Shape.{no_symbol}
use Rattle.kconf_tree.specs.Gathered.{entries_named, first_kind, first_choice, member_choice, symbol_of}
use Rattle.kconf_tree.specs.Types.{names_of}

-- a symbol of a known type with one more entry
abbrev pub with_entry : Symbol → ConfigEntry → Symbol
with_entry s e = record s {
  member_of = option_or s.member_of (member_choice s.kind e.choice);
  places = s.places ++ e.depends ∷ [];
  prompts = s.prompts ++ e.prompts;
  defaults = s.defaults ++ e.defaults;
  selects = s.selects ++ e.selects;
  implies = s.implies ++ e.implies;
}

-- the symbols, where the one with this number has one more entry
abbrev pub with_entry_at : List Symbol → Option ℕ → ConfigEntry → List Symbol
with_entry_at ss None e = ss
with_entry_at ss (Some k) e = slice_set ss k (with_entry (slice_index_or ss k no_symbol) e)

-- a symbol of a known type after some of its entries
abbrev pub symbol_by : Kind → List ConfigEntry → Bytes → Symbol
symbol_by k es name = record (symbol_of es name) { kind = k; member_of = member_choice k (first_choice es) }

-- all symbols after some of the entries
abbrev pub symbols_after : List ConfigEntry → List ConfigEntry → List Symbol
symbols_after all es = map (λ name. symbol_by (first_kind (entries_named all name)) (entries_named es name) name) (names_of all)
