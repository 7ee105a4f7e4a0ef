-- The entries of a text of the first form: each is a bool with one prompt that depends on earlier entries alone,
-- and each name is new. This project's rule.
use Rattle.std.specs.Prelude.{◌≡◌, true, false, List, [], ◌∷◌, ◌++◌, Ok}
use Rattle.std.specs.List.{list_all}
use Rattle.ut_text.specs.Bytes.{Bytes}
use Rattle.kconf_entries.specs.declared.entries.ConfigEntry.{ConfigEntry}
use Rattle.kconf_entries.specs.declared.entries.Entries.{Entries}
use Rattle.kconf_entries.specs.BoolEntries.{bool_entry}
use Rattle.undertaker.specs.FirstKconfig.Form.{is_declared, first_tree_of}

-- the entries after those of these names
abbrev pub AreFirst : List Bytes → List ConfigEntry → Type 0
AreFirst before [] = Unit {0}
AreFirst before (e ∷ es) = (needs : List Bytes) × (e ≡ bool_entry e.name needs) × (list_all (is_declared before) needs ≡ true)
    × (is_declared before e.name ≡ false) × AreFirst (before ++ e.name ∷ []) es

-- what some text of the form gives
abbrev pub IsFirstTree : Entries → Type 0
IsFirstTree e = (bytes : Bytes) × (first_tree_of bytes ≡ Ok e)
