-- The plainest entry: a bool symbol with one prompt. Rule: Linux kconfig-language, "Menu entries".
use Rattle.std.specs.Prelude.{false, List, [], ◌∷◌, None}
use Rattle.ut_text.specs.Bytes.{Bytes}
use Rattle.kconf_entries.specs.declared.entries.Kind.TheVariants as kind
use Rattle.kconf_entries.specs.declared.entries.ConfigEntry.{ConfigEntry}
use Rattle.kconf_entries.specs.Joined.{all_of_names}

-- the entry of a bool symbol with this name and a prompt, which depends on these names
abbrev pub bool_entry : Bytes → List Bytes → ConfigEntry
bool_entry name needs = record {
  name = name;
  kind = kind.Bool;
  depends = all_of_names needs;
  prompts = all_of_names needs ∷ [];
  defaults = [];
  selects = [];
  implies = [];
  modules = false;
  choice = None;
}
