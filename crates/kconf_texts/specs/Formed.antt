-- What holds of the entries of every tree that is read. This project's words.
use Rattle.std.specs.Prelude.{◌<◌, ◌^◌, length, All, IfSome}
use Rattle.kconf_entries.specs.declared.entries.ConfigEntry.{ConfigEntry}
use Rattle.kconf_entries.specs.declared.entries.Entries.{Entries}

-- each choice that a config names exists, and the numbers of choices fit a u32
pub record AreFormed (e : Entries) : Type 0 where
  pub named : All (λ (c : ConfigEntry). IfSome c.choice (λ n. n < length e.choices)) e.configs
  pub numbered : length e.choices < 2 ^ 32
