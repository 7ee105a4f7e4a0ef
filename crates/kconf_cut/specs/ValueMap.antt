-- The map in which values are looked up: what it promises of the list that it is made from.
use Rattle.std.specs.Prelude.{◌≡◌, nat_eq, List}
use Rattle.std.specs.Option.{option_map}
use Rattle.std.specs.Cmp.Lexicographic.{pointwise}
use Rattle.std.specs.Map.{lookup}
use Rattle.std.proofs.Common.{Bor}
use Rattle.ut_text.specs.Bytes.{Bytes}
use Rattle.kconf_entries.specs.declared.entries.Var.{Var}
use Rattle.kconf_cut.specs.Words.{value_of}

-- a look-up finds the value that is handed in for the name
abbrev pub HoldsValues : List (Bor Bytes × Bor Bytes) → List Var → Type 0
HoldsValues entries vars = (name : Bor Bytes) → option_map (λ (t : Bor Bytes). t.now) (lookup (λ (k : Bor Bytes). pointwise nat_eq name.now k.now) entries) ≡ value_of vars name.now
