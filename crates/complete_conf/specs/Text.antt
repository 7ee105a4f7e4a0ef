-- The text of a configuration: a line for each symbol that counts as bool or tristate, in order.
-- Rule: the lines that Linux kbuild writes into a .config file for such symbols.
use Rattle.std.specs.Prelude.{ℕ, ◌==◌, [], ◌++◌, codes, length, if◌then◌else◌}
use Rattle.std.specs.List.{flat_map, range_with_len}
use Rattle.ut_text.specs.Bytes.{Bytes}
use Rattle.kconf_tree.specs.declared.shape.Counts.{Counts}
use Rattle.kconf_tree.specs.declared.shape.Counts.TheVariants as counts
use Rattle.kconf_tree.specs.Shape.{Shape, symbol_at, counts_as}
use Rattle.kconf_tree.specs.Value.{Configuration}

-- the line of a symbol with this name and value
abbrev pub line_of : Bytes → ℕ → Bytes
line_of name v = if v == 0 then codes "# CONFIG_" ++ name ++ codes " is not set\n" else codes "CONFIG_" ++ name ++ (if v == 1 then codes "=m\n" else codes "=y\n")

-- none for a symbol of another type
abbrev pub line_by : Counts → Bytes → ℕ → Bytes
line_by counts.Neither name v = []
line_by kind name v = line_of name v

-- the line of a symbol, if it has one
abbrev pub symbol_line : Shape → Configuration → ℕ → Bytes
symbol_line t c k = line_by (counts_as t k) (symbol_at t k).name (c.value k)

-- all lines
abbrev pub text_of : Shape → Configuration → Bytes
text_of t c = flat_map (symbol_line t c) (range_with_len 0 (length t.symbols))
