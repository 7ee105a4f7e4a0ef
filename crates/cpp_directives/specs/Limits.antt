-- The limits on a source, which are this project's.
use Rattle.std.specs.Prelude.{ℕ}

-- the bytes of a text
abbrev pub most_bytes : ℕ
most_bytes = 16777216

-- conditionals that are open at once
abbrev pub most_depth : ℕ
most_depth = 250

-- the groups of a conditional: `#if`, `#elif` and `#else`
abbrev pub most_groups : ℕ
most_groups = 1024

-- the blocks of a source
abbrev pub most_blocks : ℕ
most_blocks = 65535

-- the parentheses and `!` over a token of a condition
abbrev pub most_signs : ℕ
most_signs = 200
