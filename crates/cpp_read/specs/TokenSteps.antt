-- What the readers of tokens promise each other.
-- This project's own; no contract of a public call rests on it.
use Rattle.std.specs.Prelude.{ℕ, suc, Bool, false, not, [], ◌∷◌}
use Rattle.ut_text.specs.Bytes.{Bytes}
use Rattle.cpp_read.specs.LogicalLines.{is_white}
use Rattle.cpp_read.specs.Tokens.{more_of}

-- whether a text begins with a token
abbrev pub begins_token : Bytes → Bool
begins_token [] = false
begins_token (b ∷ s) = not (is_white b)

-- how many bytes its first token has
abbrev pub token_len : Bytes → ℕ
token_len [] = 0
token_len (b ∷ s) = suc (more_of b s)
