-- Quoted text: from a `"` or `'` up to the same byte, or to the end of the line; a backslash takes the next byte.
-- Rule: ISO C, "String literals" and "Character constants".
use Rattle.std.specs.Prelude.{ℕ, suc, Bool, false, not, ◌==◌, ◌||◌, ◌&&◌, [], ◌∷◌, if◌then◌else◌}
use Rattle.ut_text.specs.Bytes.{Bytes, double_quote, single_quote, backslash}

-- `"` or `'`
abbrev pub is_quote : ℕ → Bool
is_quote b = b == double_quote || b == single_quote

-- how many bytes go on with quoted text, its mark included; whether a backslash stands before
abbrev pub quoted_len : ℕ → Bool → Bytes → ℕ
quoted_len mark escape [] = 0
quoted_len mark escape (b ∷ s) = if not escape && b == mark then 1 else suc (quoted_len mark (not escape && b == backslash) s)
