-- The names of an opaque piece: those of its tokens that are names. The piece's text has its tokens with one space
-- between; a byte past 127 stands in it as `\x` and two digits, and is part of no name.
-- Rule: ISO C, "Lexical elements"; the text of a piece is this project's.
use Rattle.std.specs.Prelude.{ℕ, zero, suc, Bool, not, ◌==◌, ◌||◌, take, List, [], ◌∷◌, ◌++◌, if◌then◌else◌, false}
use Rattle.std.specs.List.{prefix_len}
use Rattle.ut_text.specs.Bytes.{Bytes, space, backslash}
use Rattle.ut_text.specs.ByteClasses.{begins_names, is_digit, is_name_byte}
use Rattle.cpp_directives.specs.Quotes.{is_quote, quoted_len}

-- how many of the bytes that follow go with a byte of a piece's text: those of a name; quoted text, which may have
-- spaces; a number, or bytes that were escaped, up to the space
abbrev pub more_of : ℕ → Bytes → ℕ
more_of b s =
    if begins_names b then prefix_len is_name_byte s
    else if is_quote b then quoted_len b false s
    else if is_digit b || b == backslash then prefix_len (λ c. not (c == space)) s else 0

-- how many bytes the first word has
abbrev pub first_len : Bytes → ℕ
first_len [] = 0
first_len (b ∷ s) = suc (more_of b s)

-- whether a word begins as names do
abbrev pub begins_name : Bytes → Bool
begins_name [] = false
begins_name (b ∷ s) = begins_names b

-- the word, if it is a name
abbrev pub named : Bytes → List Bytes
named word = if begins_name word then word ∷ [] else []

-- the names after so many bytes
abbrev pub names_after : ℕ → Bytes → List Bytes
names_after k [] = []
names_after (suc k) (b ∷ s) = names_after k s
names_after zero (b ∷ s) = named (b ∷ take (more_of b s) s) ++ names_after (more_of b s) s

-- the names of a piece, in order
abbrev pub names_of_piece : Bytes → List Bytes
names_of_piece text = names_after 0 text
