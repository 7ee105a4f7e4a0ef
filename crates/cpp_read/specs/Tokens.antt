-- The tokens of a line: names, numbers, quoted text, signs of two bytes, and every other byte alone.
-- Rule: ISO C, "Lexical elements"; the list of signs is this project's.
use Rattle.std.specs.Prelude.{ℕ, suc, zero, Bool, false, not, ◌==◌, ◌||◌, ◌&&◌, take, map, codes, List, [], ◌∷◌, if◌then◌else◌}
use Rattle.std.specs.List.{prefix_len}
use Rattle.ut_text.specs.Bytes.{Bytes}
use Rattle.cpp_directives.specs.Quotes.{is_quote, quoted_len}
use Rattle.cpp_read.specs.Characters.{dot, equals, is_any_of}
use Rattle.ut_text.specs.Escapes.{escaped}
use Rattle.cpp_read.specs.declared.token.Token.{Token}
use Rattle.cpp_read.specs.declared.token.Token.TheVariants.{Ident, Number, Quoted, Sign}
use Rattle.cpp_read.specs.LogicalLines.{is_white}
use Rattle.ut_text.specs.ByteClasses.{begins_names, is_digit, is_name_byte}

-- whether a text begins with a digit
abbrev pub begins_digit : Bytes → Bool
begins_digit [] = false
begins_digit (b ∷ s) = is_digit b

-- an exponent's letter, after which `+` or `-` belongs to the number
abbrev pub is_exponent : ℕ → Bool
is_exponent b = is_any_of (codes "eEpP") b

-- a byte of a number after its first: one of names, `.`, or `+` or `-` after an exponent's letter
abbrev pub is_number_byte : Bool → ℕ → Bool
is_number_byte signed b = is_name_byte b || b == dot || (signed && is_any_of (codes "+-") b)

-- how many bytes go on with a number; whether a sign may be next
abbrev pub number_len : Bool → Bytes → ℕ
number_len signed [] = 0
number_len signed (b ∷ s) = if is_number_byte signed b then suc (number_len (is_exponent b) s) else 0

-- `|`, `&`, `=`, `<` or `>`
abbrev pub is_doubled : ℕ → Bool
is_doubled a = is_any_of (codes "|&=<>") a

-- `!`, `<` or `>`
abbrev pub is_compared : ℕ → Bool
is_compared a = is_any_of (codes "!<>") a

-- `||`, `&&`, `==`, `<<`, `>>`, and `!=`, `<=`, `>=`
abbrev pub is_pair : ℕ → ℕ → Bool
is_pair a b = (a == b && is_doubled a) || (b == equals && is_compared a)

-- how many bytes go with a sign's first: one or none
abbrev pub sign_len : ℕ → Bytes → ℕ
sign_len a [] = 0
sign_len a (b ∷ s) = if is_pair a b then 1 else 0

-- a number begins with a digit, or with a dot and a digit
abbrev pub begins_number : ℕ → Bytes → Bool
begins_number b s = is_digit b || (b == dot && begins_digit s)

-- how many bytes of `s` go with `b` before them
abbrev pub more_of : ℕ → Bytes → ℕ
more_of b s =
    if begins_names b then prefix_len is_name_byte s
    else if begins_number b s then number_len false s
    else if is_quote b then quoted_len b false s else sign_len b s

-- the spellings of the tokens after so many bytes
abbrev pub spellings_after : ℕ → Bytes → List Bytes
spellings_after k [] = []
spellings_after (suc k) (b ∷ s) = spellings_after k s
spellings_after zero (b ∷ s) = if is_white b then spellings_after 0 s else (b ∷ take (more_of b s) s) ∷ spellings_after (more_of b s) s

-- the token with this spelling
abbrev pub token_of : Bytes → Token
token_of [] = Sign []
token_of (b ∷ s) =
    if begins_names b then Ident (escaped (b ∷ s))
    else if begins_number b s then Number (escaped (b ∷ s))
    else if is_quote b then Quoted (escaped (b ∷ s)) else Sign (escaped (b ∷ s))

-- the spellings of the tokens of a line, in order: the bytes of each
abbrev pub spellings_of : Bytes → List Bytes
spellings_of text = spellings_after 0 text

-- the tokens of a line
abbrev pub tokens_of : Bytes → List Token
tokens_of text = map token_of (spellings_of text)
