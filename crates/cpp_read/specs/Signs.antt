-- Tests of single tokens: signs, names, and tokens that stand alone.
-- Rule: ISO C, "Lexical elements".
use Rattle.std.specs.Prelude.{Bool, true, false, ◌==◌, bytes_eq, codes, [], ◌∷◌}
use Rattle.ut_text.specs.Bytes.{Bytes}
use Rattle.cpp_read.specs.Characters.{apostrophe}
use Rattle.cpp_read.specs.declared.token.Token.{Token}
use Rattle.cpp_read.specs.declared.token.Token.TheVariants.{Ident, Number, Quoted, Sign}

-- the token is this sign
abbrev pub is_sign : Bytes → Token → Bool
is_sign text (Sign t) = bytes_eq t text
is_sign text (Ident t) = false
is_sign text (Number t) = false
is_sign text (Quoted t) = false

-- the token is this name
abbrev pub is_word : Bytes → Token → Bool
is_word text (Ident t) = bytes_eq t text
is_word text (Sign t) = false
is_word text (Number t) = false
is_word text (Quoted t) = false

-- the token is a name
abbrev pub is_ident : Token → Bool
is_ident (Ident t) = true
is_ident (Sign t) = false
is_ident (Number t) = false
is_ident (Quoted t) = false

-- the text begins with `'`
abbrev pub begins_char : Bytes → Bool
begins_char [] = false
begins_char (b ∷ s) = b == apostrophe

-- a name, a number or a character literal
abbrev pub is_atom : Token → Bool
is_atom (Ident t) = true
is_atom (Number t) = true
is_atom (Quoted t) = begins_char t
is_atom (Sign t) = false

-- an opening parenthesis
abbrev pub is_open : Token → Bool
is_open = is_sign (codes "(")

-- a closing parenthesis
abbrev pub is_close : Token → Bool
is_close = is_sign (codes ")")

-- an exclamation mark
abbrev pub is_not : Token → Bool
is_not = is_sign (codes "!")

-- the token's text
abbrev pub text_of : Token → Bytes
text_of (Ident t) = t
text_of (Number t) = t
text_of (Quoted t) = t
text_of (Sign t) = t
