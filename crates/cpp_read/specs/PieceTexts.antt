-- The names that are told of the text of an opaque piece are the names among the tokens that it was made of.
-- This project's rule.
use Rattle.std.specs.Prelude.{◌≡◌, List, [], ◌∷◌, ◌++◌}
use Rattle.ut_text.specs.Bytes.{Bytes}
use Rattle.cpp_directives.specs.PieceNames.{names_of_piece}
use Rattle.cpp_read.specs.declared.token.Token.{Token}
use Rattle.cpp_read.specs.declared.token.Token.TheVariants.{Ident, Number, Quoted, Sign}
use Rattle.cpp_read.specs.Operands.{piece_text}
use Rattle.cpp_read.specs.Tokens.{tokens_of}

-- the name that a token is, if it is one
abbrev pub name_in : Token → List Bytes
name_in (Ident x) = x ∷ []
name_in (Number x) = []
name_in (Quoted x) = []
name_in (Sign x) = []

-- the names among tokens, in order
abbrev pub names_among : List Token → List Bytes
names_among [] = []
names_among (t ∷ ts) = name_in t ++ names_among ts

-- whatever part of a line's tokens a piece is made of, its names are the names among them
abbrev pub NamesAreTokens : Type 0
NamesAreTokens = (line : Bytes) (front part back : List Token) → tokens_of line ≡ front ++ part ++ back → names_of_piece (piece_text part) ≡ names_among part
