-- Bytes that may begin a splice, change the mode or end a line, and the reader that passes all others quickly.
-- This project's own; no contract of a public call rests on it.
use Rattle.std.specs.Prelude.{◌≡◌, ℕ, Bool, true, false, ◌==◌, ◌||◌, ◌++◌, List, [], ◌∷◌}
use Rattle.ut_text.specs.Bytes.{newline, carriage_return}
use Rattle.cpp_read.specs.Characters.{quote, apostrophe, star, slash, backslash}
use Rattle.cpp_read.specs.declared.cursor.PlacedByte.{PlacedByte}
use Rattle.cpp_read.specs.declared.modes.Mode.{Mode}
use Rattle.cpp_read.specs.declared.modes.Mode.TheVariants.{Code, Line, Open, Block, Close, Str, StrEscape, Char, CharEscape}

-- a backslash, newline, carriage return, slash, star or quote
abbrev pub is_stop : ℕ → Bool
is_stop b = b == backslash || b == newline || b == carriage_return || b == slash || b == star || b == quote || b == apostrophe

-- no byte is one of these
abbrev pub HasNoStop : List PlacedByte → Type 0
HasNoStop [] = Unit {0}
HasNoStop (c ∷ s) = (is_stop c.byte ≡ false) × HasNoStop s

-- only such bytes are passed
pub record Skips (old new : List PlacedByte) : Type 0 where
  pub front : List PlacedByte
  pub no_stop : HasNoStop front
  pub is : old ≡ front ++ new

-- modes that look at no such byte
abbrev pub is_steady : Mode → Bool
is_steady Code = true
is_steady Line = true
is_steady Open = false
is_steady Block = true
is_steady Close = false
is_steady Str = true
is_steady StrEscape = false
is_steady Char = true
is_steady CharEscape = false
