-- What the readers of spliced lines promise each other, and the next byte of a text.
-- This project's own; of it `Comments` takes `first` alone.
use Rattle.std.specs.Prelude.{◌≡◌, ◌≤◌, ◌<◌, ◌+◌, ℕ, Bool, false, ◌==◌, ◌&&◌, ◌||◌, Option, None, Some, length, drop, List, [], ◌∷◌}
use Rattle.ut_text.specs.Bytes.{Bytes, carriage_return}
use Rattle.cpp_directives.specs.Limits.{most_bytes}
use Rattle.cpp_read.specs.Characters.{backslash}
use Rattle.cpp_read.specs.declared.cursor.PlacedByte.{PlacedByte}
use Rattle.ut_text.specs.Lines.{begins_newline}
use Rattle.cpp_read.specs.Splices.{spliced_bytes}

-- a carriage return and a newline
abbrev pub begins_return : Bytes → Bool
begins_return [] = false
begins_return (b ∷ s) = b == carriage_return && begins_newline s

-- a backslash and a newline
abbrev pub begins_join : Bytes → Bool
begins_join [] = false
begins_join (b ∷ s) = b == backslash && begins_newline s

-- a backslash, a carriage return and a newline
abbrev pub begins_return_join : Bytes → Bool
begins_return_join [] = false
begins_return_join (b ∷ s) = b == backslash && begins_return s

-- whether a splice, or the carriage return of a line end, stands at the front
abbrev pub begins_splice : Bytes → Bool
begins_splice s = begins_return s || begins_join s || begins_return_join s

-- the first byte
abbrev pub first : List PlacedByte → Option ℕ
first [] = None
first (c ∷ s) = Some c.byte

-- a step of a reader: the first byte, and what is left
abbrev pub Takes : List PlacedByte → Option PlacedByte → List PlacedByte → Type 0
Takes old None new = (old ≡ []) × (new ≡ [])
Takes old (Some c) new = old ≡ c ∷ new

-- where a cursor may stand
pub record Stands (bytes : Bytes) (at line : ℕ) : Type 0 where
  pub small : length bytes ≤ most_bytes
  pub within : at ≤ length bytes
  pub counted : line ≤ at + 1

-- a splice, or the carriage return of a line end, is passed
pub record Passes (bytes : Bytes) (at line to number : ℕ) : Type 0 where
  pub same : spliced_bytes to number (drop to bytes) ≡ spliced_bytes at line (drop at bytes)
  pub stands : Stands bytes to number
  pub onward : at < to
