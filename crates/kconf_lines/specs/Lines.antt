-- Physical lines and their numbers. This project's words.
use Rattle.std.specs.Prelude.{ℕ, ◌+◌, List, [], ◌∷◌}
use Rattle.ut_text.specs.Bytes.{Bytes}

-- a line and its number
pub record Line : Type 0 where
  pub number : ℕ
  pub text : Bytes

-- lines are counted from this number on
abbrev pub numbered : ℕ → List Bytes → List Line
numbered n [] = []
numbered n (l ∷ ls) = record { number = n; text = l } ∷ numbered (n + 1) ls
