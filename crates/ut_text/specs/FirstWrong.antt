-- The first wrong line of a text whose lines are not acceptable: the first line after which no continuation can make
-- the text acceptable. Which lists of lines are acceptable is given; a line may be its bytes or what they stand for.
-- This project's rule.
use Rattle.std.specs.Prelude.{ℕ, ◌-◌, ◌≤◌, ◌++◌, length, take, List}

-- some acceptable text begins with these lines
abbrev pub CanGoOn : {X : Type 0} → (List X → Type 0) → List X → Type 0
CanGoOn {X} IsAcceptable lines = (more : List X) × IsAcceptable (lines ++ more)

-- line n, counted from 1, is the first wrong one: the lines before it can be continued, and with it they can't
pub record IsFirstWrong {X : Type 0} (IsAcceptable : List X → Type 0) (lines : List X) (n : ℕ) : Type 0 where
  pub counted : 1 ≤ n
  pub within : n ≤ length lines
  pub before : CanGoOn IsAcceptable (take (n - 1) lines)
  pub wrong : ¬ CanGoOn IsAcceptable (take n lines)
