-- The text of a derivation: each of its lines is written as a step, ` step N: L1 .. Lk 0 via F P1 C1 P2 C2 ..`, and a
-- newline. N is its number, the L are the literals of its result, F is the clause that its chain begins with, each P a
-- variable to resolve on and C the clause to resolve with. Numbers are decimal, without a leading zero, and below
-- 2 ^ 64; variables count from 1. This project's rule.
use Rattle.std.specs.Prelude.{◌≡◌, ◌⊎◌, ℕ, ◌+◌, ◌<◌, ◌≤◌, ◌^◌, if◌then◌else◌, List, [], ◌∷◌, ◌++◌, length, All, codes, decimal}
use Rattle.std.specs.List.{flat_map}
use Rattle.ut_text.specs.Bytes.{Bytes}
use Rattle.line_texts.specs.Grammar as grammar
use Rattle.line_texts.specs.Lines.{whole_lines}
use Rattle.ut_logic.specs.declared.literals.Lit.{Lit}
use Rattle.ut_logic.specs.Clauses.{IsOrdered}
use Rattle.log_check.specs.declared.derivations.PivotOf.{PivotOf}
use Rattle.log_check.specs.declared.derivations.Chain.{Chain}
use Rattle.log_check.specs.declared.derivations.DerivationLine.{DerivationLine}

-- a literal's variable, with `-` before it where the literal is negative, and a blank
abbrev pub literal_text : Lit → Bytes
literal_text l = (if l.positive then [] else codes "-") ++ decimal l.var ++ codes " "

-- a pivot and the clause to resolve with, each after a blank
abbrev pub pair_text : PivotOf → Bytes
pair_text p = codes " " ++ decimal p.pivot ++ codes " " ++ decimal p.clause

-- the first clause and the pairs
abbrev pub chain_text : Chain → Bytes
chain_text chain = decimal chain.first ++ flat_map pair_text chain.pairs

-- a line of a derivation as the step with this number
abbrev pub step_text : ℕ → DerivationLine → Bytes
step_text n line =
    codes " step " ++ decimal n ++ codes ": " ++ flat_map literal_text line.result ++ codes "0 via " ++ chain_text line.chain

-- steps numbered from n on, each with its newline
abbrev pub text_of : ℕ → List DerivationLine → Bytes
text_of n [] = []
text_of n (line ∷ lines) = step_text n line ++ codes "\n" ++ text_of (n + 1) lines

-- a variable that a text can have
abbrev pub IsVariable : ℕ → Type 0
IsVariable x = (0 < x) × (x < 2 ^ 64)

-- numbers of a pair that a text can have
abbrev pub IsPair : PivotOf → Type 0
IsPair p = (p.pivot < 2 ^ 64) × (p.clause < 2 ^ 64)

-- a line that a text can have
pub record IsPrintable (line : DerivationLine) : Type 0 where
  pub ordered : IsOrdered line.result
  pub variables : All (λ (l : Lit). IsVariable l.var) line.result
  pub first : line.chain.first < 2 ^ 64
  pub pairs : All IsPair line.chain.pairs

-- bytes are the step of this line, with this number
pub record IsStep (n : ℕ) (line : DerivationLine) (bytes : Bytes) : Type 0 where
  pub fits : n < 2 ^ 64
  pub printable : IsPrintable line
  pub text : bytes ≡ step_text n line

-- bytes are the text of these lines, numbered from n on
pub record IsTextOf (n : ℕ) (lines : List DerivationLine) (bytes : Bytes) : Type 0 where
  pub first : 0 < n
  pub last : n + length lines ≤ 2 ^ 64
  pub printable : All IsPrintable lines
  pub text : bytes ≡ text_of n lines

-- the lines of the steps so far, and the number of the last step, which is 0 before the first one
pub record Progress : Type 0 where
  pub lines : List DerivationLine
  pub last : ℕ

abbrev pub at_start : Progress
at_start = record { lines = []; last = 0 }

-- the first step has any number from 1 on, and each later one the next number
abbrev pub MayFollow : ℕ → ℕ → Type 0
MayFollow last n = (0 < n) × ((last ≡ 0) ⊎ (n ≡ last + 1))

-- the line, with its newline, may be the next one
pub record Takes (s : Progress) (whole : Bytes) (after : List Bytes) (next : Progress) : Type 0 where
  pub number : ℕ
  pub line : DerivationLine
  pub step : Bytes
  pub is_step : IsStep number line step
  pub newline : whole ≡ step ++ codes "\n"
  pub follows : MayFollow s.last number
  pub leads : next ≡ record { lines = s.lines ++ line ∷ []; last = number }

-- the text says what its steps say
abbrev pub Ends : Progress → List DerivationLine → Type 0
Ends s lines = lines ≡ s.lines

-- the lines before this one, counted from 1, are a text that doesn't go on with this one
abbrev pub IsFirstOutside : Bytes → ℕ → Type 0
IsFirstOutside bytes number = grammar.IsOutsideLine Takes Ends at_start (whole_lines bytes) number
