-- What is at the front of what is left of a step, and what is left after it. No public contract cites this module.
use Rattle.std.specs.Prelude.{◌≡◌, ◌≢◌, ℕ, ◌<◌, ◌^◌, Bool, true, false, List, ◌++◌, All, codes, decimal}
use Rattle.std.specs.List.{flat_map}
use Rattle.ut_text.specs.Bytes.{Bytes}
use Rattle.ut_text.specs.Decimals.{begins_with_digit}
use Rattle.ut_logic.specs.declared.literals.Lit.{Lit}
use Rattle.ut_logic.specs.Clauses.{IsOrdered}
use Rattle.log_check.specs.declared.derivations.PivotOf.{PivotOf}
use Rattle.log_check.specs.declared.derivations.Chain.{Chain}
use Rattle.log_check.specs.declared.derivations.DerivationLine.{DerivationLine}
use Rattle.log_check.specs.DerivationText.{literal_text, pair_text, chain_text, IsVariable, IsPair, IsPrintable}

-- the sign of a literal: `-`, or no `-`
abbrev pub IsSignThen : Bytes → Bool → Bytes → Type 0
IsSignThen bytes true rest = (bytes ≡ rest) × ((more : Bytes) → rest ≢ codes "-" ++ more)
IsSignThen bytes false rest = bytes ≡ codes "-" ++ rest

-- a literal with its blank
pub record IsLiteralThen (bytes : Bytes) (l : Lit) (rest : Bytes) : Type 0 where
  pub variable : IsVariable l.var
  pub text : bytes ≡ literal_text l ++ rest

-- literals in order, and the word after them
pub record AreLiteralsThen (bytes : Bytes) (lits : List Lit) (rest : Bytes) : Type 0 where
  pub ordered : IsOrdered lits
  pub variables : All (λ (l : Lit). IsVariable l.var) lits
  pub text : bytes ≡ flat_map literal_text lits ++ (codes "0 via " ++ rest)

-- a pair, and after it no digit
pub record IsPairThen (bytes : Bytes) (p : PivotOf) (rest : Bytes) : Type 0 where
  pub fits : IsPair p
  pub text : bytes ≡ pair_text p ++ rest
  pub ends : begins_with_digit rest ≡ false

-- pairs, and nothing after them
pub record ArePairs (bytes : Bytes) (pairs : List PivotOf) : Type 0 where
  pub fit : All IsPair pairs
  pub text : bytes ≡ flat_map pair_text pairs

-- a chain, and nothing after it
pub record IsChain (bytes : Bytes) (chain : Chain) : Type 0 where
  pub first : chain.first < 2 ^ 64
  pub fit : All IsPair chain.pairs
  pub text : bytes ≡ chain_text chain

-- a step's number and the words round it
pub record IsHeadThen (bytes : Bytes) (n : ℕ) (rest : Bytes) : Type 0 where
  pub fits : n < 2 ^ 64
  pub text : bytes ≡ codes " step " ++ (decimal n ++ (codes ": " ++ rest))

-- a step after its head
pub record IsBody (bytes : Bytes) (line : DerivationLine) : Type 0 where
  pub printable : IsPrintable line
  pub text : bytes ≡ flat_map literal_text line.result ++ (codes "0 via " ++ chain_text line.chain)
