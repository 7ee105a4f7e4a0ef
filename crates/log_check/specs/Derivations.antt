-- Derivations by resolution: what a chain of resolvents gives, when a list of lines refutes a list of
-- clauses, and which line is wrong first. Numbers and chains are this project's rule.
use Rattle.std.specs.Prelude.{◌≡◌, ◌⊎◌, ℕ, ◌+◌, ◌-◌, ◌<◌, ◌≤◌, List, [], ◌∷◌, ◌++◌, map, length, take, slice_index_or}
use Rattle.ut_logic.specs.declared.literals.Lit.{Lit}
use Rattle.log_check.specs.declared.derivations.PivotOf.{PivotOf}
use Rattle.log_check.specs.declared.derivations.Chain.{Chain}
use Rattle.log_check.specs.declared.derivations.DerivationLine.{DerivationLine}
use Rattle.log_check.specs.Resolution.{IsResolvent}

-- the known clause with this number, counted from 1
abbrev pub IsNumbered : List (List Lit) → ℕ → List Lit → Type 0
IsNumbered known n c = (0 < n) × (n ≤ length known) × (slice_index_or known (n - 1) c ≡ c)

-- resolving acc with the clauses of the pairs, one after another, gives r
abbrev pub ResolvesTo : List (List Lit) → List Lit → List PivotOf → List Lit → Type 0
ResolvesTo known acc [] r = acc ≡ r
ResolvesTo known acc (p ∷ ps) r =
    (c mid : List Lit) × IsNumbered known p.clause c × IsResolvent acc c p.pivot mid × ResolvesTo known mid ps r

-- the chain gives r from the known clauses
abbrev pub ChainGives : List (List Lit) → Chain → List Lit → Type 0
ChainGives known chain r = (c : List Lit) × IsNumbered known chain.first c × ResolvesTo known c chain.pairs r

-- the results of the lines
abbrev pub results : List DerivationLine → List (List Lit)
results lines = map (λ (line : DerivationLine). line.result) lines

-- the line's result is what its chain gives from the clauses and the results of the lines before it
abbrev pub IsRight : List (List Lit) → List DerivationLine → DerivationLine → Type 0
IsRight clauses before line = ChainGives (clauses ++ results before) line.chain line.result

-- the first n lines are right
abbrev pub AreRight : List (List Lit) → List DerivationLine → ℕ → Type 0
AreRight clauses lines n = (k : ℕ) (d : DerivationLine) → k < n → IsRight clauses (take k lines) (slice_index_or lines k d)

-- there is a line, each line is right, and the last one's result is the empty clause
pub record Refutes (clauses : List (List Lit)) (lines : List DerivationLine) : Type 0 where
  pub some : 0 < length lines
  pub right : AreRight clauses lines (length lines)
  pub empty : (d : DerivationLine) → (slice_index_or lines (length lines - 1) d).result ≡ []

-- the line at this place isn't right, or is the last one and its result isn't the empty clause
abbrev pub IsWrongAt : List (List Lit) → List DerivationLine → ℕ → Type 0
IsWrongAt clauses lines k = (d : DerivationLine) →
    (¬ IsRight clauses (take k lines) (slice_index_or lines k d))
    ⊎ ((k + 1 ≡ length lines) × ¬ ((slice_index_or lines k d).result ≡ []))

-- the first wrong line, counted from 1; 0 where there is no line
abbrev pub IsFirstWrong : List (List Lit) → List DerivationLine → ℕ → Type 0
IsFirstWrong clauses lines n = ((n ≡ 0) × (lines ≡ []))
    ⊎ ((0 < n) × (n ≤ length lines) × AreRight clauses lines (n - 1) × IsWrongAt clauses lines (n - 1))

-- each line's result is what its chain gives from the known clauses and the results of the lines before it
abbrev pub AreTaken : List (List Lit) → List DerivationLine → Type 0
AreTaken known [] = Unit {0}
AreTaken known (line ∷ lines) = ChainGives known line.chain line.result × AreTaken (known ++ line.result ∷ []) lines

-- there is a last line, and its result is the empty clause
abbrev pub EndsEmpty : List DerivationLine → Type 0
EndsEmpty [] = ⊥
EndsEmpty (line ∷ []) = line.result ≡ []
EndsEmpty (line ∷ next ∷ lines) = EndsEmpty (next ∷ lines)
