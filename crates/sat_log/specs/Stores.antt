-- Clauses in one list of numbers of literals. No public contract cites this module.
use Rattle.std.specs.Prelude.{◌≡◌, ℕ, zero, suc, ◌-◌, ◌<◌, ◌≤◌, ◌^◌, List, [], ◌∷◌, ◌++◌, length, take, drop, map, slice_index, All}
use Rattle.ut_logic.specs.declared.literals.Lit.{Lit}
use Rattle.ut_logic.specs.Clauses.{IsClause}
use Rattle.sat_log.specs.Codes.{literal_of}

-- the literals of the numbers from a place up to an end
abbrev pub clause_between : ℕ → ℕ → List ℕ → List Lit
clause_between from end codes = map literal_of (take (end - from) (drop from codes))

-- the clauses that end at these places, the first of which begins at a place
abbrev pub clauses_from : ℕ → List ℕ → List ℕ → List (List Lit)
clauses_from from [] codes = []
clauses_from from (e ∷ es) codes = clause_between from e codes ∷ clauses_from e es codes

-- the ends rise, from a place on, and none is past the last number
abbrev pub AreEnds : ℕ → List ℕ → ℕ → Type 0
AreEnds from [] most = from ≤ most
AreEnds from (e ∷ es) most = (from ≤ e) × AreEnds e es most

-- where the clause with this place begins
abbrev pub start_at : ℕ → List ℕ → ℕ → ℕ
start_at from ends zero = from
start_at from ends (suc k) = slice_index ends k

-- the place behind the last clause
abbrev pub last_end : ℕ → List ℕ → ℕ
last_end from [] = from
last_end from (e ∷ es) = last_end e es

-- what a store keeps
pub record AreStored (ends codes : List ℕ) : Type 0 where
  pub ends_rise : AreEnds 0 ends (length codes)
  pub few : length codes < 2 ^ 32
  pub clauses : All IsClause (clauses_from 0 ends codes)

-- the list has more at its end
abbrev pub GrowsBy : List ℕ → List ℕ → Type 0
GrowsBy old new = (more : List ℕ) × (new ≡ old ++ more)

-- the list has at most so many more at its end
abbrev pub GrowsUpTo : List ℕ → List ℕ → ℕ → Type 0
GrowsUpTo old new most = (more : List ℕ) × (new ≡ old ++ more) × (length more ≤ most)
