-- What a trail keeps behind its view, and what the resolving at a conflict keeps. Of public contracts that
-- of `Trail::explain` alone cites this module, for how its line ends or cuts.
use Rattle.std.specs.Prelude.{◌≡◌, ◌≢◌, ◌⊎◌, ℕ, ◌+◌, ◌<◌, ◌≤◌, Bool, true, false, List, [], ◌∷◌, ◌++◌, length, take, slice_index, slice_index_or, All, Contains}
use Rattle.ut_logic.specs.declared.literals.Lit.{Lit}
use Rattle.ut_logic.specs.Clauses.{literal, negated, AreWithin}
use Rattle.log_check.specs.declared.derivations.DerivationLine.{DerivationLine}
use Rattle.log_check.specs.declared.derivations.PivotOf.{PivotOf}
use Rattle.log_check.specs.Resolution.{IsResolvent}
use Rattle.log_check.specs.Derivations.{IsNumbered, ResolvesTo, results}
use Rattle.sat_log.specs.declared.marks.Mark.{Mark}
use Rattle.sat_log.specs.declared.values.Value.{Value}
use Rattle.sat_log.specs.declared.values.Value.TheVariants.{Unset, True, False}
use Rattle.sat_log.specs.Moves.{IsSet, IsFalse, IsUnset, IsSetVar, IsFalseClause, IsForcing}
use Rattle.sat_log.specs.Runs.{IsReached}
use Rattle.sat_log.specs.Trails.{IsCut}

-- what the value says of the variable
abbrev pub Tells : List Mark → ℕ → Value → Type 0
Tells marks x Unset = ¬ IsSetVar marks x
Tells marks x True = IsSet marks (literal x true)
Tells marks x False = IsSet marks (literal x false)

-- place k of the values is for the variable k + 1
abbrev pub AreValues : ℕ → List Mark → List Value → Type 0
AreValues n marks values = (length values ≡ n) × ((k : ℕ) (d : Value) → k < n → Tells marks (k + 1) (slice_index_or values k d))

-- the value that a set literal gives
abbrev pub value_for : Bool → Value
value_for true = True
value_for false = False

-- no variable is set twice
abbrev pub AreApart : List Mark → Type 0
AreApart [] = Unit {0}
AreApart (m ∷ ms) = ((k : Mark) → Contains ms k → m.lit.var ≢ k.lit.var) × AreApart ms

-- a true literal, or two unset ones
abbrev pub HasSlack : List Mark → List Lit → Type 0
HasSlack marks c =
    ((l : Lit) × Contains c l × IsSet marks l)
    ⊎ ((l m : Lit) × Contains c l × Contains c m × (l ≢ m) × IsUnset marks l × IsUnset marks m)

-- before each decided literal each known clause has slack
abbrev pub IsSettled : List (List Lit) → List Mark → Type 0
IsSettled known marks = (kept : List Mark) (cut : Mark) (gone : List Mark) → marks ≡ kept ++ cut ∷ gone → cut.decided ≡ true →
    (c : List Lit) → Contains known c → HasSlack kept c

-- the clause holds the literal, and its other literals are false before it
pub record IsReason (before : List Mark) (l : Lit) (c : List Lit) : Type 0 where
  pub inside : Contains c l
  pub others : (k : Lit) → Contains c k → k ≢ l → IsFalse before k

-- before no decided literal of the part the clause has one unset literal and else false ones
abbrev pub IsFirstCut : List Mark → List Lit → Type 0
IsFirstCut kept c = (before : List Mark) (cut : Mark) (gone : List Mark) → kept ≡ before ++ cut ∷ gone → cut.decided ≡ true → ¬ IsForcing before c

-- each forced literal has a known clause as its reason, by number
abbrev pub AreReasons : List (List Lit) → List Mark → List ℕ → Type 0
AreReasons known marks reasons =
    (length reasons ≡ length marks)
    × ((j : ℕ) (d : Mark) → j < length marks → (slice_index_or marks j d).decided ≡ false
    → (c : List Lit) × IsNumbered known (slice_index reasons j) c × IsReason (take j marks) (slice_index_or marks j d).lit c)

-- from the first clause the pairs lead to acc, which is false and speaks of no forced literal from place i on
pub record IsBackAt (known : List (List Lit)) (marks : List Mark) (first : List Lit) (i : ℕ) (acc : List Lit) (pairs : List PivotOf) : Type 0 where
  pub derived : ResolvesTo known first pairs acc
  pub is_false : IsFalseClause marks acc
  pub decided_only : (j : ℕ) (d : Mark) → i ≤ j → j < length marks → Contains acc (negated (slice_index_or marks j d).lit) → (slice_index_or marks j d).decided ≡ true
  pub unset : (kept : List Mark) (cut : Mark) (gone : List Mark) → marks ≡ kept ++ cut ∷ gone → cut.decided ≡ true →
      ((c : List Lit) → Contains known c → HasSlack kept c) → (k : Lit) × Contains acc k × IsUnset kept k

-- the clause stays, or the mark's literal is resolved away by its reason
abbrev pub IsStepBack : List (List Lit) → Mark → ℕ → List Lit → List PivotOf → List Lit → List PivotOf → Type 0
IsStepBack known mark reason acc pairs acc' pairs' =
    ((acc' ≡ acc) × (pairs' ≡ pairs) × (Contains acc (negated mark.lit) → mark.decided ≡ true))
    ⊎ ((mark.decided ≡ false) × (c : List Lit) × IsNumbered known reason c × IsResolvent acc c mark.lit.var acc' × (pairs' ≡ pairs ++ (record { pivot = mark.lit.var; clause = reason }) ∷ []))

-- the variable is resolved away by the known clause with this number, and the pair is noted
abbrev pub IsResolvedStep : List (List Lit) → ℕ → ℕ → List Lit → List PivotOf → List Lit → List PivotOf → Type 0
IsResolvedStep known pivot number acc pairs acc' pairs' =
    (c : List Lit) × IsNumbered known number c × IsResolvent acc c pivot acc' × (pairs' ≡ pairs ++ (record { pivot = pivot; clause = number }) ∷ [])

-- the first so many marks, with their reasons and the values of the variables, are those of a state that some
-- run reaches; the first low variables are set
pub record AreTrail (n : ℕ) (clauses : List (List Lit)) (lines : List DerivationLine) (marks : List Mark) (reasons : List ℕ) (set low : ℕ) (values : List Value) (steps : ℕ) : Type 0 where
  pub within : AreWithin n clauses
  pub reached : IsReached n clauses (record { lines = lines; marks = take set marks; steps = steps })
  pub because : AreReasons (clauses ++ results lines) (take set marks) (take set reasons)
  pub settled : IsSettled (clauses ++ results lines) (take set marks)
  pub told : AreValues n (take set marks) values
  pub below : (k : ℕ) → k < low → ¬ (slice_index_or values k Unset ≡ Unset)
  pub room : length marks ≡ n
  pub reason_room : length reasons ≡ n
  pub count : set ≤ n

-- nothing is decided and the clause is empty, or the trail can be cut for it
abbrev pub EndsOrCuts : List Mark → List Lit → Type 0
EndsOrCuts marks r = (All (λ (m : Mark). m.decided ≡ false) marks × (r ≡ [])) ⊎ ((k : ℕ) × IsCut marks r k)

-- where each known clause has slack before each decided literal, the clause ends the search or cuts the trail
abbrev pub IsExplained : List (List Lit) → List Mark → List Lit → Type 0
IsExplained known marks r = IsSettled known marks → EndsOrCuts marks r
