-- Where each set variable stands in a trail, and the latest decided place. No public contract cites this module.
use Rattle.std.specs.Prelude.{◌≡◌, ◌≢◌, ◌⊎◌, ℕ, ◌+◌, ◌-◌, ◌==◌, ◌<◌, ◌≤◌, Bool, true, false, if◌then◌else◌, List, [], length, take, slice_index, slice_index_or, All, Contains}
use Rattle.ut_logic.specs.declared.literals.Lit.{Lit}
use Rattle.ut_logic.specs.Clauses.{negated}
use Rattle.sat_log.specs.declared.marks.Mark.{Mark}
use Rattle.sat_log.specs.declared.values.Value.{Value}
use Rattle.sat_log.specs.declared.values.Value.TheVariants.{Unset, True, False}
use Rattle.sat_log.specs.Moves.{IsFalse}

-- the place that is told for the literal's variable
abbrev pub place_in : List ℕ → Lit → ℕ
place_in at l = slice_index at (l.var - 1)

-- the latest decided place up to place j, counted from 1, or 0
pub record IsLatest (ms : List Mark) (j p : ℕ) : Type 0 where
  pub within : p ≤ j + 1
  pub decided : (d : Mark) → 0 < p → (slice_index_or ms (p - 1) d).decided ≡ true
  pub forced : (i : ℕ) (d : Mark) → p ≤ i → i ≤ j → (slice_index_or ms i d).decided ≡ false

-- the latest decided place behind a new mark
abbrev pub latest_for : Bool → ℕ → List ℕ → ℕ
latest_for decided set latest = if decided then set + 1 else (if set == 0 then 0 else slice_index latest (set - 1))

-- at each set variable stands its place in the trail
abbrev pub AreAtPlaces : List Mark → List ℕ → Type 0
AreAtPlaces ms at = (j : ℕ) (d : Mark) → j < length ms → place_in at (slice_index_or ms j d).lit ≡ j

-- at each place of the trail stands the latest decided one
abbrev pub AreLatest : List Mark → List ℕ → Type 0
AreLatest ms latest = (j : ℕ) → j < length ms → IsLatest ms j (slice_index latest j)

pub record ArePlaced (n : ℕ) (ms : List Mark) (at latest : List ℕ) : Type 0 where
  pub at_room : length at ≡ n
  pub latest_room : length latest ≡ n
  pub at_place : AreAtPlaces ms at
  pub latest_place : AreLatest ms latest

-- no literal's place is behind this one, which is that of a literal where there is one
pub record IsLatestPlace (lits : List Lit) (at : List ℕ) (place : ℕ) : Type 0 where
  pub upper : (l : Lit) → Contains lits l → place_in at l ≤ place
  pub reached : (lits ≡ []) ⊎ ((l : Lit) × Contains lits l × (place_in at l ≡ place))

-- one literal's place is this one or behind it, and those of the others are before it
abbrev pub IsAloneFrom : List Lit → List ℕ → ℕ → Type 0
IsAloneFrom lits at from =
    (l : Lit) × Contains lits l × (from ≤ place_in at l) × ((k : Lit) → Contains lits k → k ≢ l → place_in at k < from)

-- the literal of a forced mark makes one of the clause's false, and the others are false before it
pub record IsPivot (ms : List Mark) (lits : List Lit) (place : ℕ) : Type 0 where
  pub within : place < length ms
  pub forced : (d : Mark) → (slice_index_or ms place d).decided ≡ false
  pub inside : (d : Mark) → Contains lits (negated (slice_index_or ms place d).lit)
  pub others : (l : Lit) → Contains lits l → IsFalse (take (place + 1) ms) l

-- the place of the trail behind the literal's variable; behind all where it has no value
abbrev pub behind_under : Value → ℕ → ℕ → ℕ
behind_under Unset set place = set + 1
behind_under True set place = place + 1
behind_under False set place = place + 1

abbrev pub behind_of : List ℕ → List Value → ℕ → Lit → ℕ
behind_of at values set l = behind_under (slice_index_or values (l.var - 1) Unset) set (place_in at l)

-- two literals, by their places in the clause, which are the latest in the trail, and where the second one stands
pub record AreLatestTwo (at : List ℕ) (values : List Value) (set : ℕ) (lits : List Lit) (first second bound : ℕ) : Type 0 where
  pub first_in : first < length lits
  pub second_in : second < length lits
  pub upper : (j : ℕ) (d : Lit) → j < length lits → j ≢ first → behind_of at values set (slice_index_or lits j d) ≤ bound
  pub highest : (d : Lit) → bound ≤ behind_of at values set (slice_index_or lits first d)
  pub one : bound ≡ 0 → (second ≡ first) × (length lits ≡ 1)
  pub two : 0 < bound → (second ≢ first) × ((d : Lit) → behind_of at values set (slice_index_or lits second d) ≡ bound)

-- the first decided place from this one on
pub record IsFirstDecided (ms : List Mark) (bound cut : ℕ) : Type 0 where
  pub low : bound ≤ cut
  pub high : cut < length ms
  pub decided : (d : Mark) → (slice_index_or ms cut d).decided ≡ true
  pub first : (j : ℕ) (d : Mark) → bound ≤ j → j < cut → (slice_index_or ms j d).decided ≡ false
