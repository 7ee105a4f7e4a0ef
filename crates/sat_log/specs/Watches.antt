-- Two literals watch each clause of the known ones: when a clause may neither be false nor force a literal, and
-- what a visit keeps. No public contract cites this module.
use Rattle.std.specs.Prelude.{◌≡◌, ◌≢◌, ◌⊎◌, ℕ, ◌+◌, ◌-◌, ◌*◌, ◌<◌, ◌≤◌, ◌^◌, true, List, [], ◌∷◌, ◌++◌, length, slice_index, slice_index_or, Contains}
use Rattle.ut_logic.specs.declared.literals.Lit.{Lit}
use Rattle.ut_logic.specs.Clauses.{negated, AreWithin}
use Rattle.log_check.specs.Derivations.{IsNumbered}
use Rattle.sat_log.specs.declared.marks.Mark.{Mark}
use Rattle.sat_log.specs.declared.values.Value.{Value}
use Rattle.sat_log.specs.declared.values.Value.TheVariants.{Unset, True, False}
use Rattle.sat_log.specs.declared.visiting.Seen.{Seen}
use Rattle.sat_log.specs.declared.visiting.Seen.TheVariants as seen
use Rattle.sat_log.specs.declared.visiting.Watched.{Watched}
use Rattle.sat_log.specs.Codes.{literal_of, truth_of}
use Rattle.sat_log.specs.Inner.{AreApart, AreValues}
use Rattle.sat_log.specs.Links.{none, IsLinked}
use Rattle.sat_log.specs.Moves.{IsSet, IsFalse, IsFalseClause}

-- what a look at a clause's numbers shows, but for the other watch
abbrev pub IsSeen : List Value → List ℕ → ℕ → Seen → Type 0
IsSeen values codes other seen.True = truth_of values other ≡ True
IsSeen values codes other (seen.Instead code) =
    Contains codes code × (code ≢ other) × (truth_of values code ≢ False) × (truth_of values other ≢ True)
IsSeen values codes other seen.Forces =
    ((code : ℕ) → Contains codes code → code ≢ other → truth_of values code ≡ False) × (truth_of values other ≡ Unset)
IsSeen values codes other seen.False =
    ((code : ℕ) → Contains codes code → code ≢ other → truth_of values code ≡ False) × (truth_of values other ≡ False)

-- one watch is true, or they differ and neither is false
abbrev pub IsFine : List Mark → List Lit → Lit → Lit → Type 0
IsFine ms c a b =
    Contains c a × Contains c b × (IsSet ms a ⊎ (IsSet ms b ⊎ ((a ≢ b) × (¬ IsFalse ms a) × (¬ IsFalse ms b))))

-- that is so under the part of the trail before each decided literal
abbrev pub IsFineBefore : List Mark → List Lit → Lit → Lit → Type 0
IsFineBefore ms c a b = (kept : List Mark) (cut : Mark) (gone : List Mark) → ms ≡ kept ++ cut ∷ gone → cut.decided ≡ true → IsFine kept c a b

-- one of the watches isn't false, and the other literals are
abbrev pub HasOneLeft : List Mark → List Lit → Lit → Lit → Type 0
HasOneLeft ms c a b =
    (l : Lit) × ((l ≡ a) ⊎ (l ≡ b)) × Contains c l × (¬ IsFalse ms l) × ((k : Lit) → Contains c k → k ≢ l → IsFalse ms k)

-- the clause is fine or waits, and where it waits one of its literals is left
pub record IsGood (ms : List Mark) (list : List ℕ) (place : ℕ) (c : List Lit) (a b : Lit) : Type 0 where
  pub first : Contains c a
  pub second : Contains c b
  pub fine : IsFine ms c a b ⊎ Contains list place
  pub waits : Contains list place → HasOneLeft ms c a b

-- the literal that a slot watches
abbrev pub watch_at : List ℕ → ℕ → Lit
watch_at watched slot = literal_of (slice_index watched slot)

abbrev pub clause_in : List (List Lit) → ℕ → List Lit
clause_in store place = slice_index_or store place []

-- the clause with this place is good
abbrev pub IsGoodAt : List Mark → List (List Lit) → List ℕ → List ℕ → ℕ → Type 0
IsGoodAt ms store watched list k =
    IsGood ms list k (clause_in store k) (watch_at watched (k * 2)) (watch_at watched (k * 2 + 1))

abbrev pub AreGood : List Mark → List (List Lit) → List ℕ → List ℕ → Type 0
AreGood ms store watched list = (k : ℕ) → k < length store → IsGoodAt ms store watched list k

abbrev pub AreFineBefore : List Mark → List (List Lit) → List ℕ → Type 0
AreFineBefore ms store watched =
    (k : ℕ) → k < length store → IsFineBefore ms (clause_in store k) (watch_at watched (k * 2)) (watch_at watched (k * 2 + 1))

-- there is no number, or it is that of a false clause
abbrev pub IsConflict : List Mark → List (List Lit) → ℕ → Type 0
IsConflict ms store number = (number ≡ 0) ⊎ ((c : List Lit) × IsNumbered store number c × IsFalseClause ms c)

-- the sizes of what is kept for n variables
pub record AreSized (n : ℕ) (w : Watched) : Type 0 where
  pub within : AreWithin n w.store
  pub slots : w.links.slots ≡ length w.store * 2
  pub room : length w.store ≤ w.waiting.room
  pub heads : length w.links.heads.items ≡ n * 2 + 2
  pub few : n < 2 ^ 31

-- what is kept under a trail
pub record AreWatched (n : ℕ) (w : Watched) (ms : List Mark) : Type 0 where
  pub sized : AreSized n w
  pub linked : IsLinked w.links none []
  pub before : AreFineBefore ms w.store w.links.watched.items
  pub good : w.conflict ≡ 0 → AreGood ms w.store w.links.watched.items w.waiting.list
  pub listed : (k : ℕ) → Contains w.waiting.list k → k < length w.store
  pub conflict : IsConflict ms w.store w.conflict

-- the last mark makes the literal false, and the values are those of the longer trail
pub record IsHit (values : List Value) (ms : List Mark) (m : Mark) (code : ℕ) : Type 0 where
  pub told : AreValues (length values) (ms ++ m ∷ []) values
  pub apart : AreApart (ms ++ m ∷ [])
  pub hit : literal_of code ≡ negated m.lit

-- the clauses of these slots are still as they were before the last mark, and the others are good behind it
pub record IsVisiting (w : Watched) (values : List Value) (ms : List Mark) (m : Mark) (code slot : ℕ) (rest : List ℕ) : Type 0 where
  pub sized : AreSized (length values) w
  pub linked : IsLinked w.links slot rest
  pub hit : IsHit values ms m code
  pub at_code : (s : ℕ) → Contains rest s → slice_index w.links.watched.items s ≡ code
  pub before : AreFineBefore (ms ++ m ∷ []) w.store w.links.watched.items
  pub done : w.conflict ≡ 0 → (k : ℕ) → k < length w.store → ¬ Contains rest (k * 2) → ¬ Contains rest (k * 2 + 1) →
      IsGoodAt (ms ++ m ∷ []) w.store w.links.watched.items w.waiting.list k
  pub left : w.conflict ≡ 0 → (k : ℕ) → k < length w.store → Contains rest (k * 2) ⊎ Contains rest (k * 2 + 1) →
      IsGoodAt ms w.store w.links.watched.items w.waiting.list k
  pub listed : (k : ℕ) → Contains w.waiting.list k → k < length w.store
  pub conflict : IsConflict (ms ++ m ∷ []) w.store w.conflict

-- two literals that may watch a clause where one of them is left
pub record MayWatch (ms : List Mark) (c : List Lit) (a b : Lit) : Type 0 where
  pub first : Contains c a
  pub second : Contains c b
  pub left : HasOneLeft ms c a b
  pub before : IsFineBefore ms c a b

-- one of the clause's watches is true
abbrev pub HasTrueWatch : List Mark → Watched → ℕ → Type 0
HasTrueWatch ms w place =
    IsSet ms (watch_at w.links.watched.items (place * 2)) ⊎ IsSet ms (watch_at w.links.watched.items (place * 2 + 1))

-- the last mark makes the literal false, and its list is still to be gone over
pub record IsToVisit (w : Watched) (values : List Value) (ms : List Mark) (m : Mark) (code : ℕ) : Type 0 where
  pub sized : AreSized (length values) w
  pub linked : IsLinked w.links none []
  pub hit : IsHit values ms m code
  pub before : AreFineBefore (ms ++ m ∷ []) w.store w.links.watched.items
  pub good : w.conflict ≡ 0 → AreGood ms w.store w.links.watched.items w.waiting.list
  pub listed : (k : ℕ) → Contains w.waiting.list k → k < length w.store
  pub conflict : IsConflict (ms ++ m ∷ []) w.store w.conflict

-- the values are those of the trail
pub record AreRead (values : List Value) (ms : List Mark) : Type 0 where
  pub told : AreValues (length values) ms values
  pub apart : AreApart ms

-- the clause that was added last is watched by these literals, of which the first is left under the trail
pub record IsToLearn (n : ℕ) (w : Watched) (ms : List Mark) (first second : ℕ) : Type 0 where
  pub within : AreWithin n w.store
  pub some : 0 < length w.store
  pub slots : w.links.slots + 2 ≡ length w.store * 2
  pub room : length w.store ≤ w.waiting.room
  pub heads : length w.links.heads.items ≡ n * 2 + 2
  pub few : n < 2 ^ 31
  pub linked : IsLinked w.links none []
  pub next_room : w.links.slots + 2 ≤ length w.links.next.items
  pub watch_room : w.links.slots + 2 ≤ length w.links.watched.items
  pub few_slots : w.links.slots + 2 < none
  pub fine : (k : ℕ) → k + 1 < length w.store →
      IsFine ms (clause_in w.store k) (watch_at w.links.watched.items (k * 2)) (watch_at w.links.watched.items (k * 2 + 1))
  pub before : (k : ℕ) → k + 1 < length w.store →
      IsFineBefore ms (clause_in w.store k) (watch_at w.links.watched.items (k * 2)) (watch_at w.links.watched.items (k * 2 + 1))
  pub pair : MayWatch ms (clause_in w.store (length w.store - 1)) (literal_of first) (literal_of second)
