-- Places that wait to be looked at. No public contract cites this module.
use Rattle.std.specs.Prelude.{◌≡◌, ◌↔◌, ℕ, ◌<◌, ◌≤◌, Bool, true, List, [], ◌∷◌, length, take, slice_index_or, All, Contains}

-- how many places there are, and those that wait
pub record WaitingView : Type 0 where
  pub room : ℕ
  pub list : List ℕ

-- no number stands twice in the list
abbrev pub HasOnce : List ℕ → Type 0
HasOnce [] = Unit {0}
HasOnce (s ∷ ss) = (¬ Contains ss s) × HasOnce ss

-- the first so many places are different and below the room, and the flags are theirs
pub record AreWaiting (places : List ℕ) (listed : List Bool) (count : ℕ) : Type 0 where
  pub room : length listed ≤ length places
  pub within : count ≤ length places
  pub below : All (λ place. place < length listed) (take count places)
  pub once : HasOnce (take count places)
  pub flags : (k : ℕ) (d : Bool) → k < length listed → (slice_index_or listed k d ≡ true) ↔ Contains (take count places) k
