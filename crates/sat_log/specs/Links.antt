-- The lists of the slots that watch each literal. No public contract cites this module.
use Rattle.std.specs.Prelude.{◌≡◌, ℕ, ◌<◌, ◌≤◌, List, [], ◌∷◌, length, slice_index, All, Contains}
use Rattle.sat_log.specs.declared.links.Links.{Links}
use Rattle.sat_log.specs.Stores.{GrowsBy}
use Rattle.sat_log.specs.Waiting.{HasOnce}

-- what stands where no slot follows
abbrev pub none : ℕ
none = 4294967295

-- from the first slot on the list is linked by what stands at each slot
abbrev pub IsChain : List ℕ → ℕ → List ℕ → Type 0
IsChain next first [] = first ≡ none
IsChain next first (s ∷ ss) = (first ≡ s) × IsChain next (slice_index next s) ss

-- the slots of a list that starts here are those that watch the literal, but for those of a list that was taken off
pub record IsListOf (watched next : List ℕ) (slots : ℕ) (off : List ℕ) (code first : ℕ) (list : List ℕ) : Type 0 where
  pub chain : IsChain next first list
  pub once : HasOnce list
  pub sound : (s : ℕ) → Contains list s → (s < slots) × (slice_index watched s ≡ code) × (¬ Contains off s)
  pub complete : (s : ℕ) → s < slots → slice_index watched s ≡ code → ¬ Contains off s → Contains list s

-- each literal has its list, and a list that was taken off begins at a slot
pub record AreLinked (watched heads next : List ℕ) (slots first : ℕ) (off : List ℕ) : Type 0 where
  pub chain : IsChain next first off
  pub once : HasOnce off
  pub inside : (s : ℕ) → Contains off s → s < slots
  pub room : slots ≤ length next
  pub watch_room : slots ≤ length watched
  pub few : slots < none
  pub lists : (code : ℕ) → code < length heads → (list : List ℕ) × IsListOf watched next slots off code (slice_index heads code) list

abbrev pub IsLinked : Links → ℕ → List ℕ → Type 0
IsLinked l first off = AreLinked l.watched.items l.heads.items l.next.items l.slots first off

-- there is more room behind the slots, or as much
pub record HasGrown (l l' : Links) : Type 0 where
  pub watched : GrowsBy l.watched.items l'.watched.items
  pub next : GrowsBy l.next.items l'.next.items
  pub heads : l'.heads.items ≡ l.heads.items
  pub slots : l'.slots ≡ l.slots

-- the slots that watch the literal are a list that was taken off
pub record IsTaken (l l' : Links) (code first : ℕ) : Type 0 where
  pub off : (list : List ℕ) × IsLinked l' first list
      × ((s : ℕ) → Contains list s → slice_index l.watched.items s ≡ code)
      × ((s : ℕ) → s < l.slots → slice_index l.watched.items s ≡ code → Contains list s)
  pub watched : l'.watched.items ≡ l.watched.items
  pub slots : l'.slots ≡ l.slots
  pub heads : length l'.heads.items ≡ length l.heads.items
