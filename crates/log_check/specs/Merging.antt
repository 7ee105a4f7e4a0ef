-- What the merge of two clauses keeps. No public contract cites this module.
use Rattle.std.specs.Prelude.{◌≡◌, ◌≢◌, ◌⊎◌, ℕ, ◌<◌, ◌≤◌, Bool, true, false, not, List, length, slice_index_or, take, Contains}
use Rattle.log_check.specs.declared.resolving.Next.{Next}
use Rattle.log_check.specs.declared.resolving.Next.TheVariants.{Left, Right, Same, Opposite}
use Rattle.ut_logic.specs.declared.literals.Lit.{Lit}
use Rattle.ut_logic.specs.Clauses.{IsOrdered}
use Rattle.log_check.specs.Resolution.{IsOppositeIn}

-- which list has the next literal, and whether both have it
abbrev pub IsNext : List Lit → List Lit → ℕ → ℕ → Next → Type 0
IsNext a b i j Left = (i < length a) × ((d e : Lit) → j < length b → (slice_index_or a i d).var < (slice_index_or b j e).var)
IsNext a b i j Right = (j < length b) × ((d e : Lit) → i < length a → (slice_index_or b j d).var < (slice_index_or a i e).var)
IsNext a b i j Same = (i < length a) × (j < length b) × ((d : Lit) → slice_index_or a i d ≡ slice_index_or b j d)
IsNext a b i j Opposite = (i < length a) × (j < length b) × ((d : Lit) → (slice_index_or a i d).var ≡ (slice_index_or b j d).var) × ((d : Lit) → (slice_index_or b j d).positive ≡ not (slice_index_or a i d).positive)

-- out is the first i literals of a and the first j of b, but the pivot's
pub record Merged (a b : List Lit) (pivot i j : ℕ) (out : List Lit) : Type 0 where
  pub left_in : i ≤ length a
  pub right_in : j ≤ length b
  pub ordered : IsOrdered out
  pub sound : (l : Lit) → Contains out l → (l.var ≢ pivot) × (Contains (take i a) l ⊎ Contains (take j b) l)
  pub left : (l : Lit) → l.var ≢ pivot → Contains (take i a) l → Contains out l
  pub right : (l : Lit) → l.var ≢ pivot → Contains (take j b) l → Contains out l
  pub below_left : (l d : Lit) → Contains (take j b) l → i < length a → l.var < (slice_index_or a i d).var
  pub below_right : (l d : Lit) → Contains (take i a) l → j < length b → l.var < (slice_index_or b j d).var

-- whether the pivot was met: in both lists with opposite signs, or not yet in the first
abbrev pub IsMet : List Lit → List Lit → ℕ → ℕ → Bool → Type 0
IsMet a b pivot i true = IsOppositeIn a b pivot
IsMet a b pivot i false = (l : Lit) → Contains (take i a) l → l.var ≢ pivot
