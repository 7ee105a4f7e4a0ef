-- Where numbers never fall along a reference, a node from which they rise lies on no cycle.
use Rattle.std.proofs.Common.{◌≡◌, ◌≢◌, ◌⊎◌, ℕ, ◌+◌, ◌<◌, ◌≤◌, List, [], ◌∷◌, length, get_or, sym, subst, inl, inr, arith, Option, None, Some}
use Rattle.std.specs.Prelude.{All, Contains}
use Rattle.std.proofs.lemmas.List.{get_or_past}
use Rattle.std.proofs.lemmas.List.Elements.{All-contains, Contains-get_or}
use Rattle.std.proofs.lemmas.Bool.{cases_lt, cases_eq}
use Rattle.node_order.specs.Graph.{refers_of, Refers}
use Rattle.node_order.specs.Walks.{WalksTo, IsOffCycles}
use Rattle.node_order.specs.Layers.{AddsNew}
use Rattle.node_order.specs.Rising.{number_at, Reach, FirstNeverFall, NeverFall, RisesFrom}
use Rattle.node_order.proofs.GraphLaws.{from_below, none_in}
use Rattle.node_order.proofs.LayerLaws.{none_some}

module _ (g : List (List ℕ)) (numbers : List (Option ℕ)) where
  along : NeverFall g numbers → (a b : ℕ) → Refers g a b → number_at numbers a ≤ number_at numbers b
  along never a b r = All-contains (λ (x : ℕ). number_at numbers a ≤ number_at numbers x) (refers_of g a) b (never a (from_below g a b r)) r

  -- no walk leads to a lower number
  climbs : NeverFall g numbers → (a : ℕ) (nodes : List ℕ) (b : ℕ) → WalksTo g a nodes b → number_at numbers a ≤ number_at numbers b
  climbs never a [] b w = subst (λ (x : ℕ). number_at numbers a ≤ number_at numbers x) w (omega arith)
  climbs never a (c ∷ nodes) b w = omega (arith, along never a c w.0, climbs never c nodes b w.1)

  pub off_cycles : NeverFall g numbers → (a : ℕ) → RisesFrom g numbers a → IsOffCycles g a
  off_cycles never a rises [] l w = absurd (omega (arith, l))
  off_cycles never a rises (c ∷ nodes) l w = absurd (omega (arith, All-contains (λ (x : ℕ). number_at numbers a < number_at numbers x) (refers_of g a) c rises w.0, climbs never c nodes a w.1))

  -- one node more
  pub never_more : (count : ℕ) → FirstNeverFall g numbers count → Reach numbers (number_at numbers count) (refers_of g count) → FirstNeverFall g numbers (count + 1)
  never_more count first here a l = by (cases_eq a count)
    where
      by : (a ≡ count) ⊎ (a ≢ count) → Reach numbers (number_at numbers a) (refers_of g a)
      by (inl e) = subst (λ (x : ℕ). Reach numbers (number_at numbers x) (refers_of g x)) (sym e) here
      by (inr n) = first a (omega (arith, l, n))

  pub never_all : (count : ℕ) → length g ≤ count → FirstNeverFall g numbers count → NeverFall g numbers
  never_all count l first a h = first a (omega (arith, l, h))

-- ---- numbering a part

-- a node that is given a number is one of those that numbers are for
pub added_below : (old new : List (Option ℕ)) (after nodes : List ℕ) (steps : ℕ) → AddsNew old new [] after nodes steps → All (λ a. a < length old) after
added_below old new after nodes steps adds k d l = by (cases_lt (get_or after k d) (length new)) ((adds.listed (get_or after k d)).0 (Contains-get_or after k d l))
  where
    by : (get_or after k d < length new) ⊎ (length new ≤ get_or after k d) → (Contains [] (get_or after k d) ⊎ ((get_or old (get_or after k d) None ≡ None) × (get_or new (get_or after k d) None ≡ Some steps))) → get_or after k d < length old
    by (inl h) c = omega (arith, h, adds.count)
    by (inr h) (inl c) = absurd (none_in (get_or after k d) c)
    by (inr h) (inr c) = absurd (none_some (get_or_past new (get_or after k d) None h) c.1)
