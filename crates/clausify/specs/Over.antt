-- A clause form in terms of truths of items, with nothing said of items off its list: its models are the truths of items
-- that meet facts and wish, each extended in one way. And the least such truths, where false comes before true and the
-- first item that differs decides. The order is this project's rule.
use Rattle.std.specs.Prelude.{◌≡◌, ◌⊎◌, ℕ, ◌+◌, ◌<◌, ◌≤◌, Bool, true, false, List, length, slice_index_or}
use Rattle.ut_logic.specs.declared.item.Item.{Item}
use Rattle.ut_logic.specs.declared.literals.Lit.{Lit}
use Rattle.ut_logic.specs.declared.formula.Formula.{Formula}
use Rattle.ut_logic.specs.declared.facts.Fact.{Fact}
use Rattle.ut_logic.specs.Clauses.{IsModel}
use Rattle.clausify.specs.Meaning.{AreMet}

-- the values give the variable of each item its truth
abbrev pub Reads : List Item → (ℕ → Bool) → (Item → Bool) → Type 0
Reads items w v = (k : ℕ) (d : Item) → k < length items → w (k + 1) ≡ v (slice_index_or items k d)

-- the values agree on the variables up to n
abbrev pub AgreeUpTo : ℕ → (ℕ → Bool) → (ℕ → Bool) → Type 0
AgreeUpTo n w u = (x : ℕ) → 0 < x → x ≤ n → w x ≡ u x

-- a model gives truths that meet facts and wish; truths that meet them are those of a model; and of one model alone
pub record StandsOver (items : List Item) (facts : List Fact) (wish : List Formula) (vars : ℕ) (clauses : List (List Lit)) : Type 0 where
  pub sound : (w : ℕ → Bool) (v : Item → Bool) → IsModel w clauses → Reads items w v → AreMet v facts wish
  pub complete : (v : Item → Bool) → AreMet v facts wish → (w : ℕ → Bool) × Reads items w v × IsModel w clauses
  pub one : (w u : ℕ → Bool) → IsModel w clauses → IsModel u clauses → AgreeUpTo (length items) w u → AgreeUpTo vars w u

-- of the variables up to n there is one at which w is false and u is true, and they agree on those before it
abbrev pub ComesBefore : ℕ → (ℕ → Bool) → (ℕ → Bool) → Type 0
ComesBefore n w u = (x : ℕ) × (0 < x) × (x ≤ n) × (w x ≡ false) × (u x ≡ true) × ((y : ℕ) → 0 < y → y < x → w y ≡ u y)

-- the same truths of the items
abbrev pub SameOn : List Item → (Item → Bool) → (Item → Bool) → Type 0
SameOn items v u = (k : ℕ) (d : Item) → k < length items → v (slice_index_or items k d) ≡ u (slice_index_or items k d)

-- there is an item at which v is false and u is true, and they agree on those before it
abbrev pub IsEarlier : List Item → (Item → Bool) → (Item → Bool) → Type 0
IsEarlier items v u = (k : ℕ) × (k < length items) × ((d : Item) → v (slice_index_or items k d) ≡ false) × ((d : Item) → u (slice_index_or items k d) ≡ true)
    × ((j : ℕ) (d : Item) → j < k → v (slice_index_or items j d) ≡ u (slice_index_or items j d))

-- v meets facts and wish, and no other truths of the items that do come before it
pub record IsLeastOver (items : List Item) (facts : List Fact) (wish : List Formula) (v : Item → Bool) : Type 0 where
  pub met : AreMet v facts wish
  pub least : (u : Item → Bool) → AreMet u facts wish → SameOn items v u ⊎ IsEarlier items v u
