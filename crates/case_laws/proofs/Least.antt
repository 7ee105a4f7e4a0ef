-- The least model of a question's clauses gives the least truths of its items.
use Rattle.std.proofs.Common.{◌≡◌, zero, suc, Bool, true, false, ◌||◌, List, [], ◌∷◌, ◌++◌, refl, ap, ◌∙◌, ◌⊎◌, inl, inr, arith}
use Rattle.ut_logic.specs.declared.item.Item.{Item}
use Rattle.ut_logic.specs.Assign.{is_in}
use Rattle.ut_logic.specs.Item.{item_eq}
use Rattle.ut_logic.specs.ItemIdentity.{item_eq-Decides}
use Rattle.clausify.specs.Over.{SameOn, IsEarlier}
use Rattle.clausify.proofs.OverLaws.{least_over}
use Rattle.ut_case.specs.Facts.{rules_for}
use Rattle.ut_case.specs.Laws as law
use Rattle.ut_case.specs.Least.{IsAtMost}
use Rattle.ut_case.specs.Needs.{needed_facts, wish_of}
use Rattle.case_laws.proofs.Over.{met_here, met_there, over_there}

-- ---- the order of truths

-- by places or from the front
same_at_most : (items : List Item) (v u : Item → Bool) → SameOn items v u → IsAtMost items v u
same_at_most [] v u h = tt
same_at_most (i ∷ is) v u h = inr (h 0 i (omega arith), same_at_most is v u (λ k d l. h (suc k) d (omega (arith, l))))

earlier_at_most : (items : List Item) (v u : Item → Bool) → IsEarlier items v u → IsAtMost items v u
earlier_at_most [] v u h = tt
earlier_at_most (i ∷ is) v u (zero, l, off, on, before) = inl (off i, on i)
earlier_at_most (i ∷ is) v u (suc k, l, off, on, before) = inr (before 0 i (omega arith), earlier_at_most is v u (k, omega arith, off, on, λ j d g. before (suc j) d (omega (arith, g))))

pub at_most : (items : List Item) (v u : Item → Bool) → SameOn items v u ⊎ IsEarlier items v u → IsAtMost items v u
at_most items v u (inl h) = same_at_most items v u h
at_most items v u (inr h) = earlier_at_most items v u h

-- the first item, and the later ones, are in the list
here : (i : Item) (is : List Item) → is_in (i ∷ is) i ≡ true
here i is = ap (λ b. b || is_in is i) ((item_eq-Decides i i).1 refl)

there : (j i : Item) (is : List Item) → is_in is i ≡ true → is_in (j ∷ is) i ≡ true
there j i is h = by (item_eq j i)
  where
    by : (b : Bool) → (b || is_in is i) ≡ true
    by true = refl
    by false = h

-- other truths that are the same on the items
pub at_most_as : (items : List Item) (v w u : Item → Bool) → law.SameOn items w v → IsAtMost items v u → IsAtMost items w u
at_most_as [] v w u same h = tt
at_most_as (i ∷ is) v w u same (inl h) = inl (same i (here i is) ∙ h.0, h.1)
at_most_as (i ∷ is) v w u same (inr h) = inr (same i (here i is) ∙ h.0, at_most_as is v w u (λ j g. same j (there i j is g)) h.1)

-- ---- the least

pub least_met : law.LeastModelsAreLeast
least_met p q nodes items vars clauses w v over room model reads =
    let facts = needed_facts p q nodes in
    let both = rules_for q.family p.basis ++ wish_of p q in
    let r = least_over items facts both vars clauses w v (over_there p q nodes items vars clauses over) room model.model model.least reads in
    record { met = met_here p q nodes v r.met; least = λ u m. at_most items v u (r.least u (met_there p q nodes u m)) }
