-- What a graph refers to after one reference is added, and while each is turned round.
use Rattle.std.proofs.Common.{◌≡◌, ◌⊎◌, ◌↔◌, ◌≢◌, ℕ, ◌+◌, ◌<◌, ◌≤◌, ◌^◌, List, [], ◌∷◌, ◌++◌, length, get_or, set, map, replicate, refl, sym, ap, ◌∙◌, subst, inl, inr, ⊎_elim, arith, length-set}
use Rattle.std.specs.Prelude.{Contains, All}
use Rattle.std.specs.declared.vec.Vec.{Vec}
use Rattle.std.proofs.lemmas.List.{get_or-map, map-set, get_or-set_same, get_or-set_other, get_or_past, length-map, set-get_or, length-replicate, get_or-replicate}
use Rattle.std.proofs.lemmas.List.Elements.{Contains-append_left, Contains-get_or, Contains-push, Contains-push_cases}
use Rattle.std.proofs.lemmas.Bool.{cases_eq, cases_lt}
use Rattle.node_order.specs.Graph.{refers_of, Refers, IsGraph, IsReverse}
use Rattle.node_order.specs.Turning.{AddsEach}

module _ {Z : Type 0} where
  -- the list of a node, in the view
  pub list_at : (xs : List (Vec ℕ Z)) (g : List (List ℕ)) (a : ℕ) (v : Vec ℕ Z) → map (λ (v : Vec ℕ Z). v.items) xs ≡ g → a < length g → v ≡ get_or xs a v → v.items ≡ refers_of g a
  list_at xs g a v e h o =
      let l : a < length xs = subst (λ (k : ℕ). a < k) (sym (ap length e) ∙ length-map xs (λ (v : Vec ℕ Z). v.items)) h in
      ap (λ (v : Vec ℕ Z). v.items) o ∙ (sym (get_or-map (λ (v : Vec ℕ Z). v.items) xs a v [] l) ∙ ap (λ (t : List (List ℕ)). get_or t a []) e)

  -- the view, once a list has one more element
  pub view_more : (xs : List (Vec ℕ Z)) (g : List (List ℕ)) (from to : ℕ) (old new : Vec ℕ Z) → map (λ (v : Vec ℕ Z). v.items) xs ≡ g → from < length g → old ≡ get_or xs from old → new.items ≡ old.items ++ to ∷ []
      → map (λ (v : Vec ℕ Z). v.items) (set xs from new) ≡ set g from (refers_of g from ++ to ∷ [])
  view_more xs g from to old new e h o n =
      map-set (λ (v : Vec ℕ Z). v.items) xs from new ∙ (ap (λ (t : List (List ℕ)). set t from new.items) e
      ∙ ap (λ (t : List ℕ). set g from t) (n ∙ ap (λ (t : List ℕ). t ++ to ∷ []) (list_at xs g from old e h o)))

  -- the view, where the list has the same elements
  pub view_same : (xs : List (Vec ℕ Z)) (g : List (List ℕ)) (from : ℕ) (old new : Vec ℕ Z) → map (λ (v : Vec ℕ Z). v.items) xs ≡ g → from < length g → old ≡ get_or xs from old → new.items ≡ old.items
      → map (λ (v : Vec ℕ Z). v.items) (set xs from new) ≡ g
  view_same xs g from old new e h o n =
      map-set (λ (v : Vec ℕ Z). v.items) xs from new ∙ (ap (λ (t : List (List ℕ)). set t from new.items) e
      ∙ (ap (λ (t : List ℕ). set g from t) (n ∙ list_at xs g from old e h o) ∙ set-get_or g from []))

-- nothing is in the empty list
pub none_in : {X : Type 0} (x : X) → Contains [] x → ⊥
none_in x (k, h, e) = absurd (omega (arith, h))

-- only a node of the graph refers to any
pub from_below : (g : List (List ℕ)) (a b : ℕ) → Refers g a b → a < length g
from_below g a b r = by (cases_lt a (length g))
  where
    by : (a < length g) ⊎ (length g ≤ a) → a < length g
    by (inl h) = h
    by (inr h) = absurd (none_in b (subst (λ (t : List ℕ). Contains t b) (get_or_past g a [] h) r))

module _ (g : List (List ℕ)) (from to : ℕ) (h : from < length g) where
  -- what is referred to with one more reference
  pub refers_more : (a b : ℕ) → Refers (set g from (refers_of g from ++ to ∷ [])) a b ↔ (Refers g a b ⊎ ((a ≡ from) × (b ≡ to)))
  refers_more a b = by (cases_eq a from)
    where
      by : (a ≡ from) ⊎ (a ≢ from) → Refers (set g from (refers_of g from ++ to ∷ [])) a b ↔ (Refers g a b ⊎ ((a ≡ from) × (b ≡ to)))
      by (inl e) = (
        λ r. ⊎_elim (λ x. inl (subst (λ (n : ℕ). Refers g n b) (sym e) x)) (λ x. inr (e, sym x)) (Contains-push_cases (refers_of g from) to b (subst (λ (t : List ℕ). Contains t b) here r)),
        λ s. subst (λ (t : List ℕ). Contains t b) (sym here) (⊎_elim (λ x. Contains-append_left (refers_of g from) (to ∷ []) b (subst (λ (n : ℕ). Refers g n b) e x)) (λ p. subst (λ (n : ℕ). Contains (refers_of g from ++ to ∷ []) n) (sym p.1) (Contains-push (refers_of g from) to)) s),
      )
        where
          here : get_or (set g from (refers_of g from ++ to ∷ [])) a [] ≡ refers_of g from ++ to ∷ []
          here = ap (λ (n : ℕ). get_or (set g from (refers_of g from ++ to ∷ [])) n []) e ∙ get_or-set_same g from (refers_of g from ++ to ∷ []) [] h
      by (inr n) = (
        λ r. inl (subst (λ (t : List ℕ). Contains t b) there r),
        λ s. subst (λ (t : List ℕ). Contains t b) (sym there) (⊎_elim (λ x. x) (λ p. absurd (n p.0)) s),
      )
        where
          there : get_or (set g from (refers_of g from ++ to ∷ [])) a [] ≡ refers_of g a
          there = get_or-set_other g from a (refers_of g from ++ to ∷ []) [] n

  -- it is a graph still
  pub graph_more : IsGraph g → to < length g → IsGraph (set g from (refers_of g from ++ to ∷ []))
  graph_more w t = record {
    small = rw (length-set g from (refers_of g from ++ to ∷ [])) w.small;
    within = λ a b r. rw (length-set g from (refers_of g from ++ to ∷ [])) (⊎_elim (w.within a b) (λ p. subst (λ (n : ℕ). n < length g) (sym p.1) t) ((refers_more a b).0 r));
  }

none_of : (n a : ℕ) → get_or {A = List ℕ} (replicate n []) a [] ≡ []
none_of n a = by (cases_lt a n)
  where
    by : (a < n) ⊎ (n ≤ a) → get_or {A = List ℕ} (replicate n []) a [] ≡ []
    by (inl l) = get_or-replicate n a [] [] l
    by (inr l) = get_or_past (replicate n []) a [] (rw (length-replicate {A = List ℕ} n []) l)

-- a graph without references
pub graph_none : (n : ℕ) → n < 2 ^ 32 → IsGraph (replicate n [])
graph_none n h = record {
  small = rw (length-replicate {A = List ℕ} n []) h;
  within = λ a b r. absurd (none_in b (subst (λ (t : List ℕ). Contains t b) (none_of n a) r));
}

-- what is referred to is a node of the graph
pub all_within : (g : List (List ℕ)) (a : ℕ) → IsGraph g → All (λ b. b < length g) (refers_of g a)
all_within g a w k d h = w.within a (get_or (refers_of g a) k d) (Contains-get_or (refers_of g a) k d h)

-- ---- turned round

pub adds_none : (back : List (List ℕ)) (node : ℕ) → AddsEach back back node []
adds_none back node = record {
  count = refl;
  added = λ a b. (λ r. inl r, λ s. ⊎_elim (λ r. r) (λ p. absurd (none_in a p.0)) s);
}

-- one node more
pub adds_more : (old new : List (List ℕ)) (node from : ℕ) (nodes : List ℕ) → from < length new → AddsEach old new node nodes
    → AddsEach old (set new from (refers_of new from ++ node ∷ [])) node (nodes ++ from ∷ [])
adds_more old new node from nodes h w = record {
  count = length-set new from (refers_of new from ++ node ∷ []) ∙ w.count;
  added = λ a b. (
    λ r. ⊎_elim (λ q. ⊎_elim inl (λ p. inr (Contains-append_left nodes (from ∷ []) a p.0, p.1)) ((w.added a b).0 q)) (λ p. inr (subst (λ (n : ℕ). Contains (nodes ++ from ∷ []) n) (sym p.0) (Contains-push nodes from), p.1)) ((refers_more new from node h a b).0 r),
    λ s. (refers_more new from node h a b).1 (⊎_elim (λ q. inl ((w.added a b).1 (inl q))) (λ p. ⊎_elim (λ i. inl ((w.added a b).1 (inr (i, p.1)))) (λ e. inr (sym e, p.1)) (Contains-push_cases nodes from a p.0)) s),
  );
}

-- the references of the nodes before this one are turned round
pub record TurnsBelow (g back : List (List ℕ)) (node : ℕ) : Type 0 where
  pub count : length back ≡ length g
  pub turned : (a b : ℕ) → Refers back a b ↔ ((b < node) × Refers g b a)

pub turns_none : (g : List (List ℕ)) → TurnsBelow g (replicate (length g) []) 0
turns_none g = record {
  count = length-replicate {A = List ℕ} (length g) [];
  turned = λ a b. (λ r. absurd (none_in b (subst (λ (t : List ℕ). Contains t b) (none_of (length g) a) r)), λ p. absurd (omega (arith, p.0)));
}

pub turns_more : (g old new : List (List ℕ)) (node : ℕ) → TurnsBelow g old node → AddsEach old new node (refers_of g node) → TurnsBelow g new (node + 1)
turns_more g old new node t w = record {
  count = w.count ∙ t.count;
  turned = λ a b. (
    λ r. ⊎_elim (λ q. let p = (t.turned a b).0 q in (omega (arith, p.0), p.1)) (λ p. (omega (arith, p.1), subst (λ (n : ℕ). Refers g n a) (sym p.1) p.0)) ((w.added a b).0 r),
    λ p. (w.added a b).1 (by (cases_eq b node) p),
  );
}
  where
    by : {a b : ℕ} → (b ≡ node) ⊎ (b ≢ node) → (b < node + 1) × Refers g b a → Refers old a b ⊎ (Contains (refers_of g node) a × (b ≡ node))
    by {a} (inl e) p = inr (subst (λ (n : ℕ). Refers g n a) e p.1, e)
    by {a} {b} (inr n) p = inl ((t.turned a b).1 (omega (arith, n, p.0), p.1))

pub turns_all : (g back : List (List ℕ)) (node : ℕ) → length g ≤ node → TurnsBelow g back node → IsReverse g back
turns_all g back node h t = record {
  count = t.count;
  turned = λ a b. (λ r. ((t.turned a b).0 r).1, λ q. (t.turned a b).1 (omega (arith, from_below g b a q), q));
}
