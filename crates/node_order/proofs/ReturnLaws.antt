-- The least of the shortest walks back, by the distances, and the first cycle.
use Rattle.std.proofs.Common.{◌≡◌, ◌⊎◌, ◌≢◌, ℕ, ◌+◌, ◌<◌, ◌≤◌, min, List, [], ◌∷◌, ◌++◌, length, get_or, Option, None, Some, refl, sym, ap, ◌∙◌, subst, inl, inr, ⊎_elim, arith}
use Rattle.std.specs.Prelude.{Contains}
use Rattle.std.proofs.lemmas.List.{length_push, append_assoc, nil_from_length}
use Rattle.std.proofs.lemmas.List.Elements.{Contains-append_left, Contains-push, Contains-push_cases}
use Rattle.std.proofs.lemmas.Bool.{cases_eq, cases_lt}
use Rattle.node_order.specs.Graph.{refers_of, Refers, IsReverse, IsCycle, IsAtMost, IsFirstCycle}
use Rattle.node_order.specs.Walks.{WalksTo, IsLed, HasCycle, IsOnCycle, IsOffCycles, NoneBelow, AreDistances, AreDistancesTo}
use Rattle.node_order.specs.Returns.{IsLeastOf, lesser_of, IsAway, IsAt, IsLeastWalk, IsLeastReturn, Returns}
use Rattle.node_order.proofs.GraphLaws.{none_in}
use Rattle.node_order.proofs.WalkLaws.{walk_push, walk_below, cycle_from_walk, walk_from_cycle, more_than_one, no_empty_cycle}
use Rattle.node_order.proofs.LayerLaws.{some_same}

-- ---- the least so far

-- of one more property, where both have their least
pub least_more : (P Q R : ℕ → Type 0) (a b : Option ℕ) → IsLeastOf P a → IsLeastOf Q b → ((x : ℕ) → P x → R x) → ((x : ℕ) → Q x → R x) → ((x : ℕ) → R x → P x ⊎ Q x) → IsLeastOf R (lesser_of a b)
least_more P Q R None None p q f h k = λ x r. ⊎_elim (p x) (q x) (k x r)
least_more P Q R None (Some y) p q f h k = (h y q.0, λ x r. ⊎_elim (λ i. absurd (p x i)) (λ i. q.1 x i) (k x r))
least_more P Q R (Some x) None p q f h k = (f x p.0, λ y r. ⊎_elim (λ i. p.1 y i) (λ i. absurd (q y i)) (k y r))
least_more P Q R (Some x) (Some y) p q f h k = (here (cases_lt x y), λ z r. ⊎_elim (λ i. omega (arith, p.1 z i)) (λ i. omega (arith, q.1 z i)) (k z r))
  where
    here : (x < y) ⊎ (y ≤ x) → R (min x y)
    here (inl l) = let e : min x y ≡ x = omega (arith, l) in subst R (sym e) (f x p.0)
    here (inr l) = let e : min x y ≡ y = omega (arith, l) in subst R (sym e) (h y q.0)

pub away_none : (found : List (Option ℕ)) → IsLeastOf (IsAway [] found) None
away_none found x (node, c, e) = none_in node c

pub at_none : (found : List (Option ℕ)) (steps : ℕ) → IsLeastOf (IsAt [] found steps) None
at_none found steps x (c, e) = none_in x c

one_away : (o : Option ℕ) → IsLeastOf (λ d. o ≡ Some d) o
one_away None = λ x e. cc
one_away (Some y) = (refl, λ x e. let s : y ≡ x = some_same y x e in omega arith)

pub away_more : (nodes : List ℕ) (found : List (Option ℕ)) (node : ℕ) (least : Option ℕ) → IsLeastOf (IsAway nodes found) least → IsLeastOf (IsAway (nodes ++ node ∷ []) found) (lesser_of least (get_or found node None))
away_more nodes found node least p = least_more (IsAway nodes found) (λ d. get_or found node None ≡ Some d) (IsAway (nodes ++ node ∷ []) found) least (get_or found node None) p (one_away (get_or found node None))
    (λ d (n, c, e). (n, Contains-append_left nodes (node ∷ []) n c, e))
    (λ d e. (node, Contains-push nodes node, e))
    (λ d (n, c, e). ⊎_elim (λ i. inl (n, i, e)) (λ i. inr (subst (λ (k : ℕ). get_or found k None ≡ Some d) (sym i) e)) (Contains-push_cases nodes node n c))

pub at_more : (nodes : List ℕ) (found : List (Option ℕ)) (node steps : ℕ) (least here : Option ℕ) → IsLeastOf (IsAt nodes found steps) least → IsLeastOf (λ x. (x ≡ node) × (get_or found node None ≡ Some steps)) here
    → IsLeastOf (IsAt (nodes ++ node ∷ []) found steps) (lesser_of least here)
at_more nodes found node steps least here p q = least_more (IsAt nodes found steps) (λ x. (x ≡ node) × (get_or found node None ≡ Some steps)) (IsAt (nodes ++ node ∷ []) found steps) least here p q
    (λ x (c, e). (Contains-append_left nodes (node ∷ []) x c, e))
    (λ x (i, e). (subst (Contains (nodes ++ node ∷ [])) (sym i) (Contains-push nodes node), subst (λ (k : ℕ). get_or found k None ≡ Some steps) (sym i) e))
    (λ x (c, e). ⊎_elim (λ i. inl (i, e)) (λ i. inr (sym i, subst (λ (k : ℕ). get_or found k None ≡ Some steps) (sym i) e)) (Contains-push_cases nodes node x c))

-- ---- walks turned round

turn : (g back : List (List ℕ)) → ((a b : ℕ) → Refers g a b → Refers back b a) → (a : ℕ) (nodes : List ℕ) (b : ℕ) → WalksTo g a nodes b → IsLed back (length nodes) b a
turn g back h a [] b w = ([], refl, sym w)
turn g back h a (c ∷ nodes) b w = let r = turn g back h c nodes b w.1 in (r.0 ++ a ∷ [], omega (arith, length_push r.0 a, r.1), walk_push back b r.0 c a r.2 (h a c w.0))

turn_led : (g back : List (List ℕ)) → ((a b : ℕ) → Refers g a b → Refers back b a) → (n a b : ℕ) → IsLed g n a b → IsLed back n b a
turn_led g back h n a b (nodes, e, w) = subst (λ (k : ℕ). IsLed back k b a) e (turn g back h a nodes b w)

pub distances_to : (g back : List (List ℕ)) (target : ℕ) (found : List (Option ℕ)) → IsReverse g back → AreDistances back target found → AreDistancesTo g target found
distances_to g back target found r d = record {
  count = d.count ∙ r.count;
  led = λ a n e. turn_led back g (λ x y. (r.turned x y).0) n target a (d.led a n e);
  least = λ a n w. d.least a n (turn_led g back (λ x y. (r.turned y x).1) n a target w);
}

-- ---- the least walk back

-- the walk so far makes each least walk from a on a least walk back to the target
abbrev pub Completes : List (List ℕ) → ℕ → ℕ → ℕ → ℕ → List ℕ → Type 0
Completes g target steps a left front = (nodes : List ℕ) → IsLeastWalk g a left nodes target
    → (all : List ℕ) × (front ++ nodes ≡ target ∷ all) × IsLeastWalk g target (steps + 1) all target

module _ (g : List (List ℕ)) (target : ℕ) (found : List (Option ℕ)) (d : AreDistancesTo g target found) where
  pub none_nearer : (a left : ℕ) → get_or found a None ≡ Some (left + 1) → (c n : ℕ) → Refers g a c → get_or found c None ≡ Some n → left ≤ n
  none_nearer a left e c n r f =
      let w = d.led c n f in
      let i = d.least a (n + 1) (c ∷ w.0, omega (arith, w.1), (r, w.2)) in
      let s : i.0 ≡ left + 1 = some_same i.0 (left + 1) (sym i.1 ∙ e) in
      omega (arith, i.2, s)

  pub next_of_away : (a left : ℕ) → get_or found a None ≡ Some (left + 1) → (c : ℕ) × IsAt (refers_of g a) found left c
  next_of_away a left e = let w = d.led a (left + 1) e in by w.0 w.1 w.2
    where
      by : (nodes : List ℕ) → length nodes ≡ left + 1 → WalksTo g a nodes target → (c : ℕ) × IsAt (refers_of g a) found left c
      by [] h w = absurd (omega (arith, h))
      by (c ∷ nodes) h w =
          let i = d.least c left (nodes, omega (arith, h), w.1) in
          let s : i.0 ≡ left = omega (arith, i.2, none_nearer a left e c i.0 w.0 i.1) in
          (c, (w.0, i.1 ∙ ap Some s))

  pub walk_at_target : (a : ℕ) → get_or found a None ≡ Some 0 → IsLeastWalk g a 0 [] target
  walk_at_target a e = let w = d.led a 0 e in record {
    count = refl;
    walk = subst (λ (nodes : List ℕ). WalksTo g a nodes target) (nil_from_length w.0 w.1) w.2;
    least = λ other v h. tt;
  }

  pub walk_more : (a b left : ℕ) (nodes : List ℕ) → ((c n : ℕ) → Refers g a c → get_or found c None ≡ Some n → left ≤ n) → IsLeastOf (IsAt (refers_of g a) found left) (Some b)
      → IsLeastWalk g b left nodes target → IsLeastWalk g a (left + 1) (b ∷ nodes) target
  walk_more a b left nodes far l w = record {
    count = omega (arith, w.count);
    walk = (l.0.0, w.walk);
    least = least;
  }
    where
      least : (other : List ℕ) → WalksTo g a other target → length other ≡ left + 1 → IsAtMost (b ∷ nodes) other
      least [] v h = absurd (omega (arith, h))
      least (c ∷ other) v h =
          let i = d.least c left (other, omega (arith, h), v.1) in
          let s : i.0 ≡ left = omega (arith, i.2, far c i.0 v.0 i.1) in
          by (cases_eq b c) (l.1 c (v.0, i.1 ∙ ap Some s))
        where
          by : (b ≡ c) ⊎ (b ≢ c) → b ≤ c → (b < c) ⊎ ((b ≡ c) × IsAtMost nodes other)
          by (inl e) m = inr (e, w.least other (subst (λ (k : ℕ). WalksTo g k other target) (sym e) v.1) (omega (arith, h)))
          by (inr n) m = inl (omega (arith, n, m))

  pub completes_first : (steps b : ℕ) → IsLeastOf (IsAway (refers_of g target) found) (Some steps) → IsLeastOf (IsAt (refers_of g target) found steps) (Some b)
      → Completes g target steps b steps (target ∷ b ∷ [])
  completes_first steps b m l nodes w = (b ∷ nodes, refl, walk_more target b steps nodes (λ c n r e. m.1 n (c, r, e)) l w)

  pub completes_more : (steps a b left : ℕ) (front : List ℕ) → Completes g target steps a (left + 1) front
      → get_or found a None ≡ Some (left + 1) → IsLeastOf (IsAt (refers_of g a) found left) (Some b)
      → Completes g target steps b left (front ++ b ∷ [])
  completes_more steps a b left front k e l nodes w =
      let r = k (b ∷ nodes) (walk_more a b left nodes (none_nearer a left e) l w) in
      (r.0, append_assoc front (b ∷ []) nodes ∙ r.1, r.2)

  pub completed : (steps : ℕ) (all : List ℕ) → IsLeastOf (IsAway (refers_of g target) found) (Some steps) → IsLeastWalk g target (steps + 1) all target → IsLeastReturn g target all
  completed steps all m w = record {
    some = omega (arith, w.count);
    walk = w.walk;
    shortest = shortest;
    least = λ other v h. w.least other v (h ∙ w.count);
  }
    where
      shortest : (other : List ℕ) → 0 < length other → WalksTo g target other target → length all ≤ length other
      shortest [] h v = absurd (omega (arith, h))
      shortest (c ∷ other) h v = let i = d.least c (length other) (other, refl, v.1) in omega (arith, w.count, i.2, m.1 i.0 (c, v.0, i.1))

  -- where nothing that the target refers to leads back, it lies on no cycle
  pub no_return : IsLeastOf (IsAway (refers_of g target) found) None → IsOffCycles g target
  no_return m [] h v = omega (arith, h)
  no_return m (c ∷ nodes) h v = let i = d.least c (length nodes) (nodes, refl, v.1) in m i.0 (c, v.0, i.1)

  -- where one of them leads back, it lies on a cycle
  pub some_return : (steps : ℕ) → IsLeastOf (IsAway (refers_of g target) found) (Some steps) → IsOnCycle g target
  some_return steps m =
      let w = d.led m.0.0 steps m.0.2 in
      (m.0.0 ∷ w.0, omega arith, (m.0.1, w.2))

-- ---- the first cycle

pub none_below_first : (g : List (List ℕ)) → NoneBelow g 0
none_below_first g = record { none = λ a h. absurd (omega (arith, h)) }

pub none_below_more : (g : List (List ℕ)) (node : ℕ) → NoneBelow g node → IsOffCycles g node → NoneBelow g (node + 1)
none_below_more g node n here = record { none = λ a h. by a h (cases_eq a node) }
  where
    by : (a : ℕ) → a < node + 1 → (a ≡ node) ⊎ (a ≢ node) → IsOffCycles g a
    by a h (inl e) nodes s w = here nodes s (subst (λ (k : ℕ). WalksTo g k nodes k) e w)
    by a h (inr d) nodes s w = n.none a (omega (arith, d, h)) nodes s w

pub some_below : (g : List (List ℕ)) (node : ℕ) → HasCycle g → length g ≤ node → NoneBelow g node → ⊥
some_below g node ([], c) h n = no_empty_cycle g c
some_below g node (a ∷ nodes, c) h n =
    let w = walk_from_cycle g a nodes c in
    let s = more_than_one g a nodes c in
    n.none a (omega (arith, h, walk_below g a nodes a s w)) nodes s w

pub first_from_return : (g : List (List ℕ)) (a : ℕ) (list : List ℕ) → NoneBelow g a → Returns g a list → IsFirstCycle g list
first_from_return g a list n (nodes, e, r) = subst (IsFirstCycle g) (sym e) (record {
  cycle = cycle_from_walk g a nodes r.some r.walk;
  first = first;
  shortest = shortest;
  least = least;
})
  where
    first : (other : List ℕ) → IsCycle g other → a ≤ get_or other 0 0
    first [] c = absurd (no_empty_cycle g c)
    first (b ∷ other) c = by (cases_lt b a)
      where
        by : (b < a) ⊎ (a ≤ b) → a ≤ b
        by (inl h) = absurd (n.none b h other (more_than_one g b other c) (walk_from_cycle g b other c))
        by (inr h) = h

    from_a : (b : ℕ) (other : List ℕ) → b ≡ a → IsCycle g (b ∷ other) → WalksTo g a other a
    from_a b other h c = subst (λ (k : ℕ). WalksTo g k other k) h (walk_from_cycle g b other c)

    shortest : (other : List ℕ) → IsCycle g other → get_or other 0 0 ≡ a → length (a ∷ nodes) ≤ length other
    shortest [] c h = absurd (no_empty_cycle g c)
    shortest (b ∷ other) c h = omega (arith, r.shortest other (more_than_one g b other c) (from_a b other h c))

    least : (other : List ℕ) → IsCycle g other → get_or other 0 0 ≡ a → length other ≡ length (a ∷ nodes) → IsAtMost (a ∷ nodes) other
    least [] c h l = absurd (no_empty_cycle g c)
    least (b ∷ other) c h l = inr (sym h, r.least other (from_a b other h c) (omega (arith, l)))

-- ---- a graph has one first cycle

both_ways : (xs ys : List ℕ) → length xs ≡ length ys → IsAtMost xs ys → IsAtMost ys xs → xs ≡ ys
both_ways [] [] h a b = refl
both_ways [] (y ∷ ys) h a b = absurd (omega (arith, h))
both_ways (x ∷ xs) [] h a b = absurd a
both_ways (x ∷ xs) (y ∷ ys) h (inl a) (inl b) = absurd (omega (arith, a, b))
both_ways (x ∷ xs) (y ∷ ys) h (inl a) (inr b) = absurd (omega (arith, a, b.0))
both_ways (x ∷ xs) (y ∷ ys) h (inr a) (inl b) = absurd (omega (arith, a.0, b))
both_ways (x ∷ xs) (y ∷ ys) h (inr a) (inr b) = let e = both_ways xs ys (omega (arith, h)) a.1 b.1 in let n = a.0 in cc

-- two first cycles of a graph are the same
pub one_first_cycle : (g : List (List ℕ)) (a b : List ℕ) → IsFirstCycle g a → IsFirstCycle g b → a ≡ b
one_first_cycle g a b p q =
    let begin : get_or a 0 0 ≡ get_or b 0 0 = omega (arith, p.first b q.cycle, q.first a p.cycle) in
    let len : length a ≡ length b = omega (arith, p.shortest b q.cycle (sym begin), q.shortest a p.cycle begin) in
    both_ways a b len (p.least b q.cycle (sym begin) (sym len)) (q.least a p.cycle begin len)
