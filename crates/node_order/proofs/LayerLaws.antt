-- What one more layer finds, and that in the end all distances are found.
use Rattle.std.proofs.Common.{true, false, eqb, ◌≡◌, ◌⊎◌, ◌↔◌, ◌≢◌, ℕ, zero, suc, ◌+◌, ◌<◌, ◌≤◌, List, [], ◌∷◌, ◌++◌, length, get_or, set, Option, None, Some, refl, sym, ap, ◌∙◌, subst, inl, inr, ⊎_elim, arith, replicate}
use Rattle.std.specs.Prelude.{Contains, All}
use Rattle.std.specs.List.{flat_map}
use Rattle.std.proofs.lemmas.List.{get_or-set_same, get_or-set_other, length-set, length_push, get_or_past, get_or-replicate, length-replicate}
use Rattle.std.proofs.lemmas.List.Elements.{Contains-get_or, Contains-append_left, Contains-append_right, Contains-append_cases, Contains-push, Contains-push_cases}
use Rattle.std.proofs.lemmas.Bool.{cases_eq, cases_lt}
use Rattle.std.proofs.lemmas.Bool.Decides.{Decides-eqb}
use Rattle.node_order.specs.Graph.{refers_of, Refers}
use Rattle.node_order.specs.Walks.{WalksTo, IsLed, IsWithin, AreDistances}
use Rattle.node_order.specs.Layers.{unknown_count, AddsNew, IsLayer}
use Rattle.node_order.proofs.GraphLaws.{none_in}
use Rattle.node_order.proofs.WalkLaws.{walk_push}

known_or : (o : Option ℕ) → (o ≡ None) ⊎ ((d : ℕ) × (o ≡ Some d))
known_or None = inl refl
known_or (Some d) = inr (d, refl)

pub some_same : (a b : ℕ) → Some a ≡ Some b → a ≡ b
some_same a b e = cc

pub none_some : {o : Option ℕ} {d : ℕ} → o ≡ None → o ≡ Some d → ⊥
none_some e f = cc

unknown_less : (found : List (Option ℕ)) (i d : ℕ) → i < length found → get_or found i None ≡ None → unknown_count (set found i (Some d)) + 1 ≡ unknown_count found
unknown_less [] i d h e = absurd (omega (arith, h))
unknown_less (None ∷ found) zero d h e = omega arith
unknown_less (Some x ∷ found) zero d h e = absurd (cc)
unknown_less (None ∷ found) (suc i) d h e = omega (arith, unknown_less found i d (omega (arith, h)) e)
unknown_less (Some x ∷ found) (suc i) d h e = unknown_less found i d (omega (arith, h)) e

-- ---- one node, and one after the other

pub adds_nothing : (found : List (Option ℕ)) (before : List ℕ) (steps : ℕ) → AddsNew found found before before [] steps
adds_nothing found before steps = record {
  count = refl;
  kept = λ a d e. e;
  given = λ a c. absurd (none_in a c);
  only = λ a d e. inl e;
  listed = λ a. (inl, λ s. ⊎_elim (λ c. c) (λ p. absurd (none_some p.0 p.1)) s);
  work = refl;
}

pub adds_known : (found : List (Option ℕ)) (before : List ℕ) (node d steps : ℕ) → get_or found node None ≡ Some d → AddsNew found found before before (node ∷ []) steps
adds_known found before node d steps h = record {
  count = refl;
  kept = λ a d e. e;
  given = λ a c. (d, subst (λ (n : ℕ). get_or found n None ≡ Some d) (one_in a c) h);
  only = λ a d e. inl e;
  listed = λ a. (inl, λ s. ⊎_elim (λ c. c) (λ p. absurd (none_some p.0 p.1)) s);
  work = refl;
}
  where
    one_in : (a : ℕ) → Contains (node ∷ []) a → node ≡ a
    one_in a c = ⊎_elim (λ n. absurd (none_in a n)) (λ e. e) (Contains-push_cases [] node a c)

pub adds_unknown : (found : List (Option ℕ)) (before : List ℕ) (node steps : ℕ) → node < length found → get_or found node None ≡ None
    → AddsNew found (set found node (Some steps)) before (before ++ node ∷ []) (node ∷ []) steps
adds_unknown found before node steps h n = record {
  count = length-set found node (Some steps);
  kept = λ a d e. kept a d e (cases_eq a node);
  given = λ a c. (steps, same a (sym (one_in a c)));
  only = λ a d e. only a d e (cases_eq a node);
  listed = λ a. listed a (cases_eq a node);
  work = omega (arith, unknown_less found node steps h n, length_push before node);
}
  where
    one_in : (a : ℕ) → Contains (node ∷ []) a → node ≡ a
    one_in a c = ⊎_elim (λ n. absurd (none_in a n)) (λ e. e) (Contains-push_cases [] node a c)

    same : (a : ℕ) → a ≡ node → get_or (set found node (Some steps)) a None ≡ Some steps
    same a e = ap (λ (k : ℕ). get_or (set found node (Some steps)) k None) e ∙ get_or-set_same found node (Some steps) None h

    other : (a : ℕ) → a ≢ node → get_or (set found node (Some steps)) a None ≡ get_or found a None
    other a e = get_or-set_other found node a (Some steps) None e

    none_at : (a : ℕ) → a ≡ node → get_or found a None ≡ None
    none_at a e = ap (λ (k : ℕ). get_or found k None) e ∙ n

    kept : (a d : ℕ) → get_or found a None ≡ Some d → (a ≡ node) ⊎ (a ≢ node) → get_or (set found node (Some steps)) a None ≡ Some d
    kept a d e (inl i) = absurd (none_some (none_at a i) e)
    kept a d e (inr i) = other a i ∙ e

    only : (a d : ℕ) → get_or (set found node (Some steps)) a None ≡ Some d → (a ≡ node) ⊎ (a ≢ node) → (get_or found a None ≡ Some d) ⊎ ((get_or found a None ≡ None) × (d ≡ steps) × Contains (node ∷ []) a)
    only a d e (inl i) = inr (none_at a i, some_same d steps (sym e ∙ same a i), subst (Contains (node ∷ [])) (sym i) (Contains-push [] node))
    only a d e (inr i) = inl (sym (other a i) ∙ e)

    listed : (a : ℕ) → (a ≡ node) ⊎ (a ≢ node) → Contains (before ++ node ∷ []) a ↔ (Contains before a ⊎ ((get_or found a None ≡ None) × (get_or (set found node (Some steps)) a None ≡ Some steps)))
    listed a (inl i) = (λ c. inr (none_at a i, same a i), λ s. subst (Contains (before ++ node ∷ [])) (sym i) (Contains-push before node))
    listed a (inr i) = (
      λ c. inl (⊎_elim (λ b. b) (λ e. absurd (i (sym e))) (Contains-push_cases before node a c)),
      λ s. ⊎_elim (λ b. Contains-append_left before (node ∷ []) a b) (λ p. absurd (none_some p.0 (sym (other a i) ∙ p.1))) s,
    )

module _ (old mid new : List (Option ℕ)) (before between after nodes more : List ℕ) (steps : ℕ) (p : AddsNew old mid before between nodes steps) (q : AddsNew mid new between after more steps) where
  was_none : (a : ℕ) → get_or mid a None ≡ None → get_or old a None ≡ None
  was_none a n = ⊎_elim (λ e. e) (λ s. absurd (none_some n (p.kept a s.0 s.1))) (known_or (get_or old a None))

  pub adds_then : AddsNew old new before after (nodes ++ more) steps
  adds_then = record {
    count = q.count ∙ p.count;
    kept = λ a d e. q.kept a d (p.kept a d e);
    given = λ a c. ⊎_elim (λ i. let r = p.given a i in (r.0, q.kept a r.0 r.1)) (λ i. q.given a i) (Contains-append_cases nodes more a c);
    only = only;
    listed = λ a. (to a, from a);
    work = omega (arith, p.work, q.work);
  }
    where
      only : (a d : ℕ) → get_or new a None ≡ Some d → (get_or old a None ≡ Some d) ⊎ ((get_or old a None ≡ None) × (d ≡ steps) × Contains (nodes ++ more) a)
      only a d e = ⊎_elim
          (λ m. ⊎_elim inl (λ r. inr (r.0, r.1, Contains-append_left nodes more a r.2)) (p.only a d m))
          (λ r. inr (was_none a r.0, r.1, Contains-append_right nodes more a r.2))
          (q.only a d e)

      to : (a : ℕ) → Contains after a → Contains before a ⊎ ((get_or old a None ≡ None) × (get_or new a None ≡ Some steps))
      to a c = ⊎_elim
          (λ b. ⊎_elim inl (λ r. inr (r.0, q.kept a steps r.1)) ((p.listed a).0 b))
          (λ r. inr (was_none a r.0, r.1))
          ((q.listed a).0 c)

      from : (a : ℕ) → Contains before a ⊎ ((get_or old a None ≡ None) × (get_or new a None ≡ Some steps)) → Contains after a
      from a (inl b) = (q.listed a).1 (inl ((p.listed a).1 (inl b)))
      from a (inr r) = by (known_or (get_or mid a None))
        where
          by : (get_or mid a None ≡ None) ⊎ ((d : ℕ) × (get_or mid a None ≡ Some d)) → Contains after a
          by (inl n) = (q.listed a).1 (inr (n, r.1))
          by (inr s) = let e : Some s.0 ≡ Some steps = sym (q.kept a s.0 s.1) ∙ r.1 in (q.listed a).1 (inl ((p.listed a).1 (inr (r.0, s.1 ∙ e))))

-- ---- one layer more

later : {X : Type 0} (x : X) (xs : List X) (a : X) → Contains xs a → Contains (x ∷ xs) a
later x xs a (k, h, e) = (suc k, omega (arith, h), e)

head_or_later : {X : Type 0} (x : X) (xs : List X) (a : X) → Contains (x ∷ xs) a → (x ≡ a) ⊎ Contains xs a
head_or_later x xs a (zero, h, e) = inl e
head_or_later x xs a (suc k, h, e) = inr (k, omega (arith, h), e)

pub from_flat_map : (f : ℕ → List ℕ) (xs : List ℕ) (a : ℕ) → Contains (flat_map f xs) a → (b : ℕ) × Contains xs b × Contains (f b) a
from_flat_map f [] a c = absurd (none_in a c)
from_flat_map f (x ∷ xs) a c = ⊎_elim (λ i. (x, (0, omega arith, refl), i)) (λ i. let r = from_flat_map f xs a i in (r.0, later x xs r.0 r.1, r.2)) (Contains-append_cases (f x) (flat_map f xs) a c)

pub in_flat_map : (f : ℕ → List ℕ) (xs : List ℕ) (b a : ℕ) → Contains xs b → Contains (f b) a → Contains (flat_map f xs) a
in_flat_map f [] b a c i = absurd (none_in b c)
in_flat_map f (x ∷ xs) b a c i = ⊎_elim (λ e. Contains-append_left (f x) (flat_map f xs) a (subst (λ (n : ℕ). Contains (f n) a) (sym e) i)) (λ l. Contains-append_right (f x) (flat_map f xs) a (in_flat_map f xs b a l i)) (head_or_later x xs b c)

pub led_more : (g : List (List ℕ)) (n a b c : ℕ) → IsLed g n a b → Refers g b c → IsLed g (n + 1) a c
led_more g n a b c (nodes, e, w) r = (nodes ++ c ∷ [], omega (arith, length_push nodes c, e), walk_push g a nodes b c w r)

within_kept : (old new : List (Option ℕ)) (before after nodes : List ℕ) (steps a n : ℕ) → AddsNew old new before after nodes steps → IsWithin old a n → IsWithin new a n
within_kept old new before after nodes steps a n p w = (w.0, p.kept a w.0 w.1, w.2)

pub layer_more : (g : List (List ℕ)) (start : ℕ) (old new : List (Option ℕ)) (layer next : List ℕ) (steps : ℕ) → IsLayer g start old layer steps
    → AddsNew old new [] next (flat_map (refers_of g) layer) (steps + 1) → IsLayer g start new next (steps + 1)
layer_more g start old new layer next steps l p = record {
  count = p.count ∙ l.count;
  begins = p.kept start 0 l.begins;
  led = λ a d e. led a d (p.only a d e);
  bound = bound;
  near = λ a b d e h r. near a b d r (p.only a d e) h (cases_lt d steps);
  listed = λ a. (λ e. (p.listed a).1 (inr (fresh a (p.only a (steps + 1) e), e)), λ c. ⊎_elim (λ n. absurd (none_in a n)) (λ r. r.1) ((p.listed a).0 c));
}
  where
    led : (a d : ℕ) → (get_or old a None ≡ Some d) ⊎ ((get_or old a None ≡ None) × (d ≡ steps + 1) × Contains (flat_map (refers_of g) layer) a) → IsLed g d start a
    led a d (inl e) = l.led a d e
    led a d (inr r) = let s = from_flat_map (refers_of g) layer a r.2 in
        subst (λ (n : ℕ). IsLed g n start a) (sym r.1) (led_more g steps start s.0 a (l.led s.0 steps ((l.listed s.0).1 s.1)) s.2)

    bound : (a d : ℕ) → get_or new a None ≡ Some d → d ≤ steps + 1
    bound a d e = ⊎_elim (λ o. omega (arith, l.bound a d o)) (λ r. omega (arith, r.1)) (p.only a d e)

    near : (a b d : ℕ) → Refers g a b → (get_or old a None ≡ Some d) ⊎ ((get_or old a None ≡ None) × (d ≡ steps + 1) × Contains (flat_map (refers_of g) layer) a) → d < steps + 1
        → (d < steps) ⊎ (steps ≤ d) → IsWithin new b (d + 1)
    near a b d r (inl o) h (inl low) = within_kept old new [] next (flat_map (refers_of g) layer) (steps + 1) b (d + 1) p (l.near a b d o low r)
    near a b d r (inl o) h (inr high) = let e : d ≡ steps = omega (arith, h, high) in let i = in_flat_map (refers_of g) layer a b ((l.listed a).0 (o ∙ ap Some e)) r in
        let v = p.given b i in (v.0, v.1, omega (arith, bound b v.0 v.1, e))
    near a b d r (inr n) h s = absurd (omega (arith, n.1, h))

    fresh : (a : ℕ) → (get_or old a None ≡ Some (steps + 1)) ⊎ ((get_or old a None ≡ None) × (steps + 1 ≡ steps + 1) × Contains (flat_map (refers_of g) layer) a) → get_or old a None ≡ None
    fresh a (inl o) = absurd (omega (arith, l.bound a (steps + 1) o))
    fresh a (inr n) = n.0

-- ---- the first layer and the last

pub layer_first : (g : List (List ℕ)) (start : ℕ) → start < length g → IsLayer g start (set (replicate (length g) None) start (Some 0)) (start ∷ []) 0
layer_first g start h = record {
  count = length-set (replicate (length g) None) start (Some 0) ∙ length-replicate (length g) None;
  begins = at_start start refl;
  led = λ a d e. led a d e (cases_eq a start);
  bound = λ a d e. bound a d e (cases_eq a start);
  near = λ a b d e l r. absurd (omega (arith, l));
  listed = λ a. listed a (cases_eq a start);
}
  where
    h' : start < length {A = Option ℕ} (replicate (length g) None)
    h' = rw (length-replicate {A = Option ℕ} (length g) None) h

    at_start : (a : ℕ) → a ≡ start → get_or {A = Option ℕ} (set (replicate (length g) None) start (Some 0)) a None ≡ Some 0
    at_start a e = ap (λ (k : ℕ). get_or (set (replicate (length g) None) start (Some 0)) k None) e ∙ get_or-set_same (replicate (length g) None) start (Some 0) None h'

    elsewhere : (a : ℕ) → a ≢ start → get_or {A = Option ℕ} (set (replicate (length g) None) start (Some 0)) a None ≡ None
    elsewhere a n = get_or-set_other (replicate (length g) None) start a (Some 0) None n ∙ by (cases_lt a (length g))
      where
        by : (a < length g) ⊎ (length g ≤ a) → get_or {A = Option ℕ} (replicate (length g) None) a None ≡ None
        by (inl l) = get_or-replicate (length g) a None None l
        by (inr l) = get_or_past (replicate (length g) None) a None (rw (length-replicate {A = Option ℕ} (length g) None) l)

    led : (a d : ℕ) → get_or {A = Option ℕ} (set (replicate (length g) None) start (Some 0)) a None ≡ Some d → (a ≡ start) ⊎ (a ≢ start) → IsLed g d start a
    led a d e (inl i) = ([], some_same 0 d (sym (at_start a i) ∙ e), sym i)
    led a d e (inr n) = absurd (none_some (elsewhere a n) e)

    bound : (a d : ℕ) → get_or {A = Option ℕ} (set (replicate (length g) None) start (Some 0)) a None ≡ Some d → (a ≡ start) ⊎ (a ≢ start) → d ≤ 0
    bound a d e (inl i) = omega (arith, some_same 0 d (sym (at_start a i) ∙ e))
    bound a d e (inr n) = absurd (none_some (elsewhere a n) e)

    listed : (a : ℕ) → (a ≡ start) ⊎ (a ≢ start) → (get_or {A = Option ℕ} (set (replicate (length g) None) start (Some 0)) a None ≡ Some 0) ↔ Contains (start ∷ []) a
    listed a (inl i) = (λ e. (0, omega arith, sym i), λ c. at_start a i)
    listed a (inr n) = (λ e. absurd (none_some (elsewhere a n) e), λ c. absurd (⊎_elim (λ e. n (sym e)) (none_in a) (head_or_later start [] a c)))

-- a walk leads no further than its steps
onward : (g : List (List ℕ)) (start : ℕ) (found : List (Option ℕ)) (steps : ℕ) → IsLayer g start found [] steps → (a : ℕ) (nodes : List ℕ) (b m : ℕ) → IsWithin found a m → WalksTo g a nodes b → IsWithin found b (m + length nodes)
onward g start found steps l a [] b m w e = (w.0, subst (λ (n : ℕ). get_or found n None ≡ Some w.0) e w.1, omega (arith, w.2))
onward g start found steps l a (c ∷ nodes) b m w r =
    let low : w.0 < steps = by (cases_eq w.0 steps) in
    let n = l.near a c w.0 w.1 low r.0 in
    let o = onward g start found steps l c nodes b (m + 1) (n.0, n.1, omega (arith, n.2, w.2)) r.1 in
    (o.0, o.1, omega (arith, o.2))
  where
    by : (w.0 ≡ steps) ⊎ (w.0 ≢ steps) → w.0 < steps
    by (inl e) = absurd (none_in a ((l.listed a).0 (w.1 ∙ ap Some e)))
    by (inr n) = omega (arith, n, l.bound a w.0 w.1)

pub layer_last : (g : List (List ℕ)) (start : ℕ) (found : List (Option ℕ)) (steps : ℕ) → IsLayer g start found [] steps → AreDistances g start found
layer_last g start found steps l = record {
  count = l.count;
  led = l.led;
  least = λ a n w. let o = onward g start found steps l start w.0 a 0 (0, l.begins, omega arith) w.2 in (o.0, o.1, omega (arith, o.2, w.1));
}

pub unknown_at_first : (n : ℕ) → unknown_count (replicate n None) ≡ n
unknown_at_first zero = refl
unknown_at_first (suc n) = omega (arith, unknown_at_first n)

pub few_at_first : (n start : ℕ) → start < n → unknown_count (set (replicate n None) start (Some 0)) + 1 ≡ n
few_at_first n start h = unknown_less (replicate n None) start 0 (rw (length-replicate {A = Option ℕ} n None) h) (get_or-replicate n start None None h) ∙ unknown_at_first n

-- the nodes of a layer are nodes of the graph
pub layer_below : (g : List (List ℕ)) (start : ℕ) (found : List (Option ℕ)) (layer : List ℕ) (steps : ℕ) → IsLayer g start found layer steps → All (λ a. a < length g) layer
layer_below g start found layer steps l k d h = by (cases_lt (get_or layer k d) (length found))
  where
    by : (get_or layer k d < length found) ⊎ (length found ≤ get_or layer k d) → get_or layer k d < length g
    by (inl i) = omega (arith, i, l.count)
    by (inr i) = absurd (none_some (get_or_past found (get_or layer k d) None i) ((l.listed (get_or layer k d)).1 (Contains-get_or layer k d h)))

pub layer_few : (n steps old new : ℕ) (layer next : List ℕ) → steps + old + length layer ≤ n → new + length next ≡ old + 0 → false ≡ eqb (length layer) 0 → steps + 1 + new + length next ≤ n
layer_few n steps old new [] next h w t = absurd (cc)
layer_few n steps old new (x ∷ layer) next h w t = omega (arith, h, w)

pub none_left : (layer : List ℕ) → true ≡ eqb (length layer) 0 → layer ≡ []
none_left [] t = refl
none_left (x ∷ layer) t = absurd (omega (arith, (Decides-eqb (length (x ∷ layer)) 0).0 (sym t)))
