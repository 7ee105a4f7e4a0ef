-- An order lets each node be settled after all that it refers to. What a node is, what it holds and what
-- makes it right is left open here.
use Rattle.std.proofs.Common.{◌≡◌, Bool, true, false, ◌||◌, cond, List, [], ◌∷◌, refl, ap, sym, ◌∙◌, subst}
use Rattle.std.specs.List.{list_any}

or_left : (a b : Bool) → a ≡ true → (a || b) ≡ true
or_left true b h = refl
or_left false b h = absurd (cc)

or_right : (a b : Bool) → b ≡ true → (a || b) ≡ true
or_right true b h = refl
or_right false b h = h

module _ {N : Type 0} (eq : N → N → Bool) where
  -- one of the list is this one
  abbrev pub among : List N → N → Bool
  among ns n = list_any (λ m. eq m n) ns

  -- all of the one are in the other
  abbrev pub Within : List N → List N → Type 0
  Within ms ns = (m : N) → among ms m ≡ true → among ns m ≡ true

-- after those that stand before: each once, and after all that it refers to
abbrev pub Ordered : {N : Type 0} (eq : N → N → Bool) (refers : N → List N) → List N → List N → Type 0
Ordered eq refers there [] = Unit {0}
Ordered eq refers there (n ∷ ns) = (among eq there n ≡ false) × Within eq (refers n) there × Ordered eq refers (n ∷ there) ns

-- what a kind of node needs: an equality, and laws of its own
pub record Settles {N C : Type 0} (eq : N → N → Bool) (refers : N → List N) (Right : C → N → Type 0) (Keeps : C → C → N → Type 0) (settle : C → N → C) : Type 0 where
  pub eq_is : (m n : N) → eq m n ≡ true → m ≡ n
  pub eq_self : (n : N) → eq n n ≡ true
  -- settling one node makes it right, whatever the others hold
  pub settled : (c : C) (n : N) → among eq (refers n) n ≡ false → Right (settle c n) n
  -- and changes no other node
  pub apart : (c : C) (n m : N) → eq n m ≡ false → Keeps c (settle c n) m
  -- a right node stays right while it and what it refers to keep their values
  pub stays : (c d : C) (n : N) → Keeps c d n → ((m : N) → among eq (refers n) m ≡ true → Keeps c d m) → Right c n → Right d n
  pub same : (c : C) (n : N) → Keeps c c n
  pub then : (b c d : C) (n : N) → Keeps b c n → Keeps c d n → Keeps b d n

-- all of the order that aren't known are settled, one after another
abbrev pub settle_all : {N C : Type 0} (settle : C → N → C) (known : N → Bool) → C → List N → C
settle_all settle known c [] = c
settle_all settle known c (n ∷ ns) = settle_all settle known (cond (known n) c (settle c n)) ns

module _ {N C : Type 0} (eq : N → N → Bool) (refers : N → List N) (Right : C → N → Type 0) (Keeps : C → C → N → Type 0) (settle : C → N → C)
    (law : Settles eq refers Right Keeps settle) (known : N → Bool) where
  abbrev done : List N → N → Bool
  done there n = among eq there n || known n

  -- those that are there or known are right, and refer to such alone
  record Good (there : List N) (c : C) : Type 0 where
    right : (n : N) → done there n ≡ true → Right c n
    closed : (n : N) → done there n ≡ true → (m : N) → among eq (refers n) m ≡ true → done there m ≡ true

  differ : (m n : N) (p : N → Bool) → p m ≡ true → p n ≡ false → eq n m ≡ false
  differ m n p h g = by (eq n m) refl
    where
      by : (b : Bool) → eq n m ≡ b → b ≡ false
      by false e = refl
      by true e = sym h ∙ (ap p (sym (law.eq_is n m e)) ∙ g)

  -- one more that is known
  known_more : (there : List N) (c : C) (n : N) → known n ≡ true → Good there c → Good (n ∷ there) c
  known_more there c n k g = record {
    right = λ m h. g.right m (before m h);
    closed = λ m h j i. after j (g.closed m (before m h) j i);
  }
    where
      before : (m : N) → done (n ∷ there) m ≡ true → done there m ≡ true
      before m h = by (eq n m) refl h
        where
          by : (b : Bool) → eq n m ≡ b → ((b || among eq there m) || known m) ≡ true → done there m ≡ true
          by false e i = i
          by true e i = or_right (among eq there m) (known m) (ap known (sym (law.eq_is n m e)) ∙ k)

      after : (m : N) → done there m ≡ true → done (n ∷ there) m ≡ true
      after m h = by (eq n m) h
        where
          by : (b : Bool) → done there m ≡ true → ((b || among eq there m) || known m) ≡ true
          by false i = i
          by true i = refl

  -- one more that is settled
  settled_more : (there : List N) (c : C) (n : N) → known n ≡ false → among eq there n ≡ false → Within eq (refers n) there → Good there c → Good (n ∷ there) (settle c n)
  settled_more there c n k new within g = record {
    right = λ m h. right m h;
    closed = λ m h j i. closed m h j i;
  }
    where
      not_done : done there n ≡ false
      not_done = rw (new, k) refl

      kept : (m : N) → done there m ≡ true → Keeps c (settle c n) m
      kept m h = law.apart c n m (differ m n (done there) h not_done)

      no_self : among eq (refers n) n ≡ false
      no_self = by (among eq (refers n) n) refl
        where
          by : (b : Bool) → among eq (refers n) n ≡ b → b ≡ false
          by false e = refl
          by true e = sym (within n e) ∙ new

      old_right : (m : N) → done there m ≡ true → Right (settle c n) m
      old_right m h = law.stays c (settle c n) m (kept m h) (λ j i. kept j (g.closed m h j i)) (g.right m h)

      right : (m : N) → done (n ∷ there) m ≡ true → Right (settle c n) m
      right m h = by (eq n m) refl h
        where
          by : (b : Bool) → eq n m ≡ b → ((b || among eq there m) || known m) ≡ true → Right (settle c n) m
          by false e i = old_right m i
          by true e i = subst (λ (z : N). Right (settle c n) z) (law.eq_is n m e) (law.settled c n no_self)

      after : (m : N) → done there m ≡ true → done (n ∷ there) m ≡ true
      after m h = by (eq n m) h
        where
          by : (b : Bool) → done there m ≡ true → ((b || among eq there m) || known m) ≡ true
          by false i = i
          by true i = refl

      closed : (m : N) → done (n ∷ there) m ≡ true → (j : N) → among eq (refers m) j ≡ true → done (n ∷ there) j ≡ true
      closed m h j i = by (eq n m) refl h
        where
          by : (b : Bool) → eq n m ≡ b → ((b || among eq there m) || known m) ≡ true → done (n ∷ there) j ≡ true
          by false e a = after j (g.closed m a j i)
          by true e a = after j (or_left (among eq there j) (known j) (within j (subst (λ (z : N). among eq (refers z) j ≡ true) (sym (law.eq_is n m e)) i)))

  -- ---- along the order

  moved : (there ns : List N) (n m : N) → (done there m || (eq n m || among eq ns m)) ≡ true → (done (n ∷ there) m || among eq ns m) ≡ true
  moved there ns n m h = by (eq n m) (among eq there m) (known m) (among eq ns m) h
    where
      by : (e a k b : Bool) → ((a || k) || (e || b)) ≡ true → (((e || a) || k) || b) ≡ true
      by true a k b i = refl
      by false a k b i = i

  all_right : (there ns : List N) (c : C) → Ordered eq refers there ns → Good there c → (m : N) → (done there m || among eq ns m) ≡ true → Right (settle_all settle known c ns) m
  all_right there [] c o g m h = g.right m (last (done there m) h)
    where
      last : (a : Bool) → (a || false) ≡ true → a ≡ true
      last true i = refl
      last false i = i
  all_right there (n ∷ ns) c o g m h = by (known n) refl (λ (d : C) (good : Good (n ∷ there) d). all_right (n ∷ there) ns d o.2 good m (moved there ns n m h))
    where
      by : (b : Bool) → known n ≡ b → ((d : C) → Good (n ∷ there) d → Right (settle_all settle known d ns) m) → Right (settle_all settle known (cond b c (settle c n)) ns) m
      by true k rest = rest c (known_more there c n k g)
      by false k rest = rest (settle c n) (settled_more there c n k o.0 o.1 g)

  -- a known part that is closed and right makes all of the order right
  pub completed_right : (ns : List N) (c : C) → Ordered eq refers [] ns → ((n : N) → known n ≡ true → Right c n) → ((n m : N) → known n ≡ true → among eq (refers n) m ≡ true → known m ≡ true) → (m : N) → (known m || among eq ns m) ≡ true → Right (settle_all settle known c ns) m
  completed_right ns c o right closed m h = all_right [] ns c o (record { right = λ n k. right n k; closed = λ n k m i. closed n m k i }) m h

  -- what is known is kept
  pub known_kept : (ns : List N) (c : C) (m : N) → known m ≡ true → Keeps c (settle_all settle known c ns) m
  known_kept [] c m h = law.same c m
  known_kept (n ∷ ns) c m h = by (known n) refl (λ (d : C). known_kept ns d m h)
    where
      by : (b : Bool) → known n ≡ b → ((d : C) → Keeps d (settle_all settle known d ns) m) → Keeps c (settle_all settle known (cond b c (settle c n)) ns) m
      by true k rest = rest c
      by false k rest = law.then c (settle c n) _ m (law.apart c n m (differ m n known h k)) (rest (settle c n))
