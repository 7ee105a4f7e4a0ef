-- An order of a tree's graph is one of its nodes: each stands once, and after all that it refers to.
use Rattle.std.proofs.Common.{◌≡◌, ℕ, zero, suc, ◌+◌, ◌<◌, Bool, true, false, not, ◌||◌, cond, List, [], ◌∷◌, ◌++◌, map, length, take, get_or, refl, ap, sym, ◌∙◌, subst, arith, append_assoc, length-append, inl, inr}
use Rattle.std.proofs.lemmas.Bool.{false≢true}
use Rattle.std.specs.List.{list_any, position_or_len, Contains}
use Rattle.std.proofs.lemmas.List.Elements.{All-contains, Contains-append_left, Contains-append_right, Contains-append_cases}
use Rattle.ut_logic.specs.declared.node.Node.{Node}
use Rattle.ut_logic.specs.declared.node.Node.TheVariants.{Sym}
use Rattle.ut_logic.specs.Node.{node_eq}
use Rattle.ut_logic.specs.NodeIdentity.{node_eq-Decides}
use Rattle.kconf_tree.specs.Shape.{Shape}
use Rattle.kconf_tree.specs.Apart.{AreApart}
use Rattle.kconf_tree.specs.References.{references_of}
use Rattle.node_order.specs.Graph.{refers_of, IsOrder as IsGraphOrder}
use Rattle.kconf_tree.specs.Orders.{nodes_of, place_of, node_at, graph_of}
use Rattle.kconf_tree.proofs.Small.{or_left, or_right, or_cases, is_off}
use Rattle.node_order.proofs.SettleLaws.{among, Within, Ordered}

-- ---- lists

-- what is in a list is read at a place
pub contains_any : {A : Type 0} (xs : List A) (x : A) (p : A → Bool) → Contains xs x → p x ≡ true → list_any p xs ≡ true
contains_any [] x p h g = absurd (omega (arith, h.1))
contains_any (y ∷ ys) x p (zero, l, e) g = or_left (p y) (list_any p ys) (ap p e ∙ g)
contains_any (y ∷ ys) x p (suc k, l, e) g = or_right (p y) (list_any p ys) (contains_any ys x p (k, omega arith, e) g)

pub any_contains : {A : Type 0} (xs : List A) (p : A → Bool) → list_any p xs ≡ true → (x : A) × Contains xs x × (p x ≡ true)
any_contains [] p h = absurd (cc)
any_contains {A = A} (y ∷ ys) p h = by (p y) refl h (any_contains ys p)
  where
    by : (b : Bool) → p y ≡ b → (b || list_any p ys) ≡ true → (list_any p ys ≡ true → (x : A) × Contains ys x × (p x ≡ true)) → (x : A) × Contains (y ∷ ys) x × (p x ≡ true)
    by true e g rest = (y, (0, omega arith, refl), e)
    by false e g rest = let r = rest g in (r.0, (suc r.1.0, omega (arith, r.1.1), r.1.2), r.2)

pub contains_map : {A B : Type 0} (f : A → B) (xs : List A) (x : A) → Contains xs x → Contains (map f xs) (f x)
contains_map f [] x h = absurd (omega (arith, h.1))
contains_map f (y ∷ ys) x (zero, l, e) = (0, omega arith, ap f e)
contains_map f (y ∷ ys) x (suc k, l, e) = let r = contains_map f ys x (k, omega arith, e) in (suc r.0, omega (arith, r.1), r.2)

-- one that passes is read at the first place
found_at : {A : Type 0} (p : A → Bool) (xs : List A) (d : A) → position_or_len p xs < length xs → p (get_or xs (position_or_len p xs) d) ≡ true
found_at p [] d l = absurd (omega arith)
found_at p (x ∷ xs) d l = by (p x) refl l (found_at p xs d)
  where
    by : (b : Bool) → p x ≡ b → cond (not b) (1 + position_or_len p xs) 0 < length (x ∷ xs) → (position_or_len p xs < length xs → p (get_or xs (position_or_len p xs) d) ≡ true) → p (get_or (x ∷ xs) (cond (not b) (1 + position_or_len p xs) 0) d) ≡ true
    by true e g rest = e
    by false e g rest = let k : suc (position_or_len p xs) ≡ 1 + position_or_len p xs = omega arith in subst (λ (k : ℕ). p (get_or (x ∷ xs) k d) ≡ true) k (rest (omega arith))

-- elements that are apart stand at one place each
off_left : (a b : Bool) → (a || b) ≡ false → a ≡ false
off_left true b h = h
off_left false b h = refl

off_right : (a b : Bool) → (a || b) ≡ false → b ≡ false
off_right true b h = absurd (cc)
off_right false b h = h

not_any : {A : Type 0} (p : A → Bool) (xs : List A) (k : ℕ) (d : A) → list_any p xs ≡ false → k < length xs → p (get_or xs k d) ≡ false
not_any p [] k d h l = absurd (omega arith)
not_any p (x ∷ xs) zero d h l = off_left (p x) (list_any p xs) h
not_any p (x ∷ xs) (suc k) d h l = not_any p xs k d (off_right (p x) (list_any p xs) h) (omega arith)

apart_place : {A : Type 0} (eq : A → A → Bool) (self : (x : A) → eq x x ≡ true) (xs : List A) (d : A) → AreApart eq xs → (j k : ℕ) → j < length xs → k < length xs → get_or xs j d ≡ get_or xs k d → j ≡ k
apart_place eq self [] d a j k l m e = absurd (omega arith)
apart_place eq self (x ∷ xs) d a zero zero l m e = refl
apart_place eq self (x ∷ xs) d a zero (suc k) l m e = absurd (false≢true (sym (not_any (eq x) xs k d a.0 (omega arith)) ∙ (ap (eq x) (sym e) ∙ self x)))
apart_place eq self (x ∷ xs) d a (suc j) zero l m e = absurd (false≢true (sym (not_any (eq x) xs j d a.0 (omega arith)) ∙ (ap (eq x) e ∙ self x)))
apart_place eq self (x ∷ xs) d a (suc j) (suc k) l m e = ap suc (apart_place eq self xs d a.1 j k (omega arith) (omega arith) e)

-- ---- nodes by their order numbers

node_self : (n : Node) → node_eq n n ≡ true
node_self n = (node_eq-Decides n n).1 refl

-- a node with an order number is read there
node_at_place : (t : Shape) (n : Node) → place_of t n < length (nodes_of t) → node_at t (place_of t n) ≡ n
node_at_place t n l = sym ((node_eq-Decides n (node_at t (place_of t n))).0 (found_at (node_eq n) (nodes_of t) (Sym 0) l))

-- what the node with a number refers to, by numbers
refers_at : {A B : Type 0} (f : A → B) (xs : List A) (a : ℕ) (d : A) (b : B) → a < length xs → get_or (map f xs) a b ≡ f (get_or xs a d)
refers_at f [] a d b l = absurd (omega arith)
refers_at f (x ∷ xs) zero d b l = refl
refers_at f (x ∷ xs) (suc a) d b l = refers_at f xs a d b (omega arith)

length-mapped : {A B : Type 0} (f : A → B) (xs : List A) → length (map f xs) ≡ length xs
length-mapped f [] = refl
length-mapped f (x ∷ xs) = ap suc (length-mapped f xs)

pub length-graph : (t : Shape) → length (graph_of t) ≡ length (nodes_of t)
length-graph t = length-mapped (λ n. map (place_of t) (references_of t n)) (nodes_of t)

-- ---- the front of an order, and the rest

take_front : {A : Type 0} (xs ys : List A) → take (length xs) (xs ++ ys) ≡ xs
take_front [] [] = refl
take_front [] (y ∷ ys) = refl
take_front (x ∷ xs) ys = ap (λ zs. x ∷ zs) (take_front xs ys)

read_after : {A : Type 0} (xs : List A) (y : A) (ys : List A) (d : A) → get_or (xs ++ y ∷ ys) (length xs) d ≡ y
read_after [] y ys d = refl
read_after (x ∷ xs) y ys d = read_after xs y ys d

module _ (t : Shape) (apart : AreApart node_eq (nodes_of t)) (numbers : List ℕ) (o : IsGraphOrder (graph_of t) numbers) where
  in_range : (a : ℕ) → Contains numbers a → a < length (nodes_of t)
  in_range a h = subst (λ n. a < n) (length-graph t) (All-contains (λ b. b < length (graph_of t)) numbers a o.only h)

  -- the nodes of these numbers, and no others
  abbrev Has : List Node → List ℕ → Type 0
  Has there pre = (m : Node) → ((a : ℕ) → Contains pre a → node_at t a ≡ m → among node_eq there m ≡ true) × (among node_eq there m ≡ true → (a : ℕ) × Contains pre a × (node_at t a ≡ m))

  one_more : (there : List Node) (pre : List ℕ) (a : ℕ) → Has there pre → Has (node_at t a ∷ there) (pre ++ a ∷ [])
  one_more there pre a h m = (
    λ b g e. elim (Contains-append_cases pre (a ∷ []) b g) [
      | inl old ↦ or_right (node_eq (node_at t a) m) (among node_eq there m) ((h m).0 b old e)
      | inr new ↦ or_left (node_eq (node_at t a) m) (among node_eq there m) ((node_eq-Decides (node_at t a) m).1 (ap (node_at t) (only b new) ∙ e))
    ],
    λ g. elim (or_cases (node_eq (node_at t a) m) (among node_eq there m) g) [
      | inl here ↦ (a, Contains-append_right pre (a ∷ []) a (0, omega arith, refl), (node_eq-Decides (node_at t a) m).0 here)
      | inr there ↦ (((h m).1 there).0, Contains-append_left pre (a ∷ []) ((h m).1 there).0 ((h m).1 there).1, ((h m).1 there).2)
    ],
  )
    where
      only : (b : ℕ) → Contains (a ∷ []) b → a ≡ b
      only b (zero, l, e) = e
      only b (suc k, l, e) = absurd (omega arith)

  pub ordered_from : (pre ns : List ℕ) (there : List Node) → numbers ≡ pre ++ ns → Has there pre → Ordered node_eq (references_of t) there (map (node_at t) ns)
  ordered_from pre [] there e h = tt
  ordered_from pre (a ∷ ns) there e h = (new, after, ordered_from (pre ++ a ∷ []) ns (node_at t a ∷ there) (e ∙ sym (append_assoc pre (a ∷ []) ns)) (one_more there pre a h))
    where
      k : length pre < length numbers
      k = omega (arith, ap length e, length-append pre (a ∷ ns))

      front : take (length pre) numbers ≡ pre
      front = ap (take (length pre)) e ∙ take_front pre (a ∷ ns)

      here : get_or numbers (length pre) 0 ≡ a
      here = ap (λ (xs : List ℕ). get_or xs (length pre) 0) e ∙ read_after pre a ns 0

      there_too : Contains numbers a
      there_too = (length pre, k, ap (λ (xs : List ℕ). get_or xs (length pre) a) e ∙ read_after pre a ns a)

      new : among node_eq there (node_at t a) ≡ false
      new = is_off (among node_eq there (node_at t a)) (λ g. let r = (h (node_at t a)).1 g in
          let old : Contains numbers r.0 = subst (λ (xs : List ℕ). Contains xs r.0) (sym e) (Contains-append_left pre (a ∷ ns) r.0 r.1) in
          let same : r.0 ≡ a = apart_place node_eq node_self (nodes_of t) (Sym 0) apart r.0 a (in_range r.0 old) (in_range a there_too) r.2 in
          o.in_order.once (length pre) k (subst (λ (xs : List ℕ). Contains xs (get_or numbers (length pre) 0)) (sym front) (subst (λ (b : ℕ). Contains pre b) (same ∙ sym here) r.1)))

      refers : refers_of (graph_of t) (get_or numbers (length pre) 0) ≡ map (place_of t) (references_of t (node_at t a))
      refers = ap (refers_of (graph_of t)) here ∙ refers_at (λ n. map (place_of t) (references_of t n)) (nodes_of t) a (Sym 0) [] (in_range a there_too)

      after : Within node_eq (references_of t (node_at t a)) there
      after m g = let r = any_contains (references_of t (node_at t a)) (λ n. node_eq n m) g in
          let is : r.0 ≡ m = (node_eq-Decides r.0 m).0 r.2 in
          let named : Contains (map (place_of t) (references_of t (node_at t a))) (place_of t m) = subst (λ (n : Node). Contains (map (place_of t) (references_of t (node_at t a))) (place_of t n)) is (contains_map (place_of t) (references_of t (node_at t a)) r.0 r.1) in
          let before : Contains (take (length pre) numbers) (place_of t m) = All-contains (Contains (take (length pre) numbers)) (refers_of (graph_of t) (get_or numbers (length pre) 0)) (place_of t m) (o.in_order.after (length pre) k) (subst (λ (xs : List ℕ). Contains xs (place_of t m)) (sym refers) named) in
          let old : Contains pre (place_of t m) = subst (λ (xs : List ℕ). Contains xs (place_of t m)) front before in
          let whole : Contains numbers (place_of t m) = subst (λ (xs : List ℕ). Contains xs (place_of t m)) (sym e) (Contains-append_left pre (a ∷ ns) (place_of t m) old) in
          (h m).0 (place_of t m) old (node_at_place t m (in_range (place_of t m) whole))

  pub ordered_nodes : Ordered node_eq (references_of t) [] (map (node_at t) numbers)
  ordered_nodes = ordered_from [] numbers [] refl (λ m. (λ a h e. absurd (omega (arith, h.1)), λ g. absurd (cc)))

  -- every node of the tree is in the order
  pub node_in_order : (n : Node) → Contains (nodes_of t) n → among node_eq (map (node_at t) numbers) n ≡ true
  node_in_order n h = let there : h.0 < length (graph_of t) = subst (λ (x : ℕ). h.0 < x) (sym (length-graph t)) h.1 in
      contains_any (map (node_at t) numbers) (node_at t h.0) (λ m. node_eq m n) (contains_map (node_at t) numbers h.0 (o.all h.0 there)) ((node_eq-Decides (node_at t h.0) n).1 (same h))
    where
      reads : {A : Type 0} (xs : List A) (k : ℕ) (d e : A) → k < length xs → get_or xs k d ≡ get_or xs k e
      reads [] k d e l = absurd (omega arith)
      reads (x ∷ xs) zero d e l = refl
      reads (x ∷ xs) (suc k) d e l = reads xs k d e (omega arith)

      same : (h : Contains (nodes_of t) n) → node_at t h.0 ≡ n
      same h = reads (nodes_of t) h.0 (Sym 0) n h.1 ∙ h.2
