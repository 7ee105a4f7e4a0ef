-- The facts of needed nodes: each node has one fact, and what the facts of all nodes list and mention is listed and mentioned by
-- the fact of one of them.
use Rattle.std.proofs.Common.{◌≡◌, zero, suc, Bool, true, false, ◌||◌, cond, List, [], ◌∷◌, ◌++◌, map, refl, ap, sym, subst, ◌∙◌, arith}
use Rattle.std.specs.List.{AllByRecursion, Contains}
use Rattle.std.proofs.lemmas.Bool.{false≢true}
use Rattle.std.proofs.lemmas.List.Elements.{recursion_from_All}
use Rattle.std.proofs.lemmas.List.Folds.{list_any-append}
use Rattle.ut_logic.specs.declared.item.Item.{Item}
use Rattle.ut_logic.specs.declared.node.Node.{Node}
use Rattle.ut_logic.specs.declared.facts.Fact.{Fact}
use Rattle.ut_logic.specs.Assign.{is_in}
use Rattle.ut_logic.specs.Facts.{Meets, MeetsAll}
use Rattle.ut_logic.specs.Item.{item_eq}
use Rattle.ut_logic.specs.Node.{node_eq}
use Rattle.ut_logic.specs.NodeIdentity.{node_eq-Decides}
use Rattle.ut_logic.specs.Truth.{together}
use Rattle.model_slice.specs.Named.{names_of, nodes_of}
use Rattle.clausify.specs.Order.{facts_of, fact_of}
use Rattle.case_laws.proofs.Basics.{back, front, later, or_left, or_right}

-- ---- the fact of a node

pub record Found (facts : List Fact) (n : Node) : Type 0 where
  pub fact : Fact
  pub there : Contains facts fact
  pub node : fact.node ≡ n
  pub names : names_of facts n ≡ fact.names
  pub alone : fact_of facts n ≡ fact ∷ []

module _ (f : Fact) (fs : List Fact) (n : Node) where
  -- it is the first
  found_first : node_eq f.node n ≡ true → Found (f ∷ fs) n
  found_first e = record {
    fact = f;
    there = (0, omega arith, refl);
    node = (node_eq-Decides f.node n).0 e;
    names = ap (λ b. cond b f.names (names_of fs n)) e;
    alone = ap (λ b. cond b (f ∷ []) (fact_of fs n)) e;
  }

  -- or one of the others
  found_later : node_eq f.node n ≡ false → Found fs n → Found (f ∷ fs) n
  found_later e r = record {
    fact = r.fact;
    there = later f fs r.fact r.there;
    node = r.node;
    names = ap (λ b. cond b f.names (names_of fs n)) e ∙ r.names;
    alone = ap (λ b. cond b (f ∷ []) (fact_of fs n)) e ∙ r.alone;
  }

pub found : (facts : List Fact) (n : Node) → Contains (nodes_of facts) n → Found facts n
found [] n h = absurd (omega (arith, h.1))
found (f ∷ fs) n (zero, l, e) = found_first f fs n ((node_eq-Decides f.node n).1 e)
found (f ∷ fs) n (suc k, l, e) = by (node_eq f.node n) refl (found fs n (k, omega arith, e))
  where
    by : (b : Bool) → node_eq f.node n ≡ b → Found fs n → Found (f ∷ fs) n
    by true g r = found_first f fs n g
    by false g r = found_later f fs n g r

-- what holds of the facts of all nodes holds of the fact of one
pub of_one : (P : Fact → Type 0) (facts : List Fact) (nodes : List Node) (n : Node) → AllByRecursion P (facts_of facts nodes) → Contains nodes n → AllByRecursion P (fact_of facts n)
of_one P facts [] n h g = absurd (omega (arith, g.1))
of_one P facts (m ∷ ms) n h (zero, l, e) = subst (λ (x : Node). AllByRecursion P (fact_of facts x)) e (front P (fact_of facts m) (facts_of facts ms) h)
of_one P facts (m ∷ ms) n h (suc k, l, e) = of_one P facts ms n (back P (fact_of facts m) (facts_of facts ms) h) (k, omega arith, e)

-- so truths that meet the facts of all nodes meet it
pub met_at : (v : Item → Bool) (facts : List Fact) (nodes : List Node) → MeetsAll v (facts_of facts nodes) → (n : Node) → Contains nodes n → (f : Found facts n) → Meets v f.fact
met_at v facts nodes met n there f = (subst (AllByRecursion (Meets v)) f.alone (of_one (Meets v) facts nodes n (recursion_from_All (Meets v) (facts_of facts nodes) met) there)).0

-- ---- items of facts

module _ (g : Fact → List Item) (i : Item) where
  -- the items that facts give
  abbrev given : List Fact → List Item
  given fs = together (map g fs)

  given_front : (fs hs : List Fact) → is_in (given fs) i ≡ true → is_in (given (fs ++ hs)) i ≡ true
  given_front [] hs h = absurd (false≢true h)
  given_front (f ∷ fs) hs h = by (is_in (g f) i) refl (sym (list_any-append (λ x. item_eq x i) (g f) (given fs)) ∙ h) (given_front fs hs)
    where
      by : (b : Bool) → is_in (g f) i ≡ b → (b || is_in (given fs) i) ≡ true → (is_in (given fs) i ≡ true → is_in (given (fs ++ hs)) i ≡ true) → is_in (g f ++ given (fs ++ hs)) i ≡ true
      by true e k rest = list_any-append (λ x. item_eq x i) (g f) (given (fs ++ hs)) ∙ or_left (is_in (g f) i) (is_in (given (fs ++ hs)) i) e
      by false e k rest = list_any-append (λ x. item_eq x i) (g f) (given (fs ++ hs)) ∙ or_right (is_in (g f) i) (is_in (given (fs ++ hs)) i) (rest k)

  given_back : (fs hs : List Fact) → is_in (given hs) i ≡ true → is_in (given (fs ++ hs)) i ≡ true
  given_back [] hs h = h
  given_back (f ∷ fs) hs h = list_any-append (λ x. item_eq x i) (g f) (given (fs ++ hs)) ∙ or_right (is_in (g f) i) (is_in (given (fs ++ hs)) i) (given_back fs hs h)

  -- one of both lists gives it
  given_either : {X : Type 0} (fs hs : List Fact) → is_in (given (fs ++ hs)) i ≡ true → (is_in (given fs) i ≡ true → X) → (is_in (given hs) i ≡ true → X) → X
  given_either {X = X} [] hs h left right = right h
  given_either {X = X} (f ∷ fs) hs h left right = by (is_in (g f) i) refl (sym (list_any-append (λ x. item_eq x i) (g f) (given (fs ++ hs))) ∙ h) (given_either fs hs)
    where
      whole : is_in (given (f ∷ fs)) i ≡ (is_in (g f) i || is_in (given fs) i)
      whole = list_any-append (λ x. item_eq x i) (g f) (given fs)

      by : (b : Bool) → is_in (g f) i ≡ b → (b || is_in (given (fs ++ hs)) i) ≡ true → (is_in (given (fs ++ hs)) i ≡ true → (is_in (given fs) i ≡ true → X) → (is_in (given hs) i ≡ true → X) → X) → X
      by true e k rest = left (whole ∙ or_left (is_in (g f) i) (is_in (given fs) i) e)
      by false e k rest = rest k (λ m. left (whole ∙ or_right (is_in (g f) i) (is_in (given fs) i) m)) right

-- ---- the node whose fact gives an item

-- the fact of a node that gives it
pub record OfNode (g : Fact → List Item) (i : Item) (facts : List Fact) (n : Node) : Type 0 where
  pub found : Found facts n
  pub item : is_in (g found.fact) i ≡ true

-- a needed node whose fact gives it
pub record Given (g : Fact → List Item) (i : Item) (facts : List Fact) (nodes : List Node) : Type 0 where
  pub node : Node
  pub needed : Contains nodes node
  pub of : OfNode g i facts node

module _ (g : Fact → List Item) (i : Item) where
  of_fact : (facts : List Fact) (n : Node) → is_in (together (map g (fact_of facts n))) i ≡ true → OfNode g i facts n
  unfolding found_later found_first
  of_fact [] n h = absurd (false≢true h)
  of_fact (f ∷ fs) n h = by (node_eq f.node n) refl h (of_fact fs n)
    where
      first : (b : Bool) → is_in (g f) i ≡ b → (b || false) ≡ true → is_in (g f) i ≡ true
      first true e k = e
      first false e k = absurd (false≢true k)

      by : (b : Bool) → node_eq f.node n ≡ b → is_in (together (map g (cond b (f ∷ []) (fact_of fs n)))) i ≡ true → (is_in (together (map g (fact_of fs n))) i ≡ true → OfNode g i fs n) → OfNode g i (f ∷ fs) n
      by true e k rest = record { found = found_first f fs n e; item = first (is_in (g f) i) refl (sym (list_any-append (λ x. item_eq x i) (g f) []) ∙ k) }
      by false e k rest = let r = rest k in record { found = found_later f fs n e r.found; item = r.item }

  -- what the facts of the nodes give, one of them gives
  pub given_by : (facts : List Fact) (nodes : List Node) → is_in (together (map g (facts_of facts nodes))) i ≡ true → Given g i facts nodes
  given_by facts [] h = absurd (false≢true h)
  given_by facts (n ∷ ns) h = given_either g i (fact_of facts n) (facts_of facts ns) h
      (λ m. record { node = n; needed = (0, omega arith, refl); of = of_fact facts n m })
      (given_later (given_by facts ns))
    where
      given_later : (is_in (together (map g (facts_of facts ns))) i ≡ true → Given g i facts ns) → is_in (together (map g (facts_of facts ns))) i ≡ true → Given g i facts (n ∷ ns)
      given_later rest m = let r = rest m in record { node = r.node; needed = later n ns r.node r.needed; of = r.of }

  -- what the fact of a needed node gives, the facts of the nodes give
  pub gives : (facts : List Fact) (nodes : List Node) (n : Node) → Contains nodes n → (f : Found facts n) → is_in (g f.fact) i ≡ true → is_in (together (map g (facts_of facts nodes))) i ≡ true
  gives facts [] n h f m = absurd (omega (arith, h.1))
  gives facts (a ∷ ns) n (zero, l, e) f m = given_front g i (fact_of facts a) (facts_of facts ns) (subst (λ (fs : List Fact). is_in (together (map g fs)) i ≡ true) (sym (ap (fact_of facts) e ∙ f.alone))
      (list_any-append (λ x. item_eq x i) (g f.fact) [] ∙ or_left (is_in (g f.fact) i) (is_in [] i) m))
  gives facts (a ∷ ns) n (suc k, l, e) f m = given_back g i (fact_of facts a) (facts_of facts ns) (gives facts ns n (k, omega arith, e) f m)
