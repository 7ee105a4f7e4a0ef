-- Each root of a question, and each node that a fact of it names, has a fact.
use Rattle.std.proofs.Common.{◌≡◌, ℕ, ◌+◌, ◌<◌, zero, suc, Bool, true, false, ◌||◌, cond, List, [], ◌∷◌, ◌++◌, map, length, All, refl, sym, subst, arith}
use Rattle.std.specs.Prelude.{nat_eq}
use Rattle.std.specs.List.{AllByRecursion, Contains, list_any, range_with_len}
use Rattle.std.proofs.lemmas.Bool.{false≢true}
use Rattle.std.proofs.lemmas.List.Elements.{Contains-append_left, Contains-append_right}
use Rattle.ut_logic.specs.declared.node.Node.{Node}
use Rattle.ut_logic.specs.declared.node.Node.TheVariants as node
use Rattle.ut_logic.specs.declared.facts.Fact.{Fact}
use Rattle.ut_logic.specs.Node.{node_eq}
use Rattle.kconf_tree.proofs.GraphOrders.{contains_map}
use Rattle.kconf_tree.proofs.Small.{number_is}
use Rattle.kconf_tree.specs.WellMade.{IsNodeOf}
use Rattle.kconf_constr.specs.FactsOf as tree
use Rattle.kconf_constr.specs.Scope.{Scope}
use Rattle.cpp_blocks.specs.Mentions.{firsts, with_new}
use Rattle.model_slice.specs.Named.{names_of}
use Rattle.ut_case.specs.Facts.{name_fact, places}

-- ---- lists

-- each number of a range is in it
pub contains_range : (a n k : ℕ) → k < n → Contains (range_with_len a n) (a + k)
contains_range a zero k h = absurd (omega (arith, h))
contains_range a (suc n) zero h = (0, omega arith, here)
  where
    here : a ≡ a + 0
    here = omega arith
contains_range a (suc n) (suc k) h = let at : (a + 1) + k ≡ a + suc k = omega arith in
    let r = subst (Contains (range_with_len (a + 1) n)) at (contains_range (a + 1) n k (omega (arith, h))) in (suc r.0, omega (arith, r.1), r.2)

pub contains_place : (n k : ℕ) → k < n → Contains (range_with_len 0 n) k
contains_place n k h = let at : 0 + k ≡ k = omega arith in subst (Contains (range_with_len 0 n)) at (contains_range 0 n k h)

-- what a mapped list has comes from an element
pub record IsImage {A B : Type 0} (f : A → B) (xs : List A) (y : B) : Type 0 where
  pub from : A
  pub there : Contains xs from
  pub is : f from ≡ y

pub unmap : {A B : Type 0} (f : A → B) (xs : List A) (y : B) → Contains (map f xs) y → IsImage f xs y
unmap f [] y h = absurd (omega (arith, h.1))
unmap f (x ∷ xs) y (zero, l, e) = record { from = x; there = (0, omega arith, refl); is = e }
unmap f (x ∷ xs) y (suc k, l, e) = let r = unmap f xs y (k, omega arith, e) in record { from = r.from; there = (suc r.there.0, omega (arith, r.there.1), r.there.2); is = r.is }

-- ---- first places keep each number

contains_nat : (xs : List ℕ) (x : ℕ) → list_any (nat_eq x) xs ≡ true → Contains xs x
contains_nat [] x h = absurd (false≢true h)
contains_nat (y ∷ ys) x h = by (nat_eq x y) refl h (contains_nat ys x)
  where
    by : (b : Bool) → nat_eq x y ≡ b → (b || list_any (nat_eq x) ys) ≡ true → (list_any (nat_eq x) ys ≡ true → Contains ys x) → Contains (y ∷ ys) x
    by true e g rest = (0, omega arith, sym (number_is x y e))
    by false e g rest = let r = rest g in (suc r.0, omega (arith, r.1), r.2)

new_keeps : (seen : List ℕ) (x y : ℕ) → Contains seen y → Contains (with_new nat_eq seen x) y
new_keeps seen x y h = by (list_any (nat_eq x) seen)
  where
    by : (b : Bool) → Contains (cond b seen (seen ++ x ∷ [])) y
    by true = h
    by false = Contains-append_left seen (x ∷ []) y h

new_has : (seen : List ℕ) (x : ℕ) → Contains (with_new nat_eq seen x) x
new_has seen x = by (list_any (nat_eq x) seen) refl
  where
    by : (b : Bool) → list_any (nat_eq x) seen ≡ b → Contains (cond b seen (seen ++ x ∷ [])) x
    by true e = contains_nat seen x e
    by false e = Contains-append_right seen (x ∷ []) x (0, omega arith, refl)

firsts_keep : (more seen : List ℕ) (y : ℕ) → Contains seen y → Contains (firsts nat_eq seen more) y
firsts_keep [] seen y h = h
firsts_keep (x ∷ more) seen y h = firsts_keep more (with_new nat_eq seen x) y (new_keeps seen x y h)

pub firsts_have : (more seen : List ℕ) (y : ℕ) → Contains more y → Contains (firsts nat_eq seen more) y
firsts_have [] seen y h = absurd (omega (arith, h.1))
firsts_have (x ∷ more) seen y (zero, l, e) = firsts_keep more (with_new nat_eq seen x) y (subst (Contains (with_new nat_eq seen x)) e (new_has seen x))
firsts_have (x ∷ more) seen y (suc k, l, e) = firsts_have more (with_new nat_eq seen x) y (k, omega arith, e)

-- ---- facts with their nodes

-- what all facts name, the fact of a node names
pub names_pass : (P : Node → Type 0) (facts : List Fact) (n : Node) → AllByRecursion (λ (f : Fact). All P f.names) facts → All P (names_of facts n)
names_pass P [] n h = λ k d l. absurd (omega (arith, l))
names_pass P (f ∷ fs) n h = by (node_eq f.node n) (names_pass P fs n h.1)
  where
    by : (b : Bool) → All P (names_of fs n) → All P (cond b f.names (names_of fs n))
    by true rest = h.0
    by false rest = rest

-- a symbol or a choice of a tree has its fact
pub tree_has : (s : Scope) (n : Node) → IsNodeOf s.shape n → IsImage (λ (f : Fact). f.node) (tree.facts_of s) n
tree_has s (node.Sym k) lt = record {
  from = tree.symbol_fact s k;
  there = Contains-append_left (map (tree.symbol_fact s) (range_with_len 0 (length s.shape.symbols))) (map (tree.choice_fact s) (range_with_len 0 (length s.shape.choices))) (tree.symbol_fact s k)
      (contains_map (tree.symbol_fact s) (range_with_len 0 (length s.shape.symbols)) k (contains_place (length s.shape.symbols) k lt));
  is = refl;
}
tree_has s (node.Choice i) lt = record {
  from = tree.choice_fact s i;
  there = Contains-append_right (map (tree.symbol_fact s) (range_with_len 0 (length s.shape.symbols))) (map (tree.choice_fact s) (range_with_len 0 (length s.shape.choices))) (tree.choice_fact s i)
      (contains_map (tree.choice_fact s) (range_with_len 0 (length s.shape.choices)) i (contains_place (length s.shape.choices) i lt));
  is = refl;
}
tree_has s (node.Block file block) h = absurd h
tree_has s (node.State file name turn) h = absurd h

-- a name of a model text has its fact
pub name_has : (names : List (List ℕ)) (k : ℕ) → k < length names → IsImage (λ (f : Fact). f.node) (map name_fact (places names)) (node.Sym k)
name_has names k lt = record { from = name_fact k; there = contains_map name_fact (places names) k (contains_place (length names) k lt); is = refl }
