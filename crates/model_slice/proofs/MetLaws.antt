-- What is noted of the nodes that are met stays right as more are met.
use Rattle.std.proofs.Common.{◌≡◌, ◌≢◌, ℕ, zero, suc, ◌<◌, ◌≤◌, Bool, true, false, ◌||◌, ◌&&◌, cond, Option, None, Some, List, [], ◌∷◌, ◌++◌, length, get_or, set, refl, sym, ap, ◌∙◌, arith, nat_lt}
use Rattle.std.proofs.lemmas.Grind.{common_steps, get_or-set_at}
use Rattle.std.proofs.lemmas.Bool.{false≢true}
use Rattle.std.proofs.lemmas.Bool.Decides.{nat_tests}
use Rattle.std.proofs.lemmas.Option.{none-some}
use Rattle.std.proofs.lemmas.List.{get_or-set_other, length-set}
use Rattle.std.proofs.lemmas.List.Folds.{list_any-append}
use Rattle.indexmap.specs.IndexSet.{insert_key}
use Rattle.ut_logic.specs.declared.node.Node.{Node}
use Rattle.ut_logic.specs.declared.node.Node.TheVariants.{Sym, Choice, Block, State}
use Rattle.ut_logic.specs.Node.{node_eq}
use Rattle.ut_logic.specs.NodeIdentity.{node_eq-Decides}
use Rattle.model_slice.specs.Found.{has, with_one}
use Rattle.model_slice.specs.Met.{number_in, is_at, seen_at, AreNoted}
use Rattle.model_slice.proofs.AddedLaws.{laws, has_alike}

-- at no place of no nodes a node stands
none_at : (k : ℕ) (n : Node) → is_at [] k n ≡ false
none_at zero n = refl
none_at (suc k) n = refl

-- the test of a place, as the code has it
pub at_place : (nodes : List Node) (k : ℕ) (n d : Node) → (nat_lt k (length nodes) && node_eq (get_or nodes k d) n) ≡ is_at nodes k n
at_place [] k n d = ap (λ b. b && node_eq (get_or [] k d) n) (none_below k) ∙ sym (none_at k n)
  where
    none_below : (a : ℕ) → nat_lt a 0 ≡ false
    none_below a = grind (arith, nat_tests)
at_place (m ∷ ms) zero n d = ap (λ b. b && node_eq m n) (first_below (length ms))
  where
    first_below : (a : ℕ) → nat_lt 0 (suc a) ≡ true
    first_below a = grind (arith, nat_tests)
at_place (m ∷ ms) (suc k) n d = ap (λ b. b && node_eq (get_or ms k d) n) (below k (length ms)) ∙ at_place ms k n d
  where
    below : (a b : ℕ) → nat_lt (suc a) (suc b) ≡ nat_lt a b
    below a b = grind (arith, nat_tests)

-- at first nothing is met
pub met_start : (room : List ℕ) → AreNoted [] room []
met_start room n = by (number_in room n)
  where
    by : (o : Option ℕ) → seen_at [] room [] n o ≡ false
    by None = refl
    by (Some a) = none_at (get_or room a 0) n

-- a node that has a number is that symbol
pub record IsNumber (room : List ℕ) (n : Node) (a : ℕ) : Type 0 where
  pub is : n ≡ Sym a
  pub within : a < length room

some_same : (a b : ℕ) → Some a ≡ Some b → a ≡ b
some_same a b e = grind (arith, e)

pub number_is : (room : List ℕ) (n : Node) (a : ℕ) → number_in room n ≡ Some a → IsNumber room n a
number_is room (Sym b) a h = by (nat_lt b (length room)) refl h
  where
    by : (c : Bool) → nat_lt b (length room) ≡ c → cond c (Some b) None ≡ Some a → IsNumber room (Sym b) a
    by true e g = let same = some_same b a g in record { is = ap Sym same; within = grind (arith, nat_tests, e, same) }
    by false e g = absurd (none-some a g)
number_is room (Choice b) a h = absurd (none-some a h)
number_is room (Block file block) a h = absurd (none-some a h)
number_is room (State file name turn) a h = absurd (none-some a h)

number_same : (room new : List ℕ) → length new ≡ length room → (n : Node) → number_in new n ≡ number_in room n
number_same room new e (Sym b) = ap (λ k. cond (nat_lt b k) (Some b) None) e
number_same room new e (Choice b) = refl
number_same room new e (Block file block) = refl
number_same room new e (State file name turn) = refl

-- one more node at the end
end_at : (nodes : List Node) (n x : Node) → node_eq n x ≡ true → is_at (nodes ++ n ∷ []) (length nodes) x ≡ true
end_at [] n x e = e
end_at (m ∷ ms) n x e = end_at ms n x e

seam_at : (nodes : List Node) (n x : Node) (k : ℕ) → node_eq n x ≡ false → is_at (nodes ++ n ∷ []) k x ≡ is_at nodes k x
seam_at [] n x zero e = e
seam_at [] n x (suc k) e = refl
seam_at (m ∷ ms) n x zero e = refl
seam_at (m ∷ ms) n x (suc k) e = seam_at ms n x k e

or_none : (b : Bool) → (b || false) ≡ b
or_none true = refl
or_none false = refl

or_true : (b : Bool) → (b || true) ≡ true
or_true true = refl
or_true false = refl

has_more : (nodes : List Node) (n x : Node) → has (nodes ++ n ∷ []) x ≡ (has nodes x || node_eq x n)
has_more nodes n x = list_any-append (node_eq x) nodes (n ∷ []) ∙ ap (λ b. has nodes x || b) (or_none (node_eq x n))

has_other : (nodes : List Node) (n x : Node) → node_eq x n ≡ false → has (nodes ++ n ∷ []) x ≡ has nodes x
has_other nodes n x e = has_more nodes n x ∙ (ap (λ b. has nodes x || b) e ∙ or_none (has nodes x))

-- a new node that has a number
module _ (nodes : List Node) (room : List ℕ) (others : List Node) (n : Node) (a : ℕ) (noted : AreNoted nodes room others) (is : number_in room n ≡ Some a) where
  abbrev now : List ℕ
  now = set room a (length nodes)

  differ : (x : Node) → number_in room x ≡ None → node_eq x n ≡ false
  differ x e = by (node_eq x n) refl
    where
      by : (b : Bool) → node_eq x n ≡ b → b ≡ false
      by false g = refl
      by true g = absurd (none-some a (sym e ∙ (ap (number_in room) ((node_eq-Decides x n).0 g) ∙ is)))

  placed : (x : Node) (b : ℕ) → number_in room x ≡ Some b → is_at (nodes ++ n ∷ []) (get_or now b 0) x ≡ has (nodes ++ n ∷ []) x
  placed x b e = by (node_eq x n) refl
    where
      by : (c : Bool) → node_eq x n ≡ c → is_at (nodes ++ n ∷ []) (get_or now b 0) x ≡ has (nodes ++ n ∷ []) x
      by true g =
          let same : b ≡ a = some_same b a (sym e ∙ (ap (number_in room) ((node_eq-Decides x n).0 g) ∙ is)) in
          let there : get_or now b 0 ≡ length nodes = get_or-set_at room a b (length nodes) 0 same (number_is room n a is).within in
          (ap (λ k. is_at (nodes ++ n ∷ []) k x) there ∙ end_at nodes n x (laws.symm n x ∙ g)) ∙ sym (has_more nodes n x ∙ (ap (λ c. has nodes x || c) g ∙ or_true (has nodes x)))
      by false g =
          let apart : b ≢ a = λ same. false≢true (sym g ∙ (node_eq-Decides x n).1 ((number_is room x b e).is ∙ (ap Sym same ∙ sym (number_is room n a is).is))) in
          let there : get_or now b 0 ≡ get_or room b 0 = get_or-set_other room a b (length nodes) 0 apart in
          (ap (λ k. is_at (nodes ++ n ∷ []) k x) there ∙ seam_at nodes n x (get_or room b 0) (laws.symm n x ∙ g))
          ∙ ((ap (seen_at nodes room others x) (sym e) ∙ noted x) ∙ sym (has_other nodes n x g))

  pub met_symbol : AreNoted (nodes ++ n ∷ []) now others
  met_symbol x = ap (seen_at (nodes ++ n ∷ []) now others x) (number_same room now (length-set room a (length nodes)) x) ∙ by (number_in room x) refl
    where
      by : (o : Option ℕ) → number_in room x ≡ o → seen_at (nodes ++ n ∷ []) now others x o ≡ has (nodes ++ n ∷ []) x
      by (Some b) e = placed x b e
      by None e = (ap (seen_at nodes room others x) (sym e) ∙ noted x) ∙ sym (has_other nodes n x (differ x e))

has-insert_key : (nodes : List Node) (n x : Node) → has (insert_key node_eq nodes n) x ≡ (has nodes x || node_eq x n)
has-insert_key nodes n x = by (has nodes n) refl
  where
    by : (b : Bool) → has nodes n ≡ b → has (cond b nodes (nodes ++ n ∷ [])) x ≡ (has nodes x || node_eq x n)
    by false e = has_more nodes n x
    by true e = alike (node_eq x n) refl
      where
        alike : (c : Bool) → node_eq x n ≡ c → has nodes x ≡ (has nodes x || c)
        alike true g = (has_alike nodes x n g ∙ e) ∙ sym (or_true (has nodes x))
        alike false g = sym (or_none (has nodes x))

-- a new node that has none
pub met_other : (nodes : List Node) (room : List ℕ) (others : List Node) (n : Node) → AreNoted nodes room others → number_in room n ≡ None → AreNoted (nodes ++ n ∷ []) room (insert_key node_eq others n)
met_other nodes room others n noted is x = by (number_in room x) refl
  where
    differ : (b : ℕ) → number_in room x ≡ Some b → node_eq x n ≡ false
    differ b e = by (node_eq x n) refl
      where
        by : (c : Bool) → node_eq x n ≡ c → c ≡ false
        by false g = refl
        by true g = absurd (none-some b (sym is ∙ (ap (number_in room) (sym ((node_eq-Decides x n).0 g)) ∙ e)))

    by : (o : Option ℕ) → number_in room x ≡ o → seen_at (nodes ++ n ∷ []) room (insert_key node_eq others n) x o ≡ has (nodes ++ n ∷ []) x
    by (Some b) e = seam_at nodes n x (get_or room b 0) (laws.symm n x ∙ differ b e) ∙ ((ap (seen_at nodes room others x) (sym e) ∙ noted x) ∙ sym (has_other nodes n x (differ b e)))
    by None e = has-insert_key others n x ∙ (ap (λ b. b || node_eq x n) (ap (seen_at nodes room others x) (sym e) ∙ noted x) ∙ sym (has_more nodes n x))

-- a node that is not met goes to the end
pub one_new : (nodes : List Node) (n : Node) → has nodes n ≡ false → with_one nodes n ≡ nodes ++ n ∷ []
one_new nodes n e = ap (λ b. cond b nodes (nodes ++ n ∷ [])) e

pub one_old : (nodes : List Node) (n : Node) → has nodes n ≡ true → with_one nodes n ≡ nodes
one_old nodes n e = ap (λ b. cond b nodes (nodes ++ n ∷ [])) e

-- a test of order by the order
pub is_below : (k n : ℕ) → k < n → nat_lt k n ≡ true
is_below k n h = grind (arith, nat_tests, common_steps, h)

pub not_below : (k n : ℕ) → n ≤ k → nat_lt k n ≡ false
not_below k n h = grind (arith, nat_tests, common_steps, h)
