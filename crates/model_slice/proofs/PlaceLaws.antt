-- The place of a node's fact is that of its fact in the list.
use Rattle.std.proofs.Common.{◌≡◌, ℕ, zero, suc, ◌+◌, ◌-◌, ◌≤◌, ◌<◌, Bool, true, false, cond, None, Some, List, [], ◌∷◌, length, get_or, drop, refl, sym, ap, ◌∙◌, arith}
use Rattle.std.proofs.lemmas.Option.{none-some}
use Rattle.std.proofs.Math.Seq.{drop-cons, drop-length}
use Rattle.ut_logic.specs.declared.node.Node.{Node}
use Rattle.ut_logic.specs.declared.facts.Fact.{Fact}
use Rattle.ut_logic.specs.Node.{node_eq}
use Rattle.model_slice.specs.Named.{first_of}
use Rattle.model_slice.specs.Found.{place_from}

-- what is found stands in the list, from k on, and is the first fact
pub record IsPlace (k : ℕ) (facts : List Fact) (n : Node) (at : ℕ) : Type 0 where
  pub from : k ≤ at
  pub within : at < k + length facts
  pub is : (d : Fact) → first_of facts n ≡ Some (get_or facts (at - k) d)

some_same : (a b : ℕ) → Some a ≡ Some b → a ≡ b
some_same a b e = grind (arith, e)

pub found_at : (k : ℕ) (facts : List Fact) (n : Node) (at : ℕ) → place_from k facts n ≡ Some at → IsPlace k facts n at
found_at k [] n at h = absurd (none-some at h)
found_at k (f ∷ fs) n at h = by (node_eq f.node n) refl h (found_at (k + 1) fs n at)
  where
    by : (b : Bool) → node_eq f.node n ≡ b → cond b (Some k) (place_from (k + 1) fs n) ≡ Some at → (place_from (k + 1) fs n ≡ Some at → IsPlace (k + 1) fs n at) → IsPlace k (f ∷ fs) n at
    by true e h r = let here : at - k ≡ 0 = omega (arith, some_same k at h) in record {
      from = omega (arith, some_same k at h);
      within = omega (arith, some_same k at h);
      is = λ d. ap (λ b. cond b (Some f) (first_of fs n)) e ∙ sym (ap (λ j. Some (get_or (f ∷ fs) j d)) here);
    }
    by false e h r = let p = r h in let after : at - k ≡ suc (at - (k + 1)) = omega (arith, p.from) in record {
      from = omega (arith, p.from);
      within = omega (arith, p.within);
      is = λ d. ap (λ b. cond b (Some f) (first_of fs n)) e ∙ (p.is d ∙ sym (ap (λ j. Some (get_or (f ∷ fs) j d)) after));
    }

-- so with places from 0
pub within_list : (facts : List Fact) (n : Node) (at : ℕ) → place_from 0 facts n ≡ Some at → at < length facts
within_list facts n at h = omega (arith, (found_at 0 facts n at h).within)

pub first_at : (facts : List Fact) (n : Node) (at : ℕ) (d : Fact) → place_from 0 facts n ≡ Some at → first_of facts n ≡ Some (get_or facts at d)
first_at facts n at d h = let same : at - 0 ≡ at = omega arith in (found_at 0 facts n at h).is d ∙ ap (λ j. Some (get_or facts j d)) same

-- a node without a place has no fact
pub not_found : (k : ℕ) (facts : List Fact) (n : Node) → place_from k facts n ≡ None → first_of facts n ≡ None
not_found k [] n h = refl
not_found k (f ∷ fs) n h = by (node_eq f.node n) refl h (not_found (k + 1) fs n)
  where
    by : (b : Bool) → node_eq f.node n ≡ b → cond b (Some k) (place_from (k + 1) fs n) ≡ None → (place_from (k + 1) fs n ≡ None → first_of fs n ≡ None) → cond (node_eq f.node n) (Some f) (first_of fs n) ≡ None
    by true e h r = absurd (none-some k (sym h))
    by false e h r = ap (λ b. cond b (Some f) (first_of fs n)) e ∙ r h

-- the places from one fact earlier: that fact counts, and then those after it
pub one_before : (facts : List Fact) (k : ℕ) (d : Fact) (n : Node) → 0 < k → k ≤ length facts
    → place_from (k - 1) (drop (k - 1) facts) n ≡ cond (node_eq (get_or facts (k - 1) d).node n) (Some (k - 1)) (place_from k (drop k facts) n)
one_before facts zero d n h g = absurd (omega (arith, h))
one_before facts (suc k) d n h g = let e : suc k - 1 ≡ k = omega arith in
    rw e (ap (λ fs. place_from k fs n) (drop-cons facts k d (omega (arith, g))) ∙ same)
  where
    same : cond (node_eq (get_or facts k d).node n) (Some k) (place_from (k + 1) (drop (suc k) facts) n) ≡ cond (node_eq (get_or facts k d).node n) (Some k) (place_from (suc k) (drop (suc k) facts) n)
    same = let e : k + 1 ≡ suc k = omega arith in ap (λ j. cond (node_eq (get_or facts k d).node n) (Some k) (place_from j (drop (suc k) facts) n)) e

-- after the last fact there is none
pub none_after : (facts : List Fact) (n : Node) → place_from (length facts) (drop (length facts) facts) n ≡ None
none_after facts n = ap (λ fs. place_from (length facts) fs n) (drop-length facts)

-- all places
pub from_first : (facts : List Fact) (k : ℕ) (n : Node) → k ≤ 0 → place_from k (drop k facts) n ≡ place_from 0 facts n
from_first facts zero n h = refl
from_first facts (suc k) n h = absurd (omega (arith, h))
