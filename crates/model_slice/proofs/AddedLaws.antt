-- What the nodes are after more are added.
use Rattle.std.proofs.Common.{◌≡◌, ℕ, suc, ◌+◌, ◌<◌, ◌≤◌, Bor, Bool, true, false, ◌||◌, cond, List, [], ◌∷◌, ◌++◌, length, take, drop, get_or, refl, sym, ap, ◌∙◌, arith}
use Rattle.std.proofs.lemmas.Grind.{common_steps}
use Rattle.std.proofs.Common.{length-append}
use Rattle.std.proofs.lemmas.List.{take-append-le, append-nil, append_assoc}
use Rattle.std.proofs.lemmas.List.Folds.{list_any-append}
use Rattle.std.proofs.lemmas.Map.Keys.{IsDistinct-push}
use Rattle.std.specs.List.{IsDistinct, flat_map}
use Rattle.std.proofs.Math.Seq.{drop-cons}
use Rattle.std.specs.Cmp.{IsEquivalence, eq_by_cmp_equiv}
use Rattle.ut_logic.specs.declared.node.Node.{Node}
use Rattle.ut_logic.specs.Node.{node_eq, node_total}
use Rattle.model_slice.specs.Found.{has, with_one, added}

pub laws : IsEquivalence node_eq
laws = eq_by_cmp_equiv node_total

-- has sees no difference between equal nodes
pub has_alike : (ns : List Node) (a b : Node) → node_eq a b ≡ true → has ns a ≡ has ns b
has_alike [] a b h = refl
has_alike (n ∷ ns) a b h = grind (arith, common_steps, laws.congr a b n h, has_alike ns a b h)

distinct_one : (ns : List Node) (n : Node) → IsDistinct node_eq ns → IsDistinct node_eq (with_one ns n)
distinct_one ns n d = by (has ns n) refl
  where
    by : (b : Bool) → has ns n ≡ b → IsDistinct node_eq (cond b ns (ns ++ n ∷ []))
    by true h = d
    by false h = IsDistinct-push laws ns n d h

pub distinct_added : (ns more : List Node) → IsDistinct node_eq ns → IsDistinct node_eq (added ns more)
distinct_added ns [] d = d
distinct_added ns (m ∷ more) d = distinct_added (with_one ns m) more (distinct_one ns m d)

has_one : (ns : List Node) (n q : Node) → has (with_one ns n) q ≡ (has ns q || node_eq q n)
has_one ns n q = by (has ns n) refl
  where
    by : (b : Bool) → has ns n ≡ b → has (cond b ns (ns ++ n ∷ [])) q ≡ (has ns q || node_eq q n)
    by true h = alike (node_eq q n) refl
      where
        alike : (e : Bool) → node_eq q n ≡ e → has ns q ≡ (has ns q || e)
        alike true g = has_alike ns q n g ∙ (h ∙ sym (grind (arith, common_steps)))
        alike false g = grind (arith, common_steps)
    by false h = list_any-append (node_eq q) ns (n ∷ []) ∙ grind (arith, common_steps)

pub has-added : (ns more : List Node) (q : Node) → has (added ns more) q ≡ (has ns q || has more q)
has-added ns [] q = grind (arith, common_steps)
has-added ns (m ∷ more) q = has-added (with_one ns m) more q ∙ (rw (has_one ns m q) (grind (arith, common_steps)))

-- what was there stands in front
front_one : (ns : List Node) (n : Node) (k : ℕ) → k ≤ length ns → (take k (with_one ns n) ≡ take k ns) × (length ns ≤ length (with_one ns n))
front_one ns n k h = by (has ns n)
  where
    by : (b : Bool) → (take k (cond b ns (ns ++ n ∷ [])) ≡ take k ns) × (length ns ≤ length (cond b ns (ns ++ n ∷ [])))
    by true = (refl, omega arith)
    by false = (take-append-le k ns (n ∷ []) h, omega (arith, length-append ns (n ∷ [])))

pub length_le-added : (ns more : List Node) → length ns ≤ length (added ns more)
length_le-added ns [] = omega arith
length_le-added ns (m ∷ more) = omega (arith, length_le-added (with_one ns m) more, (front_one ns m 0 (omega arith)).1)

pub take-added : (ns more : List Node) (k : ℕ) → k ≤ length ns → take k (added ns more) ≡ take k ns
take-added ns [] k h = refl
take-added ns (m ∷ more) k h = let one = front_one ns m k h in take-added (with_one ns m) more k (omega arith) ∙ one.0

-- more in two parts
pub added-append : (ns a b : List Node) → added ns (a ++ b) ≡ added (added ns a) b
added-append ns [] b = refl
added-append ns (m ∷ a) b = added-append (with_one ns m) a b

one_grows : (ns : List Node) (n : Node) → (extra : List Node) × (with_one ns n ≡ ns ++ extra)
one_grows ns n = by (has ns n)
  where
    by : (b : Bool) → (extra : List Node) × (cond b ns (ns ++ n ∷ []) ≡ ns ++ extra)
    by true = ([], sym (append-nil ns))
    by false = (n ∷ [], refl)

-- what is new stands after what was there
pub added_grows : (ns more : List Node) → (extra : List Node) × (added ns more ≡ ns ++ extra)
added_grows ns [] = ([], sym (append-nil ns))
added_grows ns (m ∷ more) = let one = one_grows ns m in let rest = added_grows (with_one ns m) more in
    (one.0 ++ rest.0, rest.1 ∙ (ap (λ (l : List Node). l ++ rest.0) one.1 ∙ append_assoc ns one.0 rest.0))

-- those of the first of several lists are added before the rest
pub next_list : (ns : List Node) (each : List (Bor (List Node))) (k : ℕ) (d : Bor (List Node)) → k < length each
    → added ns (flat_map (λ (s : Bor (List Node)). s.now) (drop k each)) ≡ added (added ns (get_or each k d).now) (flat_map (λ (s : Bor (List Node)). s.now) (drop (k + 1) each))
next_list ns each k d h = ap (λ (es : List (Bor (List Node))). added ns (flat_map (λ (s : Bor (List Node)). s.now) es)) (drop-cons each k d h)
    ∙ (added-append ns (get_or each k d).now (flat_map (λ (s : Bor (List Node)). s.now) (drop (suc k) each)) ∙ same)
  where
    same : added (added ns (get_or each k d).now) (flat_map (λ (s : Bor (List Node)). s.now) (drop (suc k) each)) ≡ added (added ns (get_or each k d).now) (flat_map (λ (s : Bor (List Node)). s.now) (drop (k + 1) each))
    same = let e : suc k ≡ k + 1 = omega arith in ap (λ j. added (added ns (get_or each k d).now) (flat_map (λ (s : Bor (List Node)). s.now) (drop j each))) e
