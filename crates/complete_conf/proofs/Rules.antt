-- Completing along the order of a tree leaves all that isn't known as it is without a user's setting, and so keeps the rules.
use Rattle.std.proofs.Common.{◌≡◌, ℕ, zero, suc, ◌+◌, ◌<◌, ◌==◌, ◌≤◌, Bool, true, false, not, ◌&&◌, ◌||◌, cond, List, [], ◌∷◌, map, length, get_or, refl, ap, sym, ◌∙◌, subst, arith, Option, None, Some, ◌⊎◌, inl, inr}
use Rattle.std.proofs.lemmas.Bool.{false≢true}
use Rattle.std.proofs.lemmas.Bool.Decides.{nat_tests}
use Rattle.std.specs.Prelude.{is_some}
use Rattle.std.specs.List.{list_any, flat_map, range_with_len, Contains}
use Rattle.std.proofs.lemmas.Cmp.{eq_by_cmp_equiv}
use Rattle.std.proofs.lemmas.List.Elements.{All-head, All-tail}
use Rattle.ut_logic.specs.declared.node.Node.{Node}
use Rattle.ut_logic.specs.declared.node.Node.TheVariants.{Sym, Choice, Block, State}
use Rattle.ut_logic.specs.Node.{node_eq, node_total}
use Rattle.ut_logic.specs.NodeIdentity.{node_eq-Decides}
use Rattle.kconf_tree.specs.declared.shape.Choice.{Choice as OneChoice}
use Rattle.kconf_tree.specs.Shape.{Shape, symbol_at, choice_at, is_member, is_the, no_choice}
use Rattle.kconf_tree.specs.Value.{Configuration, HasValues}
use Rattle.kconf_tree.specs.Valid.{calculated_of, IsRightChoice, KeepsRules}
use Rattle.kconf_tree.specs.References.{symbol_references, choice_references, node_by, node_of, references_of}
use Rattle.kconf_tree.specs.Orders.{nodes_of, node_at, with_members, empty_choices, IsOrder}
use Rattle.kconf_tree.proofs.Places.{distinct_apart, distinct_has}
use Rattle.kconf_tree.specs.Right.{IsRight}
use Rattle.complete_conf.specs.Free.{free_value, free_by, free_mode, picked_of, picked_value}
use Rattle.complete_conf.specs.Parts.{Part, Holds, AgreeOn, IsClosedPart, IsRest, IsRightPart}
use Rattle.complete_conf.specs.Completion.{with_value, with_node, completed}
use Rattle.kconf_tree.proofs.SmallLaws.{calculated_small}
use Rattle.kconf_tree.specs.WellMade.{is_among, IsWellMade}
use Rattle.kconf_tree.proofs.MadeLaws.{member_within}
use Rattle.kconf_tree.proofs.ReferenceLaws.{choice_within}
use Rattle.kconf_tree.proofs.RightChoices.{choice_by_test, test_by_choice}
use Rattle.kconf_tree.proofs.ValueLaws.{Agree, Alike}
use Rattle.kconf_tree.proofs.LookLaws.{alike_in, right_stays, choice_stays}
use Rattle.kconf_tree.proofs.Small.{or_left, or_right, or_cases, number_self}
use Rattle.kconf_tree.proofs.RightLaws.{setting_from_right}
use Rattle.node_order.proofs.SettleLaws.{among, settle_all, completed_right}
use Rattle.complete_conf.proofs.NodeLaws.{Keeps, IsFree, nodes_settle}
use Rattle.complete_conf.proofs.PickLaws.{free_is_right}
use Rattle.kconf_tree.proofs.GraphOrders.{ordered_nodes, node_in_order, any_contains}
use Rattle.complete_conf.proofs.PartLaws.{completed_append, without_members, all_steps, NoNode, empties_free}

-- ---- the nodes of a tree

-- the numbers from n on, one after another
in_range : (n k count : ℕ) → k < count → list_any (λ j. j == n + k) (range_with_len n count) ≡ true
in_range n k zero l = absurd (omega arith)
in_range n zero (suc count) l = or_left (n == n + 0) (list_any (λ j. j == n + 0) (range_with_len (n + 1) count)) (grind (arith, nat_tests))
in_range n (suc k) (suc count) l = or_right (n == n + suc k) (list_any (λ j. j == n + suc k) (range_with_len (n + 1) count)) (let e : n + 1 + k ≡ n + suc k = omega arith in subst (λ (x : ℕ). list_any (λ j. j == x) (range_with_len (n + 1) count) ≡ true) e (in_range (n + 1) k count (omega arith)))

any_mapped : {A B : Type 0} (f : A → B) (p : A → Bool) (q : B → Bool) → ((x : A) → p x ≡ true → q (f x) ≡ true) → (xs : List A) → list_any p xs ≡ true → list_any q (map f xs) ≡ true
any_mapped f p q h [] g = g
any_mapped f p q h (x ∷ xs) g = elim (or_cases (p x) (list_any p xs) g) [
  | inl a ↦ or_left (q (f x)) (list_any q (map f xs)) (h x a)
  | inr b ↦ or_right (q (f x)) (list_any q (map f xs)) (any_mapped f p q h xs b)
]

number_is : (j k : ℕ) → (j == k) ≡ true → j ≡ k
number_is j k h = grind (arith, nat_tests)

-- each symbol has its node in the list
node_listed : (t : Shape) (k : ℕ) → k < length t.symbols → Contains (nodes_of t) (node_of t k)
node_listed t k l = let has = distinct_has node_eq (eq_by_cmp_equiv node_total) (node_of t k) (map (node_of t) (range_with_len 0 (length t.symbols))) in
    let there : list_any (λ j. j == k) (range_with_len 0 (length t.symbols)) ≡ true = in_range_of k (length t.symbols) l in
    let any = any_mapped (node_of t) (λ j. j == k) (node_eq (node_of t k)) (λ j h. (node_eq-Decides (node_of t k) (node_of t j)).1 (ap (node_of t) (sym (number_is j k h)))) (range_with_len 0 (length t.symbols)) there in
    let r = any_contains (nodes_of t) (node_eq (node_of t k)) (has ∙ any) in
    subst (λ (n : Node). Contains (nodes_of t) n) (sym ((node_eq-Decides (node_of t k) r.0).0 r.2)) r.1
  where
    in_range_of : (k count : ℕ) → k < count → list_any (λ j. j == k) (range_with_len 0 count) ≡ true
    in_range_of k count l = let e : 0 + k ≡ k = omega arith in subst (λ (x : ℕ). list_any (λ j. j == x) (range_with_len 0 count) ≡ true) e (in_range 0 k count l)

-- ---- choices without members

empties_are : (n : ℕ) (cs : List OneChoice) (e : Node) → among node_eq (empty_choices n cs) e ≡ true → (j : ℕ) × (e ≡ Choice (n + j)) × (length (get_or cs j no_choice).members ≡ 0)
empties_are n [] e h = absurd (cc)
empties_are n (c ∷ cs) e h = by (length c.members == 0) refl h (λ g. next (empties_are (suc n) cs e g))
  where
    next : (j : ℕ) × (e ≡ Choice (suc n + j)) × (length (get_or cs j no_choice).members ≡ 0) → (j : ℕ) × (e ≡ Choice (n + j)) × (length (get_or (c ∷ cs) j no_choice).members ≡ 0)
    next r = let m : suc n + r.0 ≡ n + suc r.0 = omega arith in (suc r.0, r.1 ∙ ap Choice m, r.2)

    by : (b : Bool) → (length c.members == 0) ≡ b → among node_eq (cond b (Choice n ∷ empty_choices (suc n) cs) (empty_choices (suc n) cs)) e ≡ true
        → (among node_eq (empty_choices (suc n) cs) e ≡ true → (j : ℕ) × (e ≡ Choice (n + j)) × (length (get_or (c ∷ cs) j no_choice).members ≡ 0))
        → (j : ℕ) × (e ≡ Choice (n + j)) × (length (get_or (c ∷ cs) j no_choice).members ≡ 0)
    by false f g rest = rest g
    by true f g rest = elim (or_cases (node_eq (Choice n) e) (among node_eq (empty_choices (suc n) cs) e) g) [
      | inl here ↦ let m : n ≡ n + 0 = omega arith in (0, sym ((node_eq-Decides (Choice n) e).0 here) ∙ ap Choice m, number_is (length c.members) 0 f)
      | inr there ↦ rest there
    ]

empties_have : (n : ℕ) (cs : List OneChoice) (j : ℕ) → j < length cs → length (get_or cs j no_choice).members ≡ 0 → among node_eq (empty_choices n cs) (Choice (n + j)) ≡ true
empties_have n [] j l h = absurd (omega arith)
empties_have n (c ∷ cs) zero l h = by (length c.members == 0) (grind (arith, nat_tests))
  where
    by : (b : Bool) → b ≡ true → among node_eq (cond b (Choice n ∷ empty_choices (suc n) cs) (empty_choices (suc n) cs)) (Choice (n + 0)) ≡ true
    by true e = or_left (node_eq (Choice n) (Choice (n + 0))) (among node_eq (empty_choices (suc n) cs) (Choice (n + 0))) (let m : n ≡ n + 0 = omega arith in (node_eq-Decides (Choice n) (Choice (n + 0))).1 (ap Choice m))
    by false e = absurd (false≢true e)
empties_have n (c ∷ cs) (suc j) l h = by (length c.members == 0) (empties_have (suc n) cs j (omega arith) h)
  where
    by : (b : Bool) → among node_eq (empty_choices (suc n) cs) (Choice (suc n + j)) ≡ true → among node_eq (cond b (Choice n ∷ empty_choices (suc n) cs) (empty_choices (suc n) cs)) (Choice (n + suc j)) ≡ true
    by false g = let m : suc n + j ≡ n + suc j = omega arith in subst (λ (x : ℕ). among node_eq (empty_choices (suc n) cs) (Choice x) ≡ true) m g
    by true g = or_right (node_eq (Choice n) (Choice (n + suc j))) (among node_eq (empty_choices (suc n) cs) (Choice (n + suc j))) (let m : suc n + j ≡ n + suc j = omega arith in subst (λ (x : ℕ). among node_eq (empty_choices (suc n) cs) (Choice x) ≡ true) m g)

-- ---- the law

module _ (t : Shape) (order : List Node) (p : Part) (c : Configuration) (made : IsWellMade t) (ordered : IsOrder t order) where
  abbrev listed : List Node
  listed = map (node_at t) ordered.numbers

  abbrev empties : List Node
  empties = empty_choices 0 t.choices

  abbrev first : Configuration
  first = settle_all (with_node t p) (λ n. false) c listed

  abbrev all : Configuration
  all = settle_all (with_node t p) (λ n. false) first empties

  same : completed t p c order ≡ all
  same = ap (completed t p c) ordered.listed
      ∙ (completed_append t p c (flat_map (λ k. with_members t (node_at t k)) ordered.numbers) empties
      ∙ (ap (λ (x : Configuration). completed t p x empties) (without_members t p made ordered.numbers c ∙ all_steps t p made listed c)
      ∙ all_steps t p made empties first))

  first_free : (n : Node) → among node_eq listed n ≡ true → IsFree t p made first n
  first_free n h = completed_right node_eq (references_of t) (IsFree t p made) (Keeps t p made) (with_node t p) (nodes_settle t p made) (λ m. false) listed c
      (ordered_nodes t (distinct_apart node_eq (map (node_of t) (range_with_len 0 (length t.symbols)))) ordered.numbers ordered.orders) (λ m k. absurd (false≢true k)) (λ m j k g. absurd (false≢true k)) n h

  -- no symbol's node is a choice without members
  lone : (e : Node) → among node_eq empties e ≡ true → NoNode t p made e
  lone e h k g = let r = empties_are 0 t.choices e h in
      let plain : 0 + r.0 ≡ r.0 = omega arith in
      let there : node_of t k ≡ Choice r.0 = g ∙ (r.1 ∙ ap Choice plain) in
      by (symbol_at t k).member_of refl r.0 there r.2
    where
      none : (ms : List ℕ) → is_among ms k ≡ true → length ms ≡ 0 → ⊥
      none [] i l = false≢true i
      none (m ∷ ms) i l = absurd (omega arith)

      by : (o : Option ℕ) → (symbol_at t k).member_of ≡ o → (j : ℕ) → node_by k o ≡ Choice j → length (choice_at t j).members ≡ 0 → ⊥
      by None f j x l = absurd (cc)
      by (Some i) f j x l = let e : i ≡ j = cc in none (choice_at t j).members (made.listed j k (f ∙ ap Some e)) l

  all_free : (n : Node) → (IsFree t p made first n ⊎ (among node_eq empties n ≡ true)) → IsFree t p made all n
  all_free n h = empties_free t p made empties lone first n h

  node_free : (n : Node) → Contains (nodes_of t) n → IsFree t p made all n
  node_free n h = all_free n (inl (first_free n (node_in_order t (distinct_apart node_eq (map (node_of t) (range_with_len 0 (length t.symbols)))) ordered.numbers ordered.orders n h)))

  -- each choice has what it has without a user's setting
  choice_free : (i : ℕ) → i < length t.choices → IsFree t p made all (Choice i)
  choice_free i l = by (choice_at t i).members refl
    where
      by : (ms : List ℕ) → (choice_at t i).members ≡ ms → IsFree t p made all (Choice i)
      by [] e = all_free (Choice i) (inr (let plain : 0 + i ≡ i = omega arith in subst (λ (x : ℕ). among node_eq empties (Choice x) ≡ true) plain (empties_have 0 t.choices i l (ap length e))))
      by (j ∷ js) e = let there : (symbol_at t j).member_of ≡ Some i = made.of_choice i j (ap (λ (xs : List ℕ). is_among xs j) e ∙ or_left (j == j) (is_among js j) (number_self j)) in
          node_free (Choice i) (subst (λ (n : Node). Contains (nodes_of t) n) (ap (node_by j) there) (node_listed t j (member_within t made i j (made.listed i j there))))

  -- and so has each symbol
  value_free : (k : ℕ) → k < length t.symbols → p.symbol k ≡ false → all.value k ≡ free_value t all k
  value_free k l out = by (symbol_at t k).member_of refl
    where
      by : (o : Option ℕ) → (symbol_at t k).member_of ≡ o → all.value k ≡ free_by t all k o
      by None e = (node_free (Sym k) (subst (λ (n : Node). Contains (nodes_of t) n) (ap (node_by k) e) (node_listed t k l))).value (ap is_some e) out
      by (Some i) e = (choice_free i (choice_within t made i k e)).members k (made.listed i k e) out

  -- the rest of the completed configuration is free
  pub rest : IsRest t p (completed t p c order)
  rest = subst (λ (d : Configuration). IsRest t p d) (sym same) (record { values = value_free; modes = λ i l out. (choice_free i l).mode out })

-- ---- values stay n, m or y

values_one : (t : Shape) (p : Part) (c : Configuration) → HasValues c → (n : Node) → HasValues (with_node t p c n)
values_one t p c small (Sym k) j = by (is_member t k) (p.symbol k)
  where
    one : (b : Bool) → cond b (calculated_of t c None k) (c.value j) ≤ 2
    one true = calculated_small t c small k
    one false = small j

    by : (m s : Bool) → (cond m c (cond s c (with_value c k (calculated_of t c None k)))).value j ≤ 2
    by true s = small j
    by false true = small j
    by false false = one (k == j)
values_one t p c small (Choice i) j = by (is_among (choice_at t i).members j && not (p.symbol j)) (is_the (picked_of t c i) j)
  where
    by : (b q : Bool) → cond b (cond q 2 0) (c.value j) ≤ 2
    by true true = omega arith
    by true false = omega arith
    by false q = small j
values_one t p c small (Block f b) j = small j
values_one t p c small (State f n u) j = small j

pub values_kept : (t : Shape) (p : Part) (c : Configuration) → HasValues c → (ns : List Node) → HasValues (completed t p c ns)
values_kept t p c small [] = small
values_kept t p c small (n ∷ ns) = values_kept t p (with_node t p c n) (values_one t p c small n) ns

-- ---- validity

-- values that agree on what is known, with the rest free, keep the rules where the known part is closed and right
pub valid_by : (t : Shape) (p : Part) (c d : Configuration) → HasValues d → IsWellMade t → IsClosedPart t p → IsRightPart t c p → AgreeOn p c d → IsRest t p d → KeepsRules t d
valid_by t p c d small made closed right kept rest = let setting = setting_from_right t d symbol_right in record { values = λ k l. small k; setting = setting.0; calculated = setting.1; choices = choice_right }
  where
    alike : Alike c d
    alike = record { outer = kept.outers; undeclared = kept.undeclared }

    agree : (ks : List ℕ) → Holds p ks → Agree c d ks
    agree [] h = tt
    agree (k ∷ ks) h = (kept.values k (All-head (λ j. p.symbol j ≡ true) k ks h), agree ks (All-tail (λ j. p.symbol j ≡ true) k ks h))

    free_symbol : (k : ℕ) → is_member t k ≡ false → d.value k ≡ free_value t d k → d.value k ≡ calculated_of t d None k
    free_symbol k own e = by (symbol_at t k).member_of own e
      where
        by : (o : Option ℕ) → is_some o ≡ false → d.value k ≡ free_by t d k o → d.value k ≡ calculated_of t d None k
        by None m f = f
        by (Some i) m f = absurd (false≢true (sym m))

    symbol_right : (k : ℕ) → k < length t.symbols → is_member t k ≡ false → IsRight t d k
    symbol_right k l own = by (p.symbol k) refl
      where
        by : (b : Bool) → p.symbol k ≡ b → IsRight t d k
        by true e = right_stays t c d (alike_in t c d alike) k (agree (symbol_references t k) (closed.symbols k own e)) (kept.values k e) (right.symbols k own e)
        by false e = (None, (tt, sym (free_symbol k own (rest.values k l e))))

    choice_right : (i : ℕ) → i < length t.choices → IsRightChoice t d i
    choice_right i l = by (p.choice i) refl
      where
        known_members : p.choice i ≡ true → (j : ℕ) → is_among (choice_at t i).members j ≡ true → c.value j ≡ d.value j
        known_members e j h = kept.values j (closed.together i j (made.of_choice i j h) ∙ e)

        free_member : p.choice i ≡ false → (j : ℕ) → is_among (choice_at t i).members j ≡ true → d.value j ≡ picked_value (picked_of t d i) j
        free_member e j h = rest.values j (member_within t made i j h) (closed.together i j (made.of_choice i j h) ∙ e) ∙ ap (free_by t d j) (made.of_choice i j h)

        by : (b : Bool) → p.choice i ≡ b → IsRightChoice t d i
        by true e = choice_by_test t d i (choice_stays t c d (alike_in t c d alike) i (kept.modes i e) (known_members e) (agree (choice_references t i) (closed.choices i e)) (test_by_choice t c i (right.choices i e)))
        by false e = free_is_right t made d i (rest.modes i l e) (free_member e)
