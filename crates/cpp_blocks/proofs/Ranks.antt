-- A fact names nodes of its source that stand before it.
use Rattle.std.proofs.Common.{◌≡◌, ℕ, ◌+◌, ◌-◌, ◌<◌, ◌≤◌, zero, suc, Bool, true, false, ◌||◌, cond, List, [], ◌∷◌, ◌++◌, map, filter, length, length-append, get_or, refl, sym, ap, ◌∙◌, subst, arith, append_assoc}
use Rattle.std.specs.Prelude.{is_ok}
use Rattle.std.specs.List.{list_any, list_all, flat_map}
use Rattle.std.proofs.Math.ListN.{get_or-append}
use Rattle.std.proofs.Math.Seq.{get_or-append_seam}
use Rattle.std.proofs.lemmas.List.{append-nil}
use Rattle.std.proofs.lemmas.List.Concat.{flat_map-append}
use Rattle.ut_text.specs.Text.{text_eq, text_equiv}
use Rattle.ut_logic.specs.declared.node.Node.{Node}
use Rattle.ut_logic.specs.declared.node.Node.TheVariants as node
use Rattle.ut_logic.specs.declared.facts.Fact.{Fact}
use Rattle.ut_logic.specs.declared.formula.Formula.{Formula}
use Rattle.cpp_directives.specs.declared.directive.Directive.{Directive}
use Rattle.cpp_directives.specs.declared.directive.What.{What}
use Rattle.cpp_directives.specs.declared.directive.What.TheVariants.{If, Elif, Else, Endif, Define, Undef}
use Rattle.cpp_directives.specs.Chains.{Earlier}
use Rattle.cpp_directives.specs.WellFormed.{all_passing, IsWellFormed}
use Rattle.cpp_directives.proofs.ChainLaws.{next_passes}
use Rattle.cpp_blocks.specs.declared.groups.OpenGroups.{OpenGroups}
use Rattle.cpp_blocks.specs.declared.starts.StartOf.{StartOf}
use Rattle.cpp_blocks.specs.declared.starts.BuiltOf.{BuiltOf}
use Rattle.cpp_blocks.specs.Blocks.{count_of, parent_at}
use Rattle.cpp_blocks.specs.Facts.{file_fact, start_fact, is_block, states_from, at_first, facts_of}
use Rattle.cpp_blocks.specs.Formulas.{source_of, turns_after, name_in, state_node, formula_of, states_in}
use Rattle.cpp_blocks.specs.Mentions.{names_at, names_in, names_of}
use Rattle.cpp_blocks.specs.Nesting.{opener_at, openers_from, opener_of}
use Rattle.cpp_blocks.specs.Nodes.{turn_place, rank_of, IsBelow, IsOrderly, IsOfTree, IsListedStart, IsListedBuilt}
use Rattle.cpp_blocks.specs.Steps.{Standing, current, group_fact, next_group, define_fact, undef_fact, fact_at, facts_along, after}
use Rattle.cpp_blocks.specs.Steps as Steps
use Rattle.cpp_blocks.specs.Turns.{touched_at, touched_in, turn_of}
use Rattle.cpp_blocks.proofs.Along.{AllKnown, each_both}
use Rattle.cpp_blocks.proofs.CondTruth.{is_known, Known, known_front, known_back, and_front, and_back}
use Rattle.cpp_blocks.proofs.Listing.{start_member}
use Rattle.cpp_blocks.proofs.Meeting.{Each, each_of, all_of_each}
use Rattle.cpp_blocks.proofs.NestedLaws.{as_many}
use Rattle.cpp_blocks.proofs.Numbers.{place_within, place_is, all_known, Covers, none_covered, next_step}
use Rattle.cpp_blocks.proofs.Sorted.{states_all, blocks_all}

-- ---- opening places

openers-append : (xs ys : List Directive) (k : ℕ) → openers_from k (xs ++ ys) ≡ openers_from k xs ++ openers_from (k + length xs) ys
openers-append [] ys k = ap (λ n. openers_from n ys) (none k)
  where
    none : (k : ℕ) → k ≡ k + 0
    none k = omega arith
openers-append (x ∷ xs) ys k = ap (λ os. opener_at k x.what ++ os) (openers-append xs ys (suc k) ∙ ap (λ n. openers_from (suc k) xs ++ openers_from n ys) (more k (length xs)))
    ∙ sym (append_assoc (opener_at k x.what) (openers_from (suc k) xs) (openers_from (k + suc (length xs)) ys))
  where
    more : (k n : ℕ) → suc k + n ≡ k + suc n
    more k n = omega arith

opener_below : (w : What) (k n : ℕ) → k < n → Each (λ o. o < n) (opener_at k w)
opener_below (If c) k n l = (l, tt)
opener_below (Elif c) k n l = (l, tt)
opener_below Else k n l = (l, tt)
opener_below Endif k n l = tt
opener_below (Define x gives) k n l = tt
opener_below (Undef x) k n l = tt

openers_below : (ds : List Directive) (k n : ℕ) → k + length ds ≤ n → Each (λ o. o < n) (openers_from k ds)
openers_below [] k n l = tt
openers_below (d ∷ ds) k n l = each_both (λ o. o < n) (opener_at k d.what) (openers_from (suc k) ds) (opener_below d.what k n (omega arith)) (openers_below ds (suc k) n (omega arith))

each_at : (n : ℕ) (xs : List ℕ) → Each (λ o. o < n) xs → (j : ℕ) → j < length xs → get_or xs j 0 < n
each_at n [] h j l = absurd (omega arith)
each_at n (x ∷ xs) h zero l = h.0
each_at n (x ∷ xs) h (suc j) l = each_at n xs h.1 j (omega arith)

-- ---- turns

abbrev touches : List ℕ → What → Bool
touches name w = list_any (λ line. text_eq line name) (touched_at w)

turn_next : (d : Directive) (ds : List Directive) (name : List ℕ) → turn_of (touched_in (d ∷ ds)) name ≡ cond (touches name d.what) (suc (turn_of (touched_in ds) name)) (turn_of (touched_in ds) name)
turn_next d ds name = by d.what
  where
    one : (b : Bool) (x : List ℕ) → length (cond b (x ∷ filter (λ line. text_eq line name) (touched_in ds)) (filter (λ line. text_eq line name) (touched_in ds))) ≡ cond (b || false) (suc (turn_of (touched_in ds) name)) (turn_of (touched_in ds) name)
    one true x = refl
    one false x = refl

    by : (w : What) → turn_of (touched_at w ++ touched_in ds) name ≡ cond (list_any (λ line. text_eq line name) (touched_at w)) (suc (turn_of (touched_in ds) name)) (turn_of (touched_in ds) name)
    by (If c) = refl
    by (Elif c) = refl
    by Else = refl
    by Endif = refl
    by (Define x gives) = one (text_eq x name) x
    by (Undef x) = one (text_eq x name) x

turn_zero : (ds : List Directive) (name : List ℕ) → turn_place ds name 0 ≡ 0
turn_zero [] name = refl
turn_zero (d ∷ ds) name = refl

place_suc : (d : Directive) (ds : List Directive) (name : List ℕ) (t : ℕ) → turn_place (d ∷ ds) name (suc t) ≡ suc (turn_place ds name (cond (touches name d.what) t (suc t)))
place_suc d ds name t = refl

-- the last macro line so far stands among the directives so far
turn_front : (front rest : List Directive) (name : List ℕ) → turn_place (front ++ rest) name (turn_of (touched_in front) name) ≤ length front
turn_front [] rest name = subst (λ n. n ≤ 0) (sym (turn_zero rest name)) (omega arith)
turn_front (d ∷ front) rest name = subst (λ t. turn_place (d ∷ (front ++ rest)) name t ≤ suc (length front)) (sym (turn_next d front name)) (by (touches name d.what) refl (turn_of (touched_in front) name) (turn_front front rest name))
  where
    by : (b : Bool) → touches name d.what ≡ b → (t : ℕ) → turn_place (front ++ rest) name t ≤ length front → turn_place (d ∷ (front ++ rest)) name (cond b (suc t) t) ≤ suc (length front)
    by true e t l = subst (λ n. n ≤ suc (length front)) (sym (place_suc d (front ++ rest) name t ∙ ap (λ b. suc (turn_place (front ++ rest) name (cond b t (suc t)))) e)) (omega (arith, l))
    by false e zero l = omega arith
    by false e (suc t) l = subst (λ n. n ≤ suc (length front)) (sym (place_suc d (front ++ rest) name t ∙ ap (λ b. suc (turn_place (front ++ rest) name (cond b t (suc t)))) e)) (omega (arith, l))

-- the next one stands where it stands
turn_here : (front rest : List Directive) (d : Directive) (name : List ℕ) → touches name d.what ≡ true → turn_place (front ++ d ∷ rest) name (suc (turn_of (touched_in front) name)) ≡ suc (length front)
turn_here [] rest d name h = place_suc d rest name 0 ∙ (ap (λ b. suc (turn_place rest name (cond b 0 1))) h ∙ ap suc (turn_zero rest name))
turn_here (x ∷ front) rest d name h = ap (λ t. turn_place (x ∷ (front ++ d ∷ rest)) name (suc t)) (turn_next x front name) ∙ by (touches name x.what) refl (turn_here front rest d name h)
  where
    by : (b : Bool) → touches name x.what ≡ b → turn_place (front ++ d ∷ rest) name (suc (turn_of (touched_in front) name)) ≡ suc (length front)
        → turn_place (x ∷ (front ++ d ∷ rest)) name (suc (cond b (suc (turn_of (touched_in front) name)) (turn_of (touched_in front) name))) ≡ suc (suc (length front))
    by true e ih = place_suc x (front ++ d ∷ rest) name (suc (turn_of (touched_in front) name)) ∙ (ap (λ b. suc (turn_place (front ++ d ∷ rest) name (cond b (suc (turn_of (touched_in front) name)) (suc (suc (turn_of (touched_in front) name)))))) e ∙ ap suc ih)
    by false e ih = place_suc x (front ++ d ∷ rest) name (turn_of (touched_in front) name) ∙ (ap (λ b. suc (turn_place (front ++ d ∷ rest) name (cond b (turn_of (touched_in front) name) (suc (turn_of (touched_in front) name))))) e ∙ ap suc ih)

turn_grows : (front rest : List Directive) (name : List ℕ) → turn_of (touched_in front) name ≤ turn_of (touched_in (front ++ rest)) name
turn_grows [] rest name = omega arith
turn_grows (d ∷ front) rest name = by (touches name d.what) (turn_next d front name) (turn_next d (front ++ rest) name) (turn_grows front rest name)
  where
    by : (b : Bool) → turn_of (touched_in (d ∷ front)) name ≡ cond b (suc (turn_of (touched_in front) name)) (turn_of (touched_in front) name)
        → turn_of (touched_in (d ∷ (front ++ rest))) name ≡ cond b (suc (turn_of (touched_in (front ++ rest)) name)) (turn_of (touched_in (front ++ rest)) name)
        → turn_of (touched_in front) name ≤ turn_of (touched_in (front ++ rest)) name → turn_of (touched_in (d ∷ front)) name ≤ turn_of (touched_in (d ∷ (front ++ rest))) name
    by true p q l = omega (arith, p, q, l)
    by false p q l = omega (arith, p, q, l)

-- ---- where a directive stands

-- the blocks of these groups were begun
abbrev GroupsBelow : ℕ → List OpenGroups → Type 0
GroupsBelow next [] = Unit {0}
GroupsBelow next (c ∷ cs) = (c.parent < next) × (c.current < next) × Each (λ g. g < next) c.earlier × GroupsBelow next cs

each_wider : (m n : ℕ) (xs : List ℕ) → m ≤ n → Each (λ g. g < m) xs → Each (λ g. g < n) xs
each_wider m n [] l h = tt
each_wider m n (x ∷ xs) l h = (omega (arith, h.0), each_wider m n xs l h.1)

groups_wider : (m n : ℕ) (cs : List OpenGroups) → m ≤ n → GroupsBelow m cs → GroupsBelow n cs
groups_wider m n [] l h = tt
groups_wider m n (c ∷ cs) l h = (omega (arith, h.0), omega (arith, h.1), each_wider m n c.earlier l h.2, groups_wider m n cs l h.3)

-- the earlier directives, and where the next one stands
record Stood (front : List Directive) (at : Standing) : Type 0 where
  next_is : at.next ≡ suc (length (openers_from 0 front))
  below : GroupsBelow at.next at.chains

current_below : (next : ℕ) (cs : List OpenGroups) → 0 < next → GroupsBelow next cs → current cs < next
current_below next [] l h = l
current_below next (c ∷ cs) l h = h.1

open_more : (next : ℕ) (cs : List OpenGroups) → 0 < next → GroupsBelow next cs → GroupsBelow (suc next) (record { parent = current cs; earlier = []; current = next } ∷ cs)
open_more next cs l h = (let b : current cs < next = current_below next cs l h in omega arith, omega arith, tt, groups_wider next (suc next) cs (omega arith) h)

turn_more : (next : ℕ) (c : OpenGroups) (cs : List OpenGroups) → GroupsBelow next (c ∷ cs) → GroupsBelow (suc next) (record { parent = c.parent; earlier = c.earlier ++ c.current ∷ []; current = next } ∷ cs)
turn_more next c cs h = (omega (arith, h.0), omega arith, each_both (λ g. g < suc next) c.earlier (c.current ∷ []) (each_wider next (suc next) c.earlier (omega arith) h.2) (omega (arith, h.1), tt), groups_wider next (suc next) cs (omega arith) h.3)

close_more : (next : ℕ) (c : OpenGroups) (cs : List OpenGroups) → GroupsBelow next (c ∷ cs) → GroupsBelow next cs
close_more next c cs h = h.3

turn_below : (at : Standing) (cs : List OpenGroups) → at.chains ≡ cs → GroupsBelow at.next cs → GroupsBelow (Steps.turned at cs).next (Steps.turned at cs).chains
turn_below at [] e h = subst (GroupsBelow at.next) (sym e) tt
turn_below at (c ∷ cs) e h = turn_more at.next c cs h

close_below : (next : ℕ) (cs : List OpenGroups) → GroupsBelow next cs → GroupsBelow next (Steps.round cs)
close_below next [] h = tt
close_below next (c ∷ cs) h = close_more next c cs h

after_below : (w : What) (at : Standing) → 0 < at.next → GroupsBelow at.next at.chains → GroupsBelow (after at w).next (after at w).chains
after_below (If c) at l h = open_more at.next at.chains l h
after_below (Elif c) at l h = turn_below at at.chains refl h
after_below Else at l h = turn_below at at.chains refl h
after_below Endif at l h = close_below at.next at.chains h
after_below (Define x gives) at l h = h
after_below (Undef x) at l h = h

as_long : (w : What) (place : ℕ) (inside : List ℕ) → length (opener_at place w) ≡ length (parent_at inside w)
as_long (If c) place inside = refl
as_long (Elif c) place inside = refl
as_long Else place inside = refl
as_long Endif place inside = refl
as_long (Define x gives) place inside = refl
as_long (Undef x) place inside = refl

stood_next : (front : List Directive) (d : Directive) (at : Standing) → Stood front at → (after at d.what).next ≡ at.next + length (parent_at [] d.what) → Stood (front ++ d ∷ []) (after at d.what)
stood_next front d at s next = record {
  next_is =
      let all : length (openers_from 0 (front ++ d ∷ [])) ≡ length (openers_from 0 front ++ (opener_at (0 + length front) d.what ++ [])) = ap length (openers-append front (d ∷ []) 0) in
      let cut : length (openers_from 0 front ++ (opener_at (0 + length front) d.what ++ [])) ≡ length (openers_from 0 front) + length (opener_at (0 + length front) d.what ++ []) = length-append (openers_from 0 front) (opener_at (0 + length front) d.what ++ []) in
      let none : length (opener_at (0 + length front) d.what ++ []) ≡ length (opener_at (0 + length front) d.what) = ap length (append-nil (opener_at (0 + length front) d.what)) in
      let same : length (opener_at (0 + length front) d.what) ≡ length (parent_at [] d.what) = as_long d.what (0 + length front) [] in
      omega (arith, next, s.next_is, all, cut, none, same);
  below = after_below d.what at (omega (arith, s.next_is)) s.below;
}

module _ (file : ℕ) (all : List Directive) where
  -- a block that was begun
  block_below : (front ds : List Directive) (at : Standing) → all ≡ front ++ ds → Stood front at → (b : ℕ) → b < at.next → IsBelow file all (suc (length front)) (node.Block file b)
  block_below front ds at e s zero l = (refl, omega arith, omega arith)
  block_below front ds at e s (suc j) l =
      let opened : openers_from 0 all ≡ openers_from 0 front ++ openers_from (0 + length front) ds = ap (openers_from 0) e ∙ openers-append front ds 0 in
      let early : j < length (openers_from 0 front) = omega (arith, s.next_is) in
      let many : length (openers_from 0 all) ≡ count_of all = as_many all 0 1 [] in
      let long : length (openers_from 0 all) ≡ length (openers_from 0 front) + length (openers_from (0 + length front) ds) = ap length opened ∙ length-append (openers_from 0 front) (openers_from (0 + length front) ds) in
      let at_j : suc j - 1 ≡ j = omega arith in
      let is : opener_of all (suc j) ≡ get_or (openers_from 0 front) j 0 = ap (λ k. get_or (openers_from 0 all) k 0) at_j ∙ (ap (λ os. get_or os j 0) opened ∙ get_or-append (openers_from 0 front) (openers_from (0 + length front) ds) 0 j early) in
      let low : get_or (openers_from 0 front) j 0 < length front = each_at (length front) (openers_from 0 front) (openers_below front 0 (length front) (omega arith)) j early in
      (refl, omega (arith, early, many, long), omega (arith, is, low))

  -- the block that a directive begins
  block_rank : (front ds : List Directive) (d : Directive) (at : Standing) → all ≡ front ++ d ∷ ds → Stood front at → opener_at (0 + length front) d.what ≡ (0 + length front) ∷ [] → rank_of all (node.Block file at.next) ≡ suc (length front)
  block_rank front ds d at e s begins = ap (λ b. rank_of all (node.Block file b)) s.next_is ∙ ap suc
      (ap (λ k. get_or (openers_from 0 all) k 0) at_n ∙ (ap (λ os. get_or os (length (openers_from 0 front)) 0) opened ∙ (get_or-append_seam (openers_from 0 front) (0 + length front) (openers_from (suc (0 + length front)) ds) 0 ∙ zero_plus)))
    where
      at_n : suc (length (openers_from 0 front)) - 1 ≡ length (openers_from 0 front)
      at_n = omega arith

      zero_plus : 0 + length front ≡ length front
      zero_plus = omega arith

      opened : openers_from 0 all ≡ openers_from 0 front ++ (0 + length front) ∷ openers_from (suc (0 + length front)) ds
      opened = ap (openers_from 0) e ∙ (openers-append front (d ∷ ds) 0 ∙ ap (λ os. openers_from 0 front ++ (os ++ openers_from (suc (0 + length front)) ds)) begins)

  -- a state that was given
  state_below : (front ds : List Directive) → all ≡ front ++ ds → (name : List ℕ) → is_known (source_of file all) name ≡ true → IsBelow file all (suc (length front)) (state_node (source_of file all) name (turn_of (touched_in front) name))
  state_below front ds e name known =
      let is : get_or (names_of all) (name_in (source_of file all) name) [] ≡ name = place_is name (names_of all) known in
      let many : turn_of (touched_in front) name ≤ turn_of (touched_in all) name = subst (λ (xs : List Directive). turn_of (touched_in front) name ≤ turn_of (touched_in xs) name) (sym e) (turn_grows front ds name) in
      let low : turn_place all name (turn_of (touched_in front) name) ≤ length front = subst (λ (xs : List Directive). turn_place xs name (turn_of (touched_in front) name) ≤ length front) (sym e) (turn_front front ds name) in (
        refl,
        place_within (text_eq name) (names_of all) known,
        subst (λ n. turn_of (touched_in front) name ≤ turn_of (touched_in all) n) (sym is) many,
        subst (λ n. turn_place all n (turn_of (touched_in front) name) < suc (length front)) (sym is) (omega (arith, low)),
      )

  -- the state that a macro line gives
  state_rank : (front ds : List Directive) (d : Directive) (name : List ℕ) → all ≡ front ++ d ∷ ds → touched_at d.what ≡ name ∷ [] → is_known (source_of file all) name ≡ true
      → rank_of all (state_node (source_of file all) name (suc (turn_of (touched_in front) name))) ≡ suc (length front)
  state_rank front ds d name e is known = ap (λ n. turn_place all n (suc (turn_of (touched_in front) name))) (place_is name (names_of all) known)
      ∙ (ap (λ (xs : List Directive). turn_place xs name (suc (turn_of (touched_in front) name))) e ∙ turn_here front ds d name touched)
    where
      touched : touches name d.what ≡ true
      touched = ap (λ xs. list_any (λ line. text_eq line name) xs) is ∙ ap (λ b. b || false) (text_equiv.refl name)

  blocks_below : (rank : ℕ) (gs : List ℕ) → Each (λ g. IsBelow file all rank (node.Block file g)) gs → Each (IsBelow file all rank) (map (λ g. node.Block file g) gs)
  blocks_below rank [] h = tt
  blocks_below rank (g ∷ gs) h = (h.0, blocks_below rank gs h.1)

  these_below : (front ds : List Directive) (at : Standing) → all ≡ front ++ ds → Stood front at → (gs : List ℕ) → Each (λ g. g < at.next) gs → Each (λ g. IsBelow file all (suc (length front)) (node.Block file g)) gs
  these_below front ds at e s [] h = tt
  these_below front ds at e s (g ∷ gs) h = (block_below front ds at e s g h.0, these_below front ds at e s gs h.1)

  states_below : (front ds : List Directive) → all ≡ front ++ ds → (names : List (List ℕ)) → Known (source_of file all) names
      → Each (IsBelow file all (suc (length front))) (map (λ name. state_node (source_of file all) name (turn_of (touched_in front) name)) names)
  states_below front ds e [] known = tt
  states_below front ds e (x ∷ xs) known = (
    state_below front ds e x (and_front (is_known (source_of file all) x) (list_all (is_known (source_of file all)) xs) known),
    states_below front ds e xs (and_back (is_known (source_of file all) x) (list_all (is_known (source_of file all)) xs) known),
  )

  orderly : (f : Fact) (rank : ℕ) → rank_of all f.node ≡ rank → Each (IsBelow file all rank) f.names → IsOrderly file all f
  orderly f rank e h = all_of_each (IsBelow file all (rank_of all f.node)) f.names (subst (λ r. Each (IsBelow file all r) f.names) (sym e) h)

  group_orderly : (front ds : List Directive) (d : Directive) (at : Standing) (parent : ℕ) (earlier : List ℕ) (states : List Node) (cond : Formula) → all ≡ front ++ d ∷ ds → Stood front at
      → opener_at (0 + length front) d.what ≡ (0 + length front) ∷ [] → parent < at.next → Each (λ g. g < at.next) earlier → Each (IsBelow file all (suc (length front))) states → IsOrderly file all (group_fact file at.next parent earlier states cond)
  group_orderly front ds d at parent earlier states cond e s begins p gs ss = orderly (group_fact file at.next parent earlier states cond) (suc (length front)) (block_rank front ds d at e s begins) (
    block_below front (d ∷ ds) at e s parent p,
    each_both (IsBelow file all (suc (length front))) (map (λ g. node.Block file g) earlier) states (blocks_below (suc (length front)) earlier (these_below front (d ∷ ds) at e s earlier gs)) ss,
  )

  next_orderly : (front ds : List Directive) (d : Directive) (at : Standing) (cs : List OpenGroups) (states : List Node) (cond : Formula) → all ≡ front ++ d ∷ ds → Stood front at
      → opener_at (0 + length front) d.what ≡ (0 + length front) ∷ [] → GroupsBelow at.next cs → Each (IsBelow file all (suc (length front))) states → Each (IsOrderly file all) (next_group file at.next cs states cond)
  next_orderly front ds d at [] states cond e s begins h ss = tt
  next_orderly front ds d at (c ∷ cs) states cond e s begins h ss = (group_orderly front ds d at c.parent (c.earlier ++ c.current ∷ []) states cond e s begins h.0 (each_both (λ g. g < at.next) c.earlier (c.current ∷ []) h.2 (h.1, tt)) ss, tt)

  line_orderly : (front ds : List Directive) (d : Directive) (at : Standing) (name : List ℕ) (f : Fact) → all ≡ front ++ d ∷ ds → Stood front at → touched_at d.what ≡ name ∷ [] → is_known (source_of file all) name ≡ true
      → f.node ≡ state_node (source_of file all) name (suc (turn_of (touched_in front) name)) → f.names ≡ state_node (source_of file all) name (turn_of (touched_in front) name) ∷ node.Block file (current at.chains) ∷ [] → IsOrderly file all f
  line_orderly front ds d at name f e s is known own names = orderly f (suc (length front)) (ap (rank_of all) own ∙ state_rank front ds d name e is known) (subst (Each (IsBelow file all (suc (length front)))) (sym names) (
    state_below front (d ∷ ds) e name known,
    (block_below front (d ∷ ds) at e s (current at.chains) (current_below at.next at.chains (omega (arith, s.next_is)) s.below), tt),
  ))

  fact_orderly : (front ds : List Directive) (line : ℕ) (w : What) (at : Standing) → all ≡ front ++ record { line = line; what = w } ∷ ds → Stood front at → Known (source_of file all) (names_at w)
      → Each (IsOrderly file all) (fact_at (source_of file all) (turns_after (touched_in front)) at line w)
  fact_orderly front ds line (If c) at e s known = (
    group_orderly front ds (record { line = line; what = If c }) at (current at.chains) [] (states_in (source_of file all) (turns_after (touched_in front)) c) (formula_of (source_of file all) (turns_after (touched_in front)) c)
        e s refl (current_below at.next at.chains (omega (arith, s.next_is)) s.below) tt (states_below front (record { line = line; what = If c } ∷ ds) e (names_in c) known),
    tt,
  )
  fact_orderly front ds line (Elif c) at e s known = next_orderly front ds (record { line = line; what = Elif c }) at at.chains (states_in (source_of file all) (turns_after (touched_in front)) c) (formula_of (source_of file all) (turns_after (touched_in front)) c)
      e s refl s.below (states_below front (record { line = line; what = Elif c } ∷ ds) e (names_in c) known)
  fact_orderly front ds line Else at e s known = next_orderly front ds (record { line = line; what = Else }) at at.chains [] _ e s refl s.below tt
  fact_orderly front ds line Endif at e s known = tt
  fact_orderly front ds line (Define x gives) at e s known = (line_orderly front ds (record { line = line; what = Define x gives }) at x (define_fact (source_of file all) x (turn_of (touched_in front) x) (current at.chains) line gives) e s refl (and_front (is_known (source_of file all) x) true known) refl refl, tt)
  fact_orderly front ds line (Undef x) at e s known = (line_orderly front ds (record { line = line; what = Undef x }) at x (undef_fact (source_of file all) x (turn_of (touched_in front) x) (current at.chains)) e s refl (and_front (is_known (source_of file all) x) true known) refl refl, tt)

  lines_orderly : (ds front : List Directive) (at : Standing) (before : List Earlier) → all ≡ front ++ ds → Stood front at → Covers before at.chains → is_ok (all_passing before ds) ≡ true → AllKnown (source_of file all) ds
      → Each (IsOrderly file all) (facts_along (source_of file all) (touched_in front) at ds)
  lines_orderly [] front at before e s c ok known = tt
  lines_orderly (d ∷ ds) front at before e s c ok known =
      let p = next_passes before d ds ok in
      let n = next_step d.what d.line at before p.0 [] c p.1 in
      each_both (IsOrderly file all) (fact_at (source_of file all) (turns_after (touched_in front)) at d.line d.what) (facts_along (source_of file all) (touched_in front ++ touched_at d.what) (after at d.what) ds)
      (fact_orderly front ds d.line d.what at e s (known_front (source_of file all) (names_at d.what) (flat_map (λ x. names_at x.what) ds) known))
      (subst (λ ts. Each (IsOrderly file all) (facts_along (source_of file all) ts (after at d.what) ds)) touched
      (lines_orderly ds (front ++ d ∷ []) (after at d.what) p.0 (e ∙ sym (append_assoc front (d ∷ []) ds)) (stood_next front d at s n.next_is) n.covers p.2 (known_back (source_of file all) (names_at d.what) (flat_map (λ x. names_at x.what) ds) known)))
    where
      touched : touched_in (front ++ d ∷ []) ≡ touched_in front ++ touched_at d.what
      touched = flat_map-append (λ (x : Directive). touched_at x.what) front (d ∷ []) ∙ ap (λ ts. touched_in front ++ ts) (append-nil (touched_at d.what))

  tree_below : (rank : ℕ) (ns : List Node) → Each IsOfTree ns → Each (IsBelow file all rank) ns
  tree_below rank [] h = tt
  tree_below rank (n ∷ ns) h = (one n h.0, tree_below rank ns h.1)
    where
      one : (n : Node) → IsOfTree n → IsBelow file all rank n
      one (node.Sym a) t = tt
      one (node.Choice a) t = tt
      one (node.Block f b) t = absurd t
      one (node.State f a t) h = absurd h

-- each fact of a source names nodes that stand before it
pub all_orderly : (file : ℕ) (ds : List Directive) (starts : List StartOf) (built : BuiltOf) → IsWellFormed ds → Each IsListedStart starts → IsListedBuilt built → Each (IsOrderly file ds) (facts_of file ds starts built)
all_orderly file ds starts built formed ls lb = each_both (IsOrderly file ds) (file_fact file built ∷ filter (λ f. is_block f.node) (facts_along (source_of file ds) [] at_first ds)) (states_from file (facts_along (source_of file ds) [] at_first ds) 0 starts)
    (orderly file ds (file_fact file built) 0 refl (tree_below file ds 0 built.names (each_of IsOfTree built.names lb.nodes)), blocks_all (IsOrderly file ds) (facts_along (source_of file ds) [] at_first ds) lines)
    (states_all (IsOrderly file ds) file (facts_along (source_of file ds) [] at_first ds) 0 starts lines
    (λ j s e. orderly file ds (start_fact file (0 + j) s) 0 (started (0 + j)) (tree_below file ds 0 s.names (each_of IsOfTree s.names (start_member starts ls j s e).nodes))))
  where
    lines : Each (IsOrderly file ds) (facts_along (source_of file ds) [] at_first ds)
    lines = lines_orderly file ds ds [] at_first [] refl (record { next_is = refl; below = tt }) none_covered formed.chains (all_known file ds)

    started : (k : ℕ) → turn_place ds (get_or (names_of ds) k []) 0 ≡ 0
    started k = turn_zero ds (get_or (names_of ds) k [])
