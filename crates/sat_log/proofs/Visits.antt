-- A visit goes on from slot to slot.
use Rattle.std.proofs.Common.{◌≡◌, ◌≢◌, ℕ, zero, suc, ◌+◌, ◌-◌, ◌*◌, ◌/◌, ◌%◌, ◌<◌, ◌≤◌, List, [], ◌∷◌, ◌++◌, length, map, get_or, set, ◌⊎◌, inl, inr, refl, sym, ap, ◌∙◌, subst, arith}
use Rattle.std.specs.Prelude.{Contains}
use Rattle.std.proofs.lemmas.List.{get_or-set_same, get_or-set_other, get_or_default}
use Rattle.std.proofs.lemmas.List.Elements.{All-contains}
use Rattle.std.proofs.lemmas.Bool.{cases_eq}
use Rattle.ut_logic.specs.declared.literals.Lit.{Lit}
use Rattle.ut_logic.specs.Clauses.{negated, IsWithin}
use Rattle.log_check.proofs.Resolvents.{contains_head, contains_tail, contains_cases, cases_literal}
use Rattle.sat_log.specs.declared.marks.Mark.{Mark}
use Rattle.sat_log.specs.declared.values.Value.{Value}
use Rattle.sat_log.specs.declared.values.Value.TheVariants.{Unset, True, False}
use Rattle.sat_log.specs.declared.visiting.Watched.{Watched}
use Rattle.sat_log.specs.Codes.{literal_of, truth_of}
use Rattle.sat_log.specs.Links.{none, IsLinked, IsTaken}
use Rattle.log_check.specs.Derivations.{IsNumbered}
use Rattle.sat_log.specs.Moves.{IsSet, IsFalse, IsFalseClause}
use Rattle.sat_log.specs.Waiting.{WaitingView}
use Rattle.sat_log.specs.Watches.{IsFineBefore, IsGood, watch_at, clause_in, IsGoodAt, AreGood, AreFineBefore, IsConflict, AreSized, IsHit, IsToVisit, IsVisiting}
use Rattle.sat_log.proofs.Linking.{few_off, none_off, some_off}
use Rattle.sat_log.proofs.Numbering.{same_code}
use Rattle.sat_log.proofs.Watching.{good_push, good_list, good_swap, before_swap, false_now, seen_true, seen_forces, seen_instead, before_instead, other_free}
use Rattle.sat_log.proofs.Looking.{code_in, range_in, rest_false, code_open, literal_true, literal_false, literal_open, literal_not_true}
use Rattle.sat_log.proofs.Settled.{both_set}
use Rattle.sat_log.proofs.Back.{double}

-- the slot of the same clause's other watch
abbrev pub other_of : ℕ → ℕ
other_of slot = slot / 2 * 2 + (1 - slot % 2)

even_or_odd : (slot : ℕ) → (slot ≡ slot / 2 * 2) ⊎ (slot ≡ slot / 2 * 2 + 1)
even_or_odd slot = by (cases_eq slot (slot / 2 * 2))
  where
    by : (slot ≡ slot / 2 * 2) ⊎ (slot ≢ slot / 2 * 2) → (slot ≡ slot / 2 * 2) ⊎ (slot ≡ slot / 2 * 2 + 1)
    by (inl e) = inl e
    by (inr n) = inr (omega arith)

-- the same in numbers: the first of the two slots is even
module _ (w w' : Watched) (values : List Value) (ms : List Mark) (m : Mark) (code slot : ℕ) (rest : List ℕ)
    (v : IsVisiting w values ms m code slot (slot ∷ rest))
    (code' after : ℕ)
    (store : w'.store ≡ w.store) (watched : w'.links.watched.items ≡ set w.links.watched.items slot code')
    (linked : IsLinked w'.links after rest)
    (sized : AreSized (length values) w')
  where
    abbrev old : List ℕ
    old = w.links.watched.items

    abbrev place : ℕ
    place = slot / 2

    slot_low : slot < length old
    slot_low = let i = v.linked.inside slot (contains_head slot rest) in omega (arith, v.linked.room, v.linked.watch_room, i)

    at_code' : (s : ℕ) → Contains rest s → get_or w'.links.watched.items s 0 ≡ code
    at_code' s i =
        let n : s ≢ slot = λ e. v.linked.once.0 (subst (Contains rest) e i) in
        ap (λ t. get_or t s 0) watched ∙ get_or-set_other old slot s code' 0 n ∙ v.at_code s (contains_tail slot rest s i)

    -- the slots of another clause
    module _ (k : ℕ) (n : k ≢ place) where
      first_same : get_or w'.links.watched.items (k * 2) 0 ≡ get_or old (k * 2) 0
      first_same = ap (λ t. get_or t (k * 2) 0) watched ∙ get_or-set_other old slot (k * 2) code' 0 (λ e. n (omega arith))

      second_same : get_or w'.links.watched.items (k * 2 + 1) 0 ≡ get_or old (k * 2 + 1) 0
      second_same = ap (λ t. get_or t (k * 2 + 1) 0) watched ∙ get_or-set_other old slot (k * 2 + 1) code' 0 (λ e. n (omega arith))

      before_other : IsFineBefore (ms ++ m ∷ []) (clause_in w.store k) (watch_at old (k * 2)) (watch_at old (k * 2 + 1)) → IsFineBefore (ms ++ m ∷ []) (clause_in w'.store k) (watch_at w'.links.watched.items (k * 2)) (watch_at w'.links.watched.items (k * 2 + 1))
      before_other h = rw (store, first_same, second_same) h

      good_other : (marks : List Mark) → (Contains w.waiting.list k → Contains w'.waiting.list k) → (Contains w'.waiting.list k → Contains w.waiting.list k) → IsGoodAt marks w.store old w.waiting.list k → IsGoodAt marks w'.store w'.links.watched.items w'.waiting.list k
      good_other marks more less h = rw (store, first_same, second_same) (good_list marks w.waiting.list w'.waiting.list k (clause_in w.store k) (watch_at old (k * 2)) (watch_at old (k * 2 + 1)) more less h)

    -- the clause itself
    other_same : get_or w'.links.watched.items (other_of slot) 0 ≡ get_or old (other_of slot) 0
    other_same = ap (λ t. get_or t (other_of slot) 0) watched ∙ get_or-set_other old slot (other_of slot) code' 0 (λ e. absurd (omega arith))

    slot_new : get_or w'.links.watched.items slot 0 ≡ code'
    slot_new = ap (λ t. get_or t slot 0) watched ∙ get_or-set_same old slot code' 0 slot_low

    abbrev q : Lit
    q = watch_at old (other_of slot)

    -- facts on the slot's watch and the other one, by places
    placed : (P : Lit → Lit → Type 0) → ((a b : Lit) → P a b → P b a) → P (literal_of code') q → P (watch_at w'.links.watched.items (place * 2)) (watch_at w'.links.watched.items (place * 2 + 1))
    placed P swap h = elim (even_or_odd slot) [
      | inl e ↦
          let o : other_of slot ≡ place * 2 + 1 = omega arith in
          let first : get_or w'.links.watched.items (place * 2) 0 ≡ code' = ap (λ t. get_or w'.links.watched.items t 0) (sym e) ∙ slot_new in
          let second : get_or w'.links.watched.items (place * 2 + 1) 0 ≡ get_or old (other_of slot) 0 = ap (λ t. get_or w'.links.watched.items t 0) (sym o) ∙ other_same in
          subst (λ t. P t (watch_at w'.links.watched.items (place * 2 + 1))) (sym (ap literal_of first)) (subst (P (literal_of code')) (sym (ap literal_of second)) h)
      | inr e ↦
          let o : other_of slot ≡ place * 2 = omega arith in
          let second : get_or w'.links.watched.items (place * 2 + 1) 0 ≡ code' = ap (λ t. get_or w'.links.watched.items t 0) (sym e) ∙ slot_new in
          let first : get_or w'.links.watched.items (place * 2) 0 ≡ get_or old (other_of slot) 0 = ap (λ t. get_or w'.links.watched.items t 0) (sym o) ∙ other_same in
          subst (λ t. P t (watch_at w'.links.watched.items (place * 2 + 1))) (sym (ap literal_of first)) (subst (P q) (sym (ap literal_of second)) (swap (literal_of code') q h))
    ]

    -- the walk goes on where the clause is good now
    module _ (calm : w.conflict ≡ 0) (conflict : w'.conflict ≡ w.conflict)
        (more : (k : ℕ) → Contains w.waiting.list k → Contains w'.waiting.list k)
        (less : (k : ℕ) → Contains w'.waiting.list k → k ≢ place → Contains w.waiting.list k)
        (free : ¬ IsFalse (ms ++ m ∷ []) q)
        (before : IsFineBefore (ms ++ m ∷ []) (clause_in w.store place) (literal_of code') q)
        (good : IsGood (ms ++ m ∷ []) w'.waiting.list place (clause_in w.store place) (literal_of code') q) where
      -- the other slot doesn't wait in the list
      other_out : ¬ Contains rest (other_of slot)
      other_out i = free (subst (IsFalse (ms ++ m ∷ [])) (ap literal_of (sym (v.at_code (other_of slot) (contains_tail slot rest (other_of slot) i)))) (false_now ms m v.hit.apart (literal_of code) v.hit.hit))

      both_out : Contains rest (place * 2) ⊎ Contains rest (place * 2 + 1) → ⊥
      both_out i = elim (even_or_odd slot) [
        | inl e ↦
            let o : place * 2 + 1 ≡ other_of slot = omega arith in
            elim i [ inl j ↦ v.linked.once.0 (subst (Contains rest) (sym e) j) | inr j ↦ other_out (subst (Contains rest) o j) ]
        | inr e ↦
            let o : place * 2 ≡ other_of slot = omega arith in
            elim i [ inl j ↦ other_out (subst (Contains rest) o j) | inr j ↦ v.linked.once.0 (subst (Contains rest) (sym e) j) ]
      ]

      good_here : IsGoodAt (ms ++ m ∷ []) w'.store w'.links.watched.items w'.waiting.list place
      good_here = rw store (placed (λ a b. IsGood (ms ++ m ∷ []) w'.waiting.list place (clause_in w.store place) a b) (λ a b. good_swap (ms ++ m ∷ []) w'.waiting.list place (clause_in w.store place) a b) good)

      before_here : IsFineBefore (ms ++ m ∷ []) (clause_in w'.store place) (watch_at w'.links.watched.items (place * 2)) (watch_at w'.links.watched.items (place * 2 + 1))
      before_here = rw store (placed (λ a b. IsFineBefore (ms ++ m ∷ []) (clause_in w.store place) a b) (λ a b. before_swap (ms ++ m ∷ []) (clause_in w.store place) a b) before)

      -- a slot of another clause that isn't in what is left
      out_before : (k s : ℕ) → k ≢ place → s / 2 ≡ k → ¬ Contains rest s → ¬ Contains (slot ∷ rest) s
      out_before k s n e out i = elim (contains_cases slot rest s i) [ inl f ↦ n (sym e ∙ ap (λ t. t / 2) (sym f)) | inr j ↦ out j ]

      halved : (k : ℕ) → (k * 2 / 2 ≡ k) × ((k * 2 + 1) / 2 ≡ k)
      halved k = (omega arith, omega arith)

      pub goes_on : IsVisiting w' values ms m code after rest
      goes_on = record {
        sized = sized;
        linked = linked;
        hit = v.hit;
        at_code = at_code';
        before = λ k h. elim (cases_eq k place) [
          | inl e ↦ subst (λ t. IsFineBefore (ms ++ m ∷ []) (clause_in w'.store t) (watch_at w'.links.watched.items (t * 2)) (watch_at w'.links.watched.items (t * 2 + 1))) (sym e) before_here
          | inr n ↦ before_other k n (v.before k (subst (λ t. k < length t) store h))
        ];
        done = λ z k h out out'. elim (cases_eq k place) [
          | inl e ↦ subst (IsGoodAt (ms ++ m ∷ []) w'.store w'.links.watched.items w'.waiting.list) (sym e) good_here
          | inr n ↦ good_other k n (ms ++ m ∷ []) (more k) (λ i. less k i n) (v.done calm k (subst (λ t. k < length t) store h) (out_before k (k * 2) n (halved k).0 out) (out_before k (k * 2 + 1) n (halved k).1 out'))
        ];
        left = λ z k h i. elim (cases_eq k place) [
          | inl e ↦ absurd (both_out (subst (λ t. Contains rest (t * 2) ⊎ Contains rest (t * 2 + 1)) e i))
          | inr n ↦ good_other k n ms (more k) (λ j. less k j n) (v.left calm k (subst (λ t. k < length t) store h) (elim i [ inl j ↦ inl (contains_tail slot rest (k * 2) j) | inr j ↦ inr (contains_tail slot rest (k * 2 + 1) j) ]))
        ];
        listed = λ k i. rw store (elim (cases_eq k place) [
          | inl e ↦ let low = v.linked.inside slot (contains_head slot rest) in omega (arith, low, v.sized.slots)
          | inr n ↦ v.listed k (less k i n)
        ]);
        conflict = inl (conflict ∙ calm);
      }

    -- the walk goes on to relink where a clause is false, and the watch stays
    module _ (stays : code' ≡ code) (waiting : w'.waiting.list ≡ w.waiting.list) (some : w'.conflict ≢ 0) (false_clause : IsConflict (ms ++ m ∷ []) w'.store w'.conflict) where
      same_watch : (s : ℕ) → get_or w'.links.watched.items s 0 ≡ get_or old s 0
      same_watch s = elim (cases_eq s slot) [
        | inl e ↦ ap (λ t. get_or w'.links.watched.items t 0) e ∙ slot_new ∙ stays ∙ sym (v.at_code slot (contains_head slot rest)) ∙ ap (λ t. get_or old t 0) (sym e)
        | inr n ↦ ap (λ t. get_or t s 0) watched ∙ get_or-set_other old slot s code' 0 n
      ]

      pub relinks : IsVisiting w' values ms m code after rest
      relinks = record {
        sized = sized;
        linked = linked;
        hit = v.hit;
        at_code = at_code';
        before = λ k h. rw (store, same_watch (k * 2), same_watch (k * 2 + 1)) (v.before k (subst (λ t. k < length t) store h));
        done = λ z. absurd (some z);
        left = λ z. absurd (some z);
        listed = λ k i. rw store (v.listed k (subst (λ t. Contains t k) waiting i));
        conflict = false_clause;
      }

-- sizes stay
pub sized_same : (n : ℕ) (w w' : Watched) → AreSized n w → w'.store ≡ w.store → w'.links.slots ≡ w.links.slots → length w'.links.heads.items ≡ length w.links.heads.items → w'.waiting.room ≡ w.waiting.room → AreSized n w'
sized_same n w w' s store slots heads room = record {
  within = rw store s.within;
  slots = rw (store, slots) s.slots;
  room = rw (store, room) s.room;
  heads = heads ∙ s.heads;
  few = s.few;
}

-- what stands at the slot of the other watch
pub other_is : (w : Watched) (values : List Value) (ms : List Mark) (m : Mark) (code slot : ℕ) (rest : List ℕ) → IsVisiting w values ms m code slot (slot ∷ rest) → (other at : ℕ) → at ≡ other_of slot → other ≡ get_or w.links.watched.items at other → other ≡ get_or w.links.watched.items (other_of slot) 0
other_is w values ms m code slot rest v other at at_is e =
    let low : at < length w.links.watched.items = omega (arith, v.linked.inside slot (contains_head slot rest), v.linked.watch_room, v.sized.slots, at_is) in
    e ∙ get_or_default w.links.watched.items at other 0 low ∙ ap (λ t. get_or w.links.watched.items t 0) at_is

-- what a look at the clause shows, and how the visit goes on
module _ (w w' : Watched) (values : List Value) (ms : List Mark) (m : Mark) (code slot : ℕ) (rest : List ℕ)
    (v : IsVisiting w values ms m code slot (slot ∷ rest)) (calm : w.conflict ≡ 0)
    (codes : List ℕ) (lits : map literal_of codes ≡ clause_in w.store (slot / 2)) (other : ℕ) (is_other : other ≡ get_or w.links.watched.items (other_of slot) 0) where
  abbrev now : List Mark
  now = ms ++ m ∷ []

  abbrev c : List Lit
  c = clause_in w.store (slot / 2)

  place_in_store : slot / 2 < length w.store
  place_in_store = let low = v.linked.inside slot (contains_head slot rest) in omega (arith, low, v.sized.slots)

  abbrev here : Lit
  here = literal_of code

  abbrev there : Lit
  there = literal_of other

  there_is : watch_at w.links.watched.items (other_of slot) ≡ there
  there_is = ap literal_of (sym is_other)

  -- facts on the two watches by places are facts on this one and the other
  oriented : (P : Lit → Lit → Type 0) → ((a b : Lit) → P a b → P b a) → P (watch_at w.links.watched.items (slot / 2 * 2)) (watch_at w.links.watched.items (slot / 2 * 2 + 1)) → P here there
  oriented P swap h = elim (even_or_odd slot) [
    | inl e ↦
        let o : slot / 2 * 2 + 1 ≡ other_of slot = omega arith in
        let a : watch_at w.links.watched.items (slot / 2 * 2) ≡ here = ap (watch_at w.links.watched.items) (sym e) ∙ ap literal_of (v.at_code slot (contains_head slot rest)) in
        let b : watch_at w.links.watched.items (slot / 2 * 2 + 1) ≡ there = ap (watch_at w.links.watched.items) o ∙ there_is in
        subst (P here) b (subst (λ t. P t (watch_at w.links.watched.items (slot / 2 * 2 + 1))) a h)
    | inr e ↦
        let o : slot / 2 * 2 ≡ other_of slot = omega arith in
        let b : watch_at w.links.watched.items (slot / 2 * 2 + 1) ≡ here = ap (watch_at w.links.watched.items) (sym e) ∙ ap literal_of (v.at_code slot (contains_head slot rest)) in
        let a : watch_at w.links.watched.items (slot / 2 * 2) ≡ there = ap (watch_at w.links.watched.items) o ∙ there_is in
        subst (λ t. P t there) b (subst (λ t. P (watch_at w.links.watched.items (slot / 2 * 2 + 1)) t) a (swap (watch_at w.links.watched.items (slot / 2 * 2)) (watch_at w.links.watched.items (slot / 2 * 2 + 1)) h))
  ]

  in_list : Contains (slot ∷ rest) (slot / 2 * 2) ⊎ Contains (slot ∷ rest) (slot / 2 * 2 + 1)
  in_list = elim (even_or_odd slot) [
    | inl e ↦ inl (subst (Contains (slot ∷ rest)) e (contains_head slot rest))
    | inr e ↦ inr (subst (Contains (slot ∷ rest)) e (contains_head slot rest))
  ]

  was_good : IsGood ms w.waiting.list (slot / 2) c here there
  was_good = oriented (λ a b. IsGood ms w.waiting.list (slot / 2) c a b) (λ a b. good_swap ms w.waiting.list (slot / 2) c a b) (v.left calm (slot / 2) place_in_store in_list)

  was_before : IsFineBefore now c here there
  was_before = oriented (λ a b. IsFineBefore now c a b) (λ a b. before_swap now c a b) (v.before (slot / 2) place_in_store)

  within : IsWithin (length values) (map literal_of codes)
  within = rw lits (v.sized.within (slot / 2) [] place_in_store)

  pub other_range : (0 < (literal_of other).var) × ((literal_of other).var ≤ length values)
  other_range = All-contains (λ (l : Lit). (0 < l.var) × (l.var ≤ length values)) (map literal_of codes) there within (rw lits was_good.second)

  pub codes_range : (x : ℕ) → Contains codes x → (0 < (literal_of x).var) × ((literal_of x).var ≤ length values)
  codes_range x i = range_in now values v.hit.told v.hit.apart codes within x i

  -- a fact on the other watch, by its slot
  by_slot : (P : Lit → Lit → Type 0) (x : Lit) → P x there → P x (watch_at w.links.watched.items (other_of slot))
  by_slot P x h = subst (P x) (sym there_is) h

  stays_by_slot : (P : Lit → Lit → Type 0) (code' : ℕ) → code' ≡ code → P here there → P (literal_of code') (watch_at w.links.watched.items (other_of slot))
  stays_by_slot P code' stays h = by_slot P (literal_of code') (subst (λ k. P (literal_of k) there) (sym stays) h)

  module _ (code' after : ℕ) (store : w'.store ≡ w.store) (watched : w'.links.watched.items ≡ set w.links.watched.items slot code') (linked : IsLinked w'.links after rest) (sized : AreSized (length values) w') where
    -- the other watch is true
    pub goes_true : code' ≡ code → w'.conflict ≡ w.conflict → w'.waiting ≡ w.waiting → truth_of values other ≡ True → IsVisiting w' values ms m code after rest
    goes_true stays conflict waiting t =
        let s : IsSet now there = literal_true now values v.hit.told v.hit.apart other other_range t in
        let o : ¬ IsFalse now there = λ f. both_set now there v.hit.apart s f in
        let g : IsGood now w.waiting.list (slot / 2) c here there = seen_true ms m v.hit.apart here v.hit.hit w.waiting.list (slot / 2) c there was_good s in
        let list : w'.waiting.list ≡ w.waiting.list = ap (λ (t : WaitingView). t.list) waiting in
        goes_on w w' values ms m code slot rest v code' after store watched linked sized calm conflict
        (λ k i. subst (λ t. Contains t k) (sym list) i) (λ k i n. subst (λ t. Contains t k) list i)
        (by_slot (λ x y. ¬ IsFalse now y) here o)
        (stays_by_slot (IsFineBefore now c) code' stays was_before)
        (stays_by_slot (IsGood now w'.waiting.list (slot / 2) c) code' stays (subst (λ t. IsGood now t (slot / 2) c here there) (sym list) g))

    -- the clause forces the other watch, and waits
    pub goes_forces : code' ≡ code → w'.conflict ≡ w.conflict → ((k : ℕ) → Contains w.waiting.list k → Contains w'.waiting.list k) → ((k : ℕ) → Contains w'.waiting.list k → k ≢ slot / 2 → Contains w.waiting.list k) → Contains w'.waiting.list (slot / 2) → ((x : ℕ) → Contains codes x → x ≢ other → truth_of values x ≡ False) → truth_of values other ≡ Unset → IsVisiting w' values ms m code after rest
    goes_forces stays conflict more less added all t =
        let o : ¬ IsFalse now there = literal_open now values v.hit.told v.hit.apart other other_range t in
        let others : (x : Lit) → Contains c x → x ≢ there → IsFalse now x = λ x i n. rest_false now values v.hit.told v.hit.apart codes within other all x (rw lits i) n in
        let g : IsGood now w'.waiting.list (slot / 2) c here there = seen_forces ms m v.hit.apart here v.hit.hit w.waiting.list (slot / 2) c there was_good w'.waiting.list added o others in
        goes_on w w' values ms m code slot rest v code' after store watched linked sized calm conflict more less
        (by_slot (λ x y. ¬ IsFalse now y) here o)
        (stays_by_slot (IsFineBefore now c) code' stays was_before)
        (stays_by_slot (IsGood now w'.waiting.list (slot / 2) c) code' stays g)

    -- another literal watches
    pub goes_instead : w'.conflict ≡ w.conflict → w'.waiting ≡ w.waiting → Contains codes code' → code' ≢ other → truth_of values code' ≢ False → truth_of values other ≢ True → IsVisiting w' values ms m code after rest
    goes_instead conflict waiting inside n not_false not_true =
        let list : w'.waiting.list ≡ w.waiting.list = ap (λ (t : WaitingView). t.list) waiting in
        let x : Lit = literal_of code' in
        let i : Contains c x = rw (← lits) (code_in codes code' inside) in
        let differs : x ≢ there = λ e. n (same_code code' other e) in
        let o : ¬ IsFalse now x = code_open now values v.hit.told v.hit.apart codes within code' inside not_false in
        let t : ¬ IsSet now there = literal_not_true now values v.hit.told v.hit.apart other other_range not_true in
        let p : ¬ IsFalse now there = other_free ms m v.hit.apart here v.hit.hit w.waiting.list (slot / 2) c there was_good x i differs o t in
        let g : IsGood now w.waiting.list (slot / 2) c x there = seen_instead ms m v.hit.apart here v.hit.hit w.waiting.list (slot / 2) c there was_good x i differs o t in
        let b : IsFineBefore now c x there = before_instead ms m v.hit.apart here v.hit.hit w.waiting.list (slot / 2) c there was_good x i differs o t in
        goes_on w w' values ms m code slot rest v code' after store watched linked sized calm conflict
        (λ k i. subst (λ t. Contains t k) (sym list) i) (λ k i n. subst (λ t. Contains t k) list i)
        (by_slot (λ x y. ¬ IsFalse now y) x p)
        (by_slot (IsFineBefore now c) x b)
        (by_slot (IsGood now w'.waiting.list (slot / 2) c) x (subst (λ t. IsGood now t (slot / 2) c x there) (sym list) g))

    -- each literal is false
    pub goes_false : code' ≡ code → w'.conflict ≡ slot / 2 + 1 → w'.waiting ≡ w.waiting → ((x : ℕ) → Contains codes x → x ≢ other → truth_of values x ≡ False) → truth_of values other ≡ False → IsVisiting w' values ms m code after rest
    goes_false stays number waiting all t =
        let list : w'.waiting.list ≡ w.waiting.list = ap (λ (t : WaitingView). t.list) waiting in
        let f : IsFalse now there = literal_false now values v.hit.told v.hit.apart other other_range t in
        let whole : IsFalseClause now c = λ x i. elim (cases_literal x there) [
          | inl e ↦ subst (IsFalse now) (sym e) f
          | inr n ↦ rest_false now values v.hit.told v.hit.apart codes within other all x (rw lits i) n
        ] in
        let numbered : IsNumbered w.store (slot / 2 + 1) c = (omega arith, omega (arith, place_in_store), ap (λ t. get_or w.store t c) (omega arith) ∙ get_or_default w.store (slot / 2) c [] place_in_store) in
        relinks w w' values ms m code slot rest v code' after store watched linked sized stays list (λ z. absurd (omega (arith, sym number ∙ z))) (inr (rw (store, number) (c, numbered, whole)))

-- where there is a conflict the slots are only put back
pub goes_with_conflict : (w w' : Watched) (values : List Value) (ms : List Mark) (m : Mark) (code slot : ℕ) (rest : List ℕ) → IsVisiting w values ms m code slot (slot ∷ rest) → w.conflict ≢ 0 → (after : ℕ) → w'.store ≡ w.store → w'.links.watched.items ≡ set w.links.watched.items slot code → IsLinked w'.links after rest → AreSized (length values) w' → w'.conflict ≡ w.conflict → w'.waiting ≡ w.waiting → IsVisiting w' values ms m code after rest
goes_with_conflict w w' values ms m code slot rest v some after store watched linked sized conflict waiting =
    relinks w w' values ms m code slot rest v code after store watched linked sized refl (ap (λ (t : WaitingView). t.list) waiting) (λ z. some (sym conflict ∙ z)) (rw (store, conflict) v.conflict)

-- the visit begins: the clauses whose slots are not in the list don't watch the literal
module _ (w w' : Watched) (values : List Value) (ms : List Mark) (m : Mark) (code : ℕ) (first : ℕ) (off : List ℕ)
    (store : w'.store ≡ w.store) (watched : w'.links.watched.items ≡ w.links.watched.items) (waiting : w'.waiting ≡ w.waiting) (same : w'.conflict ≡ w.conflict)
    (sized : AreSized (length values) w') (linked : IsLinked w'.links first off)
    (sound : (s : ℕ) → Contains off s → get_or w.links.watched.items s 0 ≡ code)
    (complete : (s : ℕ) → s < w.links.slots → get_or w.links.watched.items s 0 ≡ code → Contains off s)
    (slots : w.links.slots ≡ length w.store * 2)
    (hit : IsHit values ms m code)
    (before : AreFineBefore (ms ++ m ∷ []) w.store w.links.watched.items)
    (good : w.conflict ≡ 0 → AreGood ms w.store w.links.watched.items w.waiting.list)
    (listed : (k : ℕ) → Contains w.waiting.list k → k < length w.store)
    (conflict : IsConflict (ms ++ m ∷ []) w.store w.conflict) where
  -- a slot that isn't taken off doesn't watch the negation of the mark
  not_hit : (s : ℕ) → s < w.links.slots → ¬ Contains off s → m.lit ≢ negated (watch_at w.links.watched.items s)
  not_hit s low out e =
      let watch : watch_at w.links.watched.items s ≡ literal_of code = sym (double (watch_at w.links.watched.items s)) ∙ ap negated (sym e) ∙ sym hit.hit in
      out (complete s low (same_code (get_or w.links.watched.items s 0) code watch))

  pub begins : IsVisiting w' values ms m code first off
  begins = record {
    sized = sized;
    linked = linked;
    hit = hit;
    at_code = λ s i. ap (λ t. get_or t s 0) watched ∙ sound s i;
    before = rw (store, watched) before;
    done = λ z k h out out'.
        let k_low : k < length w.store = subst (λ t. k < length t) store h in
        rw (store, watched, waiting) (good_push ms m w.waiting.list k (clause_in w.store k) (watch_at w.links.watched.items (k * 2)) (watch_at w.links.watched.items (k * 2 + 1)) (not_hit (k * 2) (omega arith) out) (not_hit (k * 2 + 1) (omega arith) out') (good (sym same ∙ z) k k_low));
    left = λ z k h i. rw (store, watched, waiting) (good (sym same ∙ z) k (subst (λ t. k < length t) store h));
    listed = λ k i. rw store (listed k (subst (λ (t : WaitingView). Contains t.list k) waiting i));
    conflict = rw (store, same) conflict;
  }

-- the loop over the slots, with what is left of them

abbrev pub VisitsOn : Watched → List Value → List Mark → Mark → ℕ → ℕ → ℕ → Type 0
VisitsOn w values ms m code slot most = (rest : List ℕ) × IsVisiting w values ms m code slot rest × (length rest ≤ most)

pub visit_begins : (w w' : Watched) (values : List Value) (ms : List Mark) (m : Mark) (code first : ℕ) → IsToVisit w values ms m code → w'.store ≡ w.store → IsTaken w.links w'.links code first → w'.waiting ≡ w.waiting → w'.conflict ≡ w.conflict → VisitsOn w' values ms m code first w'.links.slots
visit_begins w w' values ms m code first t store taken waiting conflict = by taken.off
  where
    by : (list : List ℕ) × IsLinked w'.links first list × ((s : ℕ) → Contains list s → get_or w.links.watched.items s 0 ≡ code) × ((s : ℕ) → s < w.links.slots → get_or w.links.watched.items s 0 ≡ code → Contains list s) → VisitsOn w' values ms m code first w'.links.slots
    by (list, linked, sound, complete) =
        let sized = sized_same (length values) w w' t.sized store taken.slots taken.heads (ap (λ (v : WaitingView). v.room) waiting) in (
          list,
          begins w w' values ms m code first list store taken.watched waiting conflict sized linked sound complete t.sized.slots t.hit t.before t.good t.listed t.conflict,
          few_off w'.links.watched.items w'.links.heads.items w'.links.next.items w'.links.slots first list linked,
        )

pub visit_next : (w : Watched) (values : List Value) (ms : List Mark) (m : Mark) (code slot most : ℕ) → VisitsOn w values ms m code slot most → slot ≢ none → (rest : List ℕ) × IsVisiting w values ms m code slot (slot ∷ rest) × (length rest + 1 ≤ most)
visit_next w values ms m code slot most (off, v, few) n = by (some_off w.links.watched.items w.links.heads.items w.links.next.items w.links.slots slot off v.linked n)
  where
    by : (rest : List ℕ) × (off ≡ slot ∷ rest) → (rest : List ℕ) × IsVisiting w values ms m code slot (slot ∷ rest) × (length rest + 1 ≤ most)
    by (rest, e) = (rest, subst (IsVisiting w values ms m code slot) e v, omega (arith, ap length e, few))

pub visit_more : (w w' : Watched) (values : List Value) (ms : List Mark) (m : Mark) (code slot after most : ℕ) → VisitsOn w values ms m code slot most → slot ≢ none → ((rest : List ℕ) → IsVisiting w values ms m code slot (slot ∷ rest) → IsVisiting w' values ms m code after rest) → VisitsOn w' values ms m code after (most - 1)
visit_more w w' values ms m code slot after most v n step = by (visit_next w values ms m code slot most v n)
  where
    by : (rest : List ℕ) × IsVisiting w values ms m code slot (slot ∷ rest) × (length rest + 1 ≤ most) → VisitsOn w' values ms m code after (most - 1)
    by (rest, u, few) = (rest, step rest u, omega (arith, few))

pub visit_left : (w : Watched) (values : List Value) (ms : List Mark) (m : Mark) (code slot most : ℕ) → VisitsOn w values ms m code slot most → slot ≢ none → 0 < most
visit_left w values ms m code slot most v n = let q = visit_next w values ms m code slot most v n in omega (arith, q.2)

pub visit_done : (w : Watched) (values : List Value) (ms : List Mark) (m : Mark) (code slot most : ℕ) → VisitsOn w values ms m code slot most → slot ≡ none → IsVisiting w values ms m code none []
visit_done w values ms m code slot most (off, v, few) e =
    let u : IsVisiting w values ms m code none off = subst (λ t. IsVisiting w values ms m code t off) e v in
    subst (IsVisiting w values ms m code none) (none_off w.links.watched.items w.links.heads.items w.links.next.items w.links.slots off u.linked) u
