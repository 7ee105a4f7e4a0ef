-- What is watched, from move to move.
use Rattle.std.proofs.Common.{◌≡◌, ◌≢◌, ℕ, suc, ◌+◌, ◌-◌, ◌*◌, ◌/◌, ◌<◌, ◌≤◌, ◌^◌, true, false, List, [], ◌∷◌, ◌++◌, length, get_or, set, ◌⊎◌, inl, inr, refl, sym, ap, ◌∙◌, subst, arith}
use Rattle.std.specs.Prelude.{Contains}
use Rattle.std.proofs.lemmas.List.{length-append, length_push, get_or_append_left, get_or_at, get_or-set_same, get_or-set_other, get_or_default, length-set}
use Rattle.std.proofs.lemmas.List.Elements.{Contains-get_or, Contains-append_left, Contains-push, Contains-push_cases, All-push, All-contains}
use Rattle.std.proofs.lemmas.Bool.{cases_eq}
use Rattle.ut_logic.specs.declared.literals.Lit.{Lit}
use Rattle.ut_logic.specs.Clauses.{negated, AreWithin, IsWithin}
use Rattle.log_check.specs.Derivations.{IsNumbered}
use Rattle.log_check.proofs.Resolvents.{contains_nothing}
use Rattle.sat_log.specs.declared.marks.Mark.{Mark}
use Rattle.sat_log.specs.declared.values.Value.{Value}
use Rattle.sat_log.specs.declared.visiting.Watched.{Watched}
use Rattle.sat_log.specs.Codes.{literal_of}
use Rattle.sat_log.specs.Inner.{AreApart, AreValues}
use Rattle.sat_log.specs.Links.{none, HasGrown, IsLinked}
use Rattle.sat_log.specs.Stores.{GrowsBy}
use Rattle.sat_log.specs.Moves.{IsSet, IsFalse, IsFalseClause, IsForcing, IsQuiet}
use Rattle.sat_log.specs.Watches.{IsFine, IsFineBefore, HasOneLeft, HasTrueWatch, MayWatch, IsGood, IsGoodAt, watch_at, clause_in, IsConflict, AreSized, AreWatched, IsToVisit, IsVisiting, IsToLearn}
use Rattle.sat_log.proofs.RunLemmas.{set_left, differ}
use Rattle.sat_log.proofs.Watching.{good_not_false, quiet_fine, before_push, before_cut, fine_not_forcing, left_forcing, good_list}
use Rattle.sat_log.proofs.Linking.{more_room}

-- a known clause has its place
placed_clause : (store : List (List Lit)) (c : List Lit) → Contains store c → (k : ℕ) × (k < length store) × (clause_in store k ≡ c)
placed_clause store c (k, lt, e) = (k, lt, get_or_default store k [] c lt ∙ e)

module _ (n : ℕ) (w : Watched) (ms : List Mark) (a : AreWatched n w ms) (apart : AreApart ms) where
  -- with no conflict no known clause is false
  pub none_false : w.conflict ≡ 0 → (c : List Lit) → Contains w.store c → ¬ IsFalseClause ms c
  none_false z c i = by (placed_clause w.store c i)
    where
      by : (k : ℕ) × (k < length w.store) × (clause_in w.store k ≡ c) → ¬ IsFalseClause ms c
      by (k, lt, e) = subst (λ t. ¬ IsFalseClause ms t) e (good_not_false ms w.waiting.list k (clause_in w.store k) (watch_at w.links.watched.items (k * 2)) (watch_at w.links.watched.items (k * 2 + 1)) apart (a.good z k lt))

  -- where none is false there is no conflict
  pub calm : ((c : List Lit) → Contains w.store c → ¬ IsFalseClause ms c) → w.conflict ≡ 0
  calm none = elim a.conflict [
    | inl z ↦ z
    | inr q ↦ absurd (false_one q)
  ]
    where
      false_one : (c : List Lit) × IsNumbered w.store w.conflict c × IsFalseClause ms c → ⊥
      false_one (c, num, f) = none c (w.conflict - 1, omega (arith, num.0, num.1), num.2) f

  pub found_false : w.conflict ≢ 0 → (c : List Lit) × IsNumbered w.store w.conflict c × IsFalseClause ms c
  found_false n = elim a.conflict [ inl z ↦ absurd (n z) | inr q ↦ q ]

  -- with nothing that waits no known clause forces a literal
  pub none_forcing : w.conflict ≡ 0 → w.waiting.list ≡ [] → (c : List Lit) → Contains w.store c → ¬ IsForcing ms c
  none_forcing z empty c i = by (placed_clause w.store c i)
    where
      by : (k : ℕ) × (k < length w.store) × (clause_in w.store k ≡ c) → ¬ IsForcing ms c
      by (k, lt, e) =
          let g = a.good z k lt in
          let fine : IsFine ms (clause_in w.store k) (watch_at w.links.watched.items (k * 2)) (watch_at w.links.watched.items (k * 2 + 1)) = elim g.fine [ inl f ↦ f | inr q ↦ absurd (contains_nothing k (subst (λ t. Contains t k) empty q)) ] in
          subst (λ t. ¬ IsForcing ms t) e (fine_not_forcing ms (clause_in w.store k) (watch_at w.links.watched.items (k * 2)) (watch_at w.links.watched.items (k * 2 + 1)) apart fine)

  -- a mark more, whose negation's list is to be visited
  module _ (values : List Value) (m : Mark) (code : ℕ) (len : length values ≡ n) (told : AreValues n (ms ++ m ∷ []) values) (apart' : AreApart (ms ++ m ∷ [])) (hit : literal_of code ≡ negated m.lit) where
    conflict_more : IsConflict (ms ++ m ∷ []) w.store w.conflict
    conflict_more = elim a.conflict [
      | inl z ↦ inl z
      | inr q ↦ inr (q.0, q.1, λ l i. set_left ms (m ∷ []) (negated l) (q.2 l i))
    ]

    to_visit : (m.decided ≡ true → (k : ℕ) → k < length w.store → IsFine ms (clause_in w.store k) (watch_at w.links.watched.items (k * 2)) (watch_at w.links.watched.items (k * 2 + 1))) → IsToVisit w values ms m code
    to_visit fine = record {
      sized = subst (λ t. AreSized t w) (sym len) a.sized;
      linked = a.linked;
      hit = record { told = subst (λ t. AreValues t (ms ++ m ∷ []) values) (sym len) told; apart = apart'; hit = hit };
      before = λ k h. before_push ms m (clause_in w.store k) (watch_at w.links.watched.items (k * 2)) (watch_at w.links.watched.items (k * 2 + 1)) (λ d. fine d k h) (a.before k h);
      good = a.good;
      listed = a.listed;
      conflict = conflict_more;
    }

    pub to_visit_forced : m.decided ≡ false → IsToVisit w values ms m code
    to_visit_forced f = to_visit (λ d. absurd (differ (sym d ∙ f)))

    pub to_visit_decided : IsQuiet w.store ms → IsToVisit w values ms m code
    to_visit_decided quiet = to_visit now
      where
        now : m.decided ≡ true → (k : ℕ) → k < length w.store → IsFine ms (clause_in w.store k) (watch_at w.links.watched.items (k * 2)) (watch_at w.links.watched.items (k * 2 + 1))
        now d k h = quiet_fine ms w.waiting.list k (clause_in w.store k) (watch_at w.links.watched.items (k * 2)) (watch_at w.links.watched.items (k * 2 + 1)) (a.good (calm quiet.none_false) k h) (quiet.none_forcing (clause_in w.store k) (Contains-get_or w.store k [] h))

-- after the visit
pub visited : (n : ℕ) (w : Watched) (values : List Value) (ms : List Mark) (m : Mark) (code : ℕ) → length values ≡ n → IsVisiting w values ms m code none [] → AreWatched n w (ms ++ m ∷ [])
visited n w values ms m code len v = record {
  sized = subst (λ t. AreSized t w) len v.sized;
  linked = v.linked;
  before = v.before;
  good = λ z k h. v.done z k h (contains_nothing (k * 2)) (contains_nothing (k * 2 + 1));
  listed = v.listed;
  conflict = v.conflict;
}

-- a cut, and the clause that was derived

module _ (n : ℕ) (w w' : Watched) (ms kept : List Mark) (cut : Mark) (gone : List Mark) (c : List Lit) (first second : ℕ)
    (a : AreWatched n w ms) (split : ms ≡ kept ++ cut ∷ gone) (decided : cut.decided ≡ true)
    (store : w'.store ≡ w.store ++ c ∷ []) (links : w'.links ≡ w.links) (waiting : w'.waiting ≡ w.waiting)
    (within : IsWithin n c) where
  length_more : length w'.store ≡ length w.store + 1
  length_more = ap length store ∙ length_push w.store c

  clause_old : (k : ℕ) → k < length w.store → clause_in w'.store k ≡ clause_in w.store k
  clause_old k h = ap (λ t. clause_in t k) store ∙ get_or_append_left w.store (c ∷ []) [] k h

  clause_new : clause_in w'.store (length w'.store - 1) ≡ c
  clause_new = ap (λ t. clause_in t (length w'.store - 1)) store ∙ get_or_at w.store c [] [] (length w'.store - 1) (omega (arith, length_more))

  pub to_learn : length w.store + 1 ≤ w.waiting.room → w.links.slots + 2 ≤ length w.links.next.items → w.links.slots + 2 ≤ length w.links.watched.items → w.links.slots + 2 < none → MayWatch kept c (literal_of first) (literal_of second) → IsToLearn n w' kept first second
  to_learn room next_room watch_room few pair = record {
    within = rw store (All-push (IsWithin n) w.store c a.sized.within within);
    some = omega (arith, length_more);
    slots = rw links (omega (arith, length_more, a.sized.slots));
    room = rw waiting (omega (arith, length_more, room));
    heads = rw links a.sized.heads;
    few = a.sized.few;
    linked = rw links a.linked;
    next_room = rw links next_room;
    watch_room = rw links watch_room;
    few_slots = rw links few;
    fine = λ k h. rw (links, clause_old k (omega (arith, length_more, h))) (a.before k (omega (arith, length_more, h)) kept cut gone split decided);
    before = λ k h. rw (links, clause_old k (omega (arith, length_more, h))) (before_cut ms kept cut gone (clause_in w.store k) (watch_at w.links.watched.items (k * 2)) (watch_at w.links.watched.items (k * 2 + 1)) split (a.before k (omega (arith, length_more, h))));
    pair = rw clause_new pair;
  }

-- the watches of the clause have their lists
pub learn_codes : (n : ℕ) (w : Watched) (ms : List Mark) (first second : ℕ) → IsToLearn n w ms first second → (first < length w.links.heads.items) × (second < length w.links.heads.items)
learn_codes n w ms first second l =
    let low : length w.store - 1 < length w.store = omega (arith, l.some) in
    let inside : IsWithin n (clause_in w.store (length w.store - 1)) = l.within (length w.store - 1) [] low in
    let a : (0 < first / 2) × (first / 2 ≤ n) = All-contains (λ (l : Lit). (0 < l.var) × (l.var ≤ n)) (clause_in w.store (length w.store - 1)) (literal_of first) inside l.pair.first in
    let b : (0 < second / 2) × (second / 2 ≤ n) = All-contains (λ (l : Lit). (0 < l.var) × (l.var ≤ n)) (clause_in w.store (length w.store - 1)) (literal_of second) inside l.pair.second in
    (omega (arith, a.1, l.heads), omega (arith, b.1, l.heads))

module _ (n : ℕ) (w w' : Watched) (ms : List Mark) (first second : ℕ) (l : IsToLearn n w ms first second)
    (store : w'.store ≡ w.store)
    (watched : w'.links.watched.items ≡ set (set w.links.watched.items w.links.slots first) (w.links.slots + 1) second)
    (slots : w'.links.slots ≡ w.links.slots + 2) (heads : length w'.links.heads.items ≡ length w.links.heads.items) (linked : IsLinked w'.links none [])
    (room : w'.waiting.room ≡ w.waiting.room) (conflict : w'.conflict ≡ 0)
    (added : Contains w'.waiting.list (length w.store - 1)) (only : (k : ℕ) → Contains w'.waiting.list k → k ≡ length w.store - 1) where
  old_slot : (s : ℕ) → s < w.links.slots → get_or w'.links.watched.items s 0 ≡ get_or w.links.watched.items s 0
  old_slot s h =
      ap (λ t. get_or t s 0) watched
      ∙ get_or-set_other (set w.links.watched.items w.links.slots first) (w.links.slots + 1) s second 0 (λ e. absurd (omega arith))
      ∙ get_or-set_other w.links.watched.items w.links.slots s first 0 (λ e. absurd (omega arith))

  first_slot : get_or w'.links.watched.items (w.links.slots) 0 ≡ first
  first_slot =
      ap (λ t. get_or t w.links.slots 0) watched
      ∙ get_or-set_other (set w.links.watched.items w.links.slots first) (w.links.slots + 1) w.links.slots second 0 (λ e. absurd (omega arith))
      ∙ get_or-set_same w.links.watched.items w.links.slots first 0 (omega (arith, l.watch_room))

  second_slot : get_or w'.links.watched.items (w.links.slots + 1) 0 ≡ second
  second_slot =
      ap (λ t. get_or t (w.links.slots + 1) 0) watched
      ∙ get_or-set_same (set w.links.watched.items w.links.slots first) (w.links.slots + 1) second 0 (omega (arith, l.watch_room, length-set w.links.watched.items w.links.slots first))

  last : ℕ
  last = length w.store - 1

  -- the two watches of the last clause
  at_last : (P : List Lit → Lit → Lit → Type 0) → P (clause_in w.store (length w.store - 1)) (literal_of first) (literal_of second) → (k : ℕ) → k ≡ length w.store - 1 → P (clause_in w'.store k) (watch_at w'.links.watched.items (k * 2)) (watch_at w'.links.watched.items (k * 2 + 1))
  at_last P h k e =
      let a : k * 2 ≡ w.links.slots = omega (arith, l.slots, l.some) in
      let b : k * 2 + 1 ≡ w.links.slots + 1 = omega arith in
      let fa : get_or w'.links.watched.items (k * 2) 0 ≡ first = ap (λ t. get_or w'.links.watched.items t 0) a ∙ first_slot in
      let fb : get_or w'.links.watched.items (k * 2 + 1) 0 ≡ second = ap (λ t. get_or w'.links.watched.items t 0) b ∙ second_slot in
      rw (store, fa, fb, e) h

  at_old : (P : List Lit → Lit → Lit → Type 0) → (k : ℕ) → k + 1 < length w.store → P (clause_in w.store k) (watch_at w.links.watched.items (k * 2)) (watch_at w.links.watched.items (k * 2 + 1)) → P (clause_in w'.store k) (watch_at w'.links.watched.items (k * 2)) (watch_at w'.links.watched.items (k * 2 + 1))
  at_old P k h p =
      let fa = old_slot (k * 2) (omega (arith, l.slots)) in
      let fb = old_slot (k * 2 + 1) (omega (arith, l.slots)) in
      rw (store, fa, fb) p

  pub learned : AreWatched n w' ms
  learned = record {
    sized = record {
      within = rw store l.within;
      slots = rw (slots, store) l.slots;
      room = rw (store, room) l.room;
      heads = heads ∙ l.heads;
      few = l.few;
    };
    linked = linked;
    before = λ k h. elim (cases_eq k (length w.store - 1)) [
      | inl e ↦ at_last (IsFineBefore ms) l.pair.before k e
      | inr ne ↦ let low : k + 1 < length w.store = omega (arith, ap length store) in at_old (IsFineBefore ms) k low (l.before k low)
    ];
    good = λ z k h. elim (cases_eq k (length w.store - 1)) [
      | inl e ↦
          let waits : Contains w'.waiting.list k = subst (Contains w'.waiting.list) (sym e) added in
          at_last (IsGood ms w'.waiting.list k) (record { first = l.pair.first; second = l.pair.second; fine = inr waits; waits = λ _. l.pair.left }) k e
      | inr ne ↦
          let low : k + 1 < length w.store = omega (arith, ap length store) in
          let f = l.fine k low in
          at_old (IsGood ms w'.waiting.list k) k low (record { first = f.0; second = f.1; fine = inl f; waits = λ i. absurd (ne (only k i)) })
    ];
    listed = λ k i. let e = only k i in rw store (omega (arith, l.some));
    conflict = inl conflict;
  }

-- a clause with a true watch doesn't wait any more

module _ (n : ℕ) (w w' : Watched) (ms : List Mark) (a : AreWatched n w ms) (place : ℕ)
    (store : w'.store ≡ w.store) (links : w'.links ≡ w.links) (conflict : w'.conflict ≡ w.conflict) (room : w'.waiting.room ≡ w.waiting.room)
    (list : w.waiting.list ≡ w'.waiting.list ++ place ∷ []) (true_watch : HasTrueWatch ms w place) where
  true_fine : (k : ℕ) → k ≡ place → IsGoodAt ms w.store w.links.watched.items w.waiting.list k → IsFine ms (clause_in w.store k) (watch_at w.links.watched.items (k * 2)) (watch_at w.links.watched.items (k * 2 + 1))
  true_fine k e g = elim true_watch [
    | inl s ↦ (g.first, g.second, inl (subst (λ t. IsSet ms (watch_at w.links.watched.items (t * 2))) (sym e) s))
    | inr s ↦ (g.first, g.second, inr (inl (subst (λ t. IsSet ms (watch_at w.links.watched.items (t * 2 + 1))) (sym e) s)))
  ]

  longer : (k : ℕ) → Contains w'.waiting.list k → Contains w.waiting.list k
  longer k i = subst (λ t. Contains t k) (sym list) (Contains-append_left w'.waiting.list (place ∷ []) k i)

  pub dropped : AreWatched n w' ms
  dropped = record {
    sized = record {
      within = rw store a.sized.within;
      slots = rw (links, store) a.sized.slots;
      room = rw (store, room) a.sized.room;
      heads = rw links a.sized.heads;
      few = a.sized.few;
    };
    linked = rw links a.linked;
    before = rw (store, links) a.before;
    good = λ z k h.
        let g = a.good (sym conflict ∙ z) k (subst (λ t. k < length t) store h) in
        rw (store, links) (record {
          first = g.first;
          second = g.second;
          fine = elim g.fine [
            | inl f ↦ inl f
            | inr i ↦ elim (Contains-push_cases w'.waiting.list place k (subst (λ t. Contains t k) list i)) [
              | inl j ↦ inr j
              | inr e ↦ inl (true_fine k (sym e) g)
            ]
          ];
          waits = λ i. g.waits (longer k i);
        });
    listed = λ k i. rw store (a.listed k (longer k i));
    conflict = rw (store, conflict) a.conflict;
  }

-- one that waits without a true watch forces a literal
pub forces_one : (n : ℕ) (w : Watched) (ms : List Mark) (place : ℕ) (rest : List ℕ) → AreWatched n w ms → w.conflict ≡ 0 → w.waiting.list ≡ rest ++ place ∷ [] → ¬ HasTrueWatch ms w place → (place < length w.store) × IsForcing ms (clause_in w.store place)
forces_one n w ms place rest a z e never =
    let i : Contains w.waiting.list place = subst (λ t. Contains t place) (sym e) (Contains-push rest place) in
    let low : place < length w.store = a.listed place i in
    let g = a.good z place low in
    (low, left_forcing ms (clause_in w.store place) (watch_at w.links.watched.items (place * 2)) (watch_at w.links.watched.items (place * 2 + 1)) (g.waits i) (λ s. never (inl s)) (λ s. never (inr s)))

pub waits_low : (n : ℕ) (w : Watched) (ms : List Mark) (place : ℕ) (rest : List ℕ) → AreWatched n w ms → w.waiting.list ≡ rest ++ place ∷ [] → place < length w.store
waits_low n w ms place rest a e = a.listed place (subst (λ t. Contains t place) (sym e) (Contains-push rest place))

-- a clause's watches are literals of the variables
pub watch_ranges : (n : ℕ) (w : Watched) (ms : List Mark) (k : ℕ) → AreWatched n w ms → w.conflict ≡ 0 → k < length w.store → ((0 < (watch_at w.links.watched.items (k * 2)).var) × ((watch_at w.links.watched.items (k * 2)).var ≤ n)) × ((0 < (watch_at w.links.watched.items (k * 2 + 1)).var) × ((watch_at w.links.watched.items (k * 2 + 1)).var ≤ n))
watch_ranges n w ms k a z h =
    let g = a.good z k h in
    let inside : IsWithin n (clause_in w.store k) = a.sized.within k [] h in (
      All-contains (λ (l : Lit). (0 < l.var) × (l.var ≤ n)) (clause_in w.store k) (watch_at w.links.watched.items (k * 2)) inside g.first,
      All-contains (λ (l : Lit). (0 < l.var) × (l.var ≤ n)) (clause_in w.store k) (watch_at w.links.watched.items (k * 2 + 1)) inside g.second,
    )

-- more room changes nothing
pub roomier : (n : ℕ) (w w' : Watched) (ms : List Mark) → AreWatched n w ms → w'.store ≡ w.store → HasGrown w.links w'.links → w'.conflict ≡ w.conflict → w.waiting.room ≤ w'.waiting.room → w'.waiting.list ≡ w.waiting.list → AreWatched n w' ms
roomier n w w' ms a store grown conflict room list = record {
  sized = record {
    within = rw store a.sized.within;
    slots = rw (grown.slots, store) a.sized.slots;
    room = rw store (omega (arith, a.sized.room));
    heads = rw grown.heads a.sized.heads;
    few = a.sized.few;
  };
  linked = rw (grown.heads, grown.slots) (more_room w.links.watched.items w.links.heads.items w.links.next.items w.links.slots w'.links.watched.items w'.links.next.items none [] grown.watched grown.next a.linked);
  before = λ k h.
      let low : k < length w.store = subst (λ t. k < length t) store h in
      rw (store, slot_same (k * 2) (omega (arith, a.sized.slots)), slot_same (k * 2 + 1) (omega (arith, a.sized.slots))) (a.before k low);
  good = λ z k h.
      let low : k < length w.store = subst (λ t. k < length t) store h in
      rw (store, list, slot_same (k * 2) (omega (arith, a.sized.slots)), slot_same (k * 2 + 1) (omega (arith, a.sized.slots))) (a.good (sym conflict ∙ z) k low);
  listed = λ k i. rw store (a.listed k (subst (λ t. Contains t k) list i));
  conflict = rw (store, conflict) a.conflict;
}
  where
    slot_same : (s : ℕ) → s < w.links.slots → get_or w'.links.watched.items s 0 ≡ get_or w.links.watched.items s 0
    slot_same s h = by grown.watched
      where
        by : GrowsBy w.links.watched.items w'.links.watched.items → get_or w'.links.watched.items s 0 ≡ get_or w.links.watched.items s 0
        by (more, e) = ap (λ t. get_or t s 0) e ∙ get_or_append_left w.links.watched.items more 0 s (omega (arith, a.linked.watch_room))

-- a clause more, under a trail with no decided literal

module _ (n : ℕ) (w w' : Watched) (ms : List Mark) (a : AreWatched n w ms) (c : List Lit) (first second : ℕ)
    (store : w'.store ≡ w.store ++ c ∷ [])
    (watched : w'.links.watched.items ≡ set (set w.links.watched.items w.links.slots first) (w.links.slots + 1) second)
    (slots : w'.links.slots ≡ w.links.slots + 2) (heads : length w'.links.heads.items ≡ length w.links.heads.items) (linked : IsLinked w'.links none [])
    (watch_room : w.links.slots + 2 ≤ length w.links.watched.items)
    (room : length w.store + 1 ≤ w'.waiting.room) (within : IsWithin n c)
    (more : (k : ℕ) → Contains w.waiting.list k → Contains w'.waiting.list k)
    (less : (k : ℕ) → Contains w'.waiting.list k → k ≢ length w.store → Contains w.waiting.list k)
    (fresh : IsFineBefore ms c (literal_of first) (literal_of second))
    (good : w'.conflict ≡ 0 → (w.conflict ≡ 0) × IsGood ms w'.waiting.list (length w.store) c (literal_of first) (literal_of second))
    (conflict : IsConflict ms w'.store w'.conflict) where
  count : length w'.store ≡ length w.store + 1
  count = ap length store ∙ length_push w.store c

  kept_slot : (s : ℕ) → s < w.links.slots → get_or w'.links.watched.items s 0 ≡ get_or w.links.watched.items s 0
  kept_slot s h =
      ap (λ t. get_or t s 0) watched
      ∙ get_or-set_other (set w.links.watched.items w.links.slots first) (w.links.slots + 1) s second 0 (λ e. absurd (omega arith))
      ∙ get_or-set_other w.links.watched.items w.links.slots s first 0 (λ e. absurd (omega arith))

  slot_one : get_or w'.links.watched.items (w.links.slots) 0 ≡ first
  slot_one =
      ap (λ t. get_or t w.links.slots 0) watched
      ∙ get_or-set_other (set w.links.watched.items w.links.slots first) (w.links.slots + 1) w.links.slots second 0 (λ e. absurd (omega arith))
      ∙ get_or-set_same w.links.watched.items w.links.slots first 0 (omega arith)

  slot_two : get_or w'.links.watched.items (w.links.slots + 1) 0 ≡ second
  slot_two =
      ap (λ t. get_or t (w.links.slots + 1) 0) watched
      ∙ get_or-set_same (set w.links.watched.items w.links.slots first) (w.links.slots + 1) second 0 (omega (arith, length-set w.links.watched.items w.links.slots first))

  at_new : (P : List Lit → Lit → Lit → Type 0) → P c (literal_of first) (literal_of second) → (k : ℕ) → k ≡ length w.store → P (clause_in w'.store k) (watch_at w'.links.watched.items (k * 2)) (watch_at w'.links.watched.items (k * 2 + 1))
  at_new P h k e =
      let x : k * 2 ≡ w.links.slots = omega (arith, a.sized.slots) in
      let y : k * 2 + 1 ≡ w.links.slots + 1 = omega arith in
      let fx : get_or w'.links.watched.items (k * 2) 0 ≡ first = ap (λ t. get_or w'.links.watched.items t 0) x ∙ slot_one in
      let fy : get_or w'.links.watched.items (k * 2 + 1) 0 ≡ second = ap (λ t. get_or w'.links.watched.items t 0) y ∙ slot_two in
      let fc : clause_in w'.store k ≡ c = ap (λ t. clause_in t k) store ∙ get_or_at w.store c [] [] k (sym e) in
      rw (fc, fx, fy) h

  at_kept : (P : List Lit → Lit → Lit → Type 0) → (k : ℕ) → k < length w.store → P (clause_in w.store k) (watch_at w.links.watched.items (k * 2)) (watch_at w.links.watched.items (k * 2 + 1)) → P (clause_in w'.store k) (watch_at w'.links.watched.items (k * 2)) (watch_at w'.links.watched.items (k * 2 + 1))
  at_kept P k h p =
      let fx = kept_slot (k * 2) (omega (arith, a.sized.slots)) in
      let fy = kept_slot (k * 2 + 1) (omega (arith, a.sized.slots)) in
      let fc : clause_in w'.store k ≡ clause_in w.store k = ap (λ t. clause_in t k) store ∙ get_or_append_left w.store (c ∷ []) [] k h in
      rw (fc, fx, fy) p

  pub clause_added : AreWatched n w' ms
  clause_added = record {
    sized = record {
      within = rw store (All-push (IsWithin n) w.store c a.sized.within within);
      slots = omega (arith, slots, count, a.sized.slots);
      room = omega (arith, count);
      heads = heads ∙ a.sized.heads;
      few = a.sized.few;
    };
    linked = linked;
    before = λ k h. elim (cases_eq k (length w.store)) [
      | inl e ↦ at_new (IsFineBefore ms) fresh k e
      | inr ne ↦ let low : k < length w.store = omega (arith, count) in at_kept (IsFineBefore ms) k low (a.before k low)
    ];
    good = λ z k h. elim (cases_eq k (length w.store)) [
      | inl e ↦ at_new (λ x p q. IsGood ms w'.waiting.list k x p q) (subst (λ t. IsGood ms w'.waiting.list t c (literal_of first) (literal_of second)) (sym e) (good z).1) k e
      | inr ne ↦
          let low : k < length w.store = omega (arith, count) in
          at_kept (IsGood ms w'.waiting.list k) k low (good_list ms w.waiting.list w'.waiting.list k (clause_in w.store k) (watch_at w.links.watched.items (k * 2)) (watch_at w.links.watched.items (k * 2 + 1)) (more k) (λ i. less k i ne) (a.good (good z).0 k low))
    ];
    listed = λ k i. elim (cases_eq k (length w.store)) [
      | inl e ↦ omega (arith, count)
      | inr ne ↦ let low = a.listed k (less k i ne) in omega (arith, count)
    ];
    conflict = conflict;
  }

-- nothing is known at the start
pub watched_start : (n : ℕ) (w : Watched) → n < 2 ^ 31 → w.store ≡ [] → IsLinked w.links none [] → length w.links.heads.items ≡ n * 2 + 2 → w.links.slots ≡ 0 → w.waiting.list ≡ [] → w.conflict ≡ 0 → AreWatched n w []
watched_start n w few store linked heads slots list conflict = record {
  sized = record {
    within = rw store (λ k d h. absurd (omega (arith, h)));
    slots = rw store slots;
    room = rw store (omega arith);
    heads = heads;
    few = few;
  };
  linked = linked;
  before = rw store (λ k h. absurd (omega (arith, h)));
  good = λ z. rw store (λ k h. absurd (omega (arith, h)));
  listed = λ k i. absurd (contains_nothing k (subst (λ t. Contains t k) list i));
  conflict = inl conflict;
}

-- what is kept depends on the clauses, the lists and the conflict alone
pub restored : (n : ℕ) (w w' : Watched) (ms : List Mark) → AreWatched n w ms → w'.store ≡ w.store → w'.links ≡ w.links → w'.waiting ≡ w.waiting → w'.conflict ≡ w.conflict → AreWatched n w' ms
restored n w w' ms a store links waiting conflict = record {
  sized = record {
    within = rw store a.sized.within;
    slots = rw (links, store) a.sized.slots;
    room = rw (store, waiting) a.sized.room;
    heads = rw links a.sized.heads;
    few = a.sized.few;
  };
  linked = rw links a.linked;
  before = rw (store, links) a.before;
  good = λ z. rw (store, links, waiting) (a.good (sym conflict ∙ z));
  listed = rw (store, waiting) a.listed;
  conflict = rw (store, conflict) a.conflict;
}
