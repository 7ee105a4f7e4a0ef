-- The number of lists to come falls from step to step, so the steps of a run are bounded.
use Rattle.std.proofs.Common.{◌≡◌, ◌≢◌, ℕ, zero, suc, ◌+◌, ◌-◌, ◌^◌, ◌<◌, ◌≤◌, true, false, eqb, List, [], ◌∷◌, ◌++◌, length, ◌⊎◌, inl, inr, refl, sym, ap, ◌∙◌, subst, arith}
use Rattle.std.specs.Prelude.{Contains}
use Rattle.std.specs.List.{AllByRecursion, IsDistinct, list_any}
use Rattle.std.proofs.lemmas.List.{append_assoc, length_push}
use Rattle.std.proofs.lemmas.Nat.{pow_pos}
use Rattle.std.proofs.lemmas.List.Elements.{Contains-push}
use Rattle.std.proofs.lemmas.Bool.{eqb-true, ne_eqb, or_cases}
use Rattle.std.proofs.lemmas.Map.Steps.{length-le_from_distinct_below}
use Rattle.ut_logic.specs.declared.literals.Lit.{Lit}
use Rattle.ut_logic.specs.Clauses.{literal, AreWithin}
use Rattle.log_check.proofs.Resolvents.{contains_head, contains_tail}
use Rattle.sat_log.specs.declared.marks.Mark.{Mark}
use Rattle.sat_log.specs.Moves.{State, IsForcing, known, Decides, Propagates, Jumps, Steps, with_mark}
use Rattle.sat_log.specs.Runs.{start, RunsTo, IsReached, IsSpent, JumpsTo}
use Rattle.sat_log.specs.Inner.{AreApart}
use Rattle.sat_log.specs.ToCome.{lists_to_come}
use Rattle.sat_log.proofs.Rank.{rank, to_come_is_rank, forced_mark, rank_push, rank_cut, rank_forced}
use Rattle.sat_log.proofs.RunLemmas.{IsKept, kept_run, kept_moved, kept_decided, kept_propagated, known_push}

-- marks of different variables from 1 to n are n at most

place : Mark → ℕ
place m = m.lit.var - 1

places : List Mark → List ℕ
places [] = []
places (m ∷ ms) = place m ∷ places ms

length_places : (ms : List Mark) → length (places ms) ≡ length ms
unfolding places
length_places [] = refl
length_places (m ∷ ms) = ap suc (length_places ms)

apart_places : (m : Mark) (ms : List Mark) → 0 < m.lit.var → ((k : Mark) → Contains ms k → 0 < k.lit.var) → ((k : Mark) → Contains ms k → m.lit.var ≢ k.lit.var) → AllByRecursion (λ y. eqb (place m) y ≡ false) (places ms)
unfolding places place
apart_places m [] h p n = tt
apart_places m (x ∷ xs) h p n =
    let low : 0 < x.lit.var = p x (contains_head x xs) in
    let differ : m.lit.var ≢ x.lit.var = n x (contains_head x xs) in
    (ne_eqb (m.lit.var - 1) (x.lit.var - 1) (λ e. differ (omega arith)), apart_places m xs h (λ k i. p k (contains_tail x xs k i)) (λ k i. n k (contains_tail x xs k i)))

distinct_places : (ms : List Mark) → AreApart ms → ((k : Mark) → Contains ms k → 0 < k.lit.var) → IsDistinct eqb (places ms)
unfolding IsDistinct places
distinct_places [] a p = tt
distinct_places (m ∷ ms) a p =
    (apart_places m ms (p m (contains_head m ms)) (λ k i. p k (contains_tail m ms k i)) a.0, distinct_places ms a.1 (λ k i. p k (contains_tail m ms k i)))

places_below : (n : ℕ) (ms : List Mark) → ((k : Mark) → Contains ms k → (0 < k.lit.var) × (k.lit.var ≤ n)) → (q : ℕ) → list_any (eqb q) (places ms) ≡ true → q < n
unfolding places place
places_below n [] p q e = absurd (cc)
places_below n (m ∷ ms) p q e = elim (or_cases (eqb q (m.lit.var - 1)) (list_any (eqb q) (places ms)) e) [
  | inl f ↦ omega (arith, eqb-true q (m.lit.var - 1) f, p m (contains_head m ms))
  | inr f ↦ places_below n ms (λ k i. p k (contains_tail m ms k i)) q f
]

pub few_marks : (n : ℕ) (ms : List Mark) → AreApart ms → ((k : Mark) → Contains ms k → (0 < k.lit.var) × (k.lit.var ≤ n)) → length ms ≤ n
few_marks n ms a p = rw (← length_places ms) (length-le_from_distinct_below (places ms) n (distinct_places ms a (λ k i. (p k i).0)) (places_below n ms p))

-- the rank falls

-- the rank is at most r, or a known clause forces a literal and it is below r behind that
abbrev pub IsLow : ℕ → List (List Lit) → ℕ → State → Type 0
IsLow n clauses r s =
    (rank n s.marks ≤ r)
    ⊎ ((c : List Lit) × Contains (known clauses s) c × IsForcing s.marks c × (rank n (s.marks ++ forced_mark ∷ []) + 1 ≤ r))

-- where a literal is forced, or one can be decided, there is room for a mark
pub room_forced : (n : ℕ) (clauses : List (List Lit)) (s : State) (c : List Lit) → IsKept n clauses s → Contains (known clauses s) c → IsForcing s.marks c → length s.marks + 1 ≤ n
room_forced n clauses s c k i (l, f) =
    let t : State = with_mark s l false in
    let p : Propagates clauses s t = record { clause = c; among = i; lit = l; forced = f; after = refl } in
    let kt : IsKept n clauses t = kept_propagated n clauses s t k p in
    rw (← length_push s.marks (record { lit = l; decided = false })) (few_marks n t.marks kt.apart kt.vars)

pub room_decided : (n : ℕ) (clauses : List (List Lit)) (s t : State) → IsKept n clauses s → Decides n clauses s t → length s.marks + 1 ≤ n
room_decided n clauses s t k d =
    let kt : IsKept n clauses t = kept_decided n clauses s t k d in
    let few : length t.marks ≤ n = few_marks n t.marks kt.apart kt.vars in
    let e : length t.marks ≡ length s.marks + 1 = ap (λ (x : State). length x.marks) d.after ∙ length_push s.marks (record { lit = literal d.var false; decided = true }) in
    omega arith

low_jumped : (n : ℕ) (clauses : List (List Lit)) (r : ℕ) (s t : State) → IsKept n clauses s → IsLow n clauses r s → Jumps clauses s t → IsLow n clauses r t
low_jumped n clauses r s t k low j =
    let few : length s.marks ≤ n = few_marks n s.marks k.apart k.vars in
    let forced = λ (bound : rank n (j.kept ++ forced_mark ∷ []) + 1 ≤ r).
    subst (IsLow n clauses r) (sym j.after)
    (inr (j.line.result, rw (known_push clauses s.lines j.line) (Contains-push (known clauses s) j.line.result), j.forcing, bound)) in
    elim low [
      | inl h ↦
          let cut : rank n (j.kept ++ forced_mark ∷ []) + 1 ≤ rank n s.marks = rw j.split (rank_cut n j.kept j.cut j.gone j.decided (rw (← j.split) few)) in
          forced (omega arith)
      | inr h ↦
          let room : length s.marks + 1 ≤ n = room_forced n clauses s h.0 k h.1 h.2 in
          let regrouped : s.marks ++ forced_mark ∷ [] ≡ j.kept ++ j.cut ∷ (j.gone ++ forced_mark ∷ []) = ap (λ t. t ++ forced_mark ∷ []) j.split ∙ append_assoc j.kept (j.cut ∷ j.gone) (forced_mark ∷ []) in
          let few_more : length (s.marks ++ forced_mark ∷ []) ≤ n = rw (length_push s.marks forced_mark) room in
          let cut : rank n (j.kept ++ forced_mark ∷ []) + 1 ≤ rank n (s.marks ++ forced_mark ∷ []) = rw regrouped (rank_cut n j.kept j.cut (j.gone ++ forced_mark ∷ []) j.decided (rw (← regrouped) few_more)) in
          forced (omega (arith, h.3))
    ]

pub step_falls : (n : ℕ) (clauses : List (List Lit)) (r : ℕ) (s t : State) → IsKept n clauses s → IsLow n clauses r s → Steps n clauses s t → rank n t.marks + 1 ≤ r
step_falls n clauses r s t k low (inl d) =
    elim low [
      | inl h ↦
          let m : Mark = record { lit = literal d.var false; decided = true } in
          let room : length s.marks + 1 ≤ n = room_decided n clauses s t k d in
          let falls : rank n (s.marks ++ m ∷ []) + 1 ≤ rank n s.marks = rank_push n s.marks m (omega arith) in
          let e : rank n t.marks ≡ rank n (s.marks ++ m ∷ []) = ap (λ (x : State). rank n x.marks) d.after in
          omega arith
      | inr h ↦ absurd (d.quiet.none_forcing h.0 h.1 h.2)
    ]
step_falls n clauses r s t k low (inr p) =
    let m : Mark = record { lit = p.lit; decided = false } in
    let e : rank n t.marks ≡ rank n (s.marks ++ m ∷ []) = ap (λ (x : State). rank n x.marks) p.after in
    elim low [
      | inl h ↦
          let room : length s.marks + 1 ≤ n = room_forced n clauses s p.clause k p.among (p.lit, p.forced) in
          let falls : rank n (s.marks ++ m ∷ []) + 1 ≤ rank n s.marks = rank_push n s.marks m (omega arith) in
          omega arith
      | inr h ↦ let same = rank_forced n s.marks m refl in omega (arith, h.3, same)
    ]

pub stepped : (n : ℕ) (clauses : List (List Lit)) (s t : State) → Steps n clauses s t → t.steps ≡ s.steps + 1
stepped n clauses s t (inl d) = ap (λ (x : State). x.steps) d.after
stepped n clauses s t (inr p) = ap (λ (x : State). x.steps) p.after

-- the steps so far, and a bound on what is to come
pub bounded : (n : ℕ) (clauses : List (List Lit)) (k : ℕ) (s : State) → AreWithin n clauses → RunsTo n clauses k s → (r : ℕ) × IsLow n clauses r s × (s.steps + r ≤ 2 ^ (n + 1) - 2)
bounded n clauses zero s h run =
    let low : IsLow n clauses (2 ^ (n + 1) - 2) start = inl (omega arith) in
    (2 ^ (n + 1) - 2, subst (IsLow n clauses (2 ^ (n + 1) - 2)) (sym run) low, let e : s.steps ≡ 0 = ap (λ (x : State). x.steps) run in omega arith)
bounded n clauses (suc k) s h (before, run, inl step) =
    let b = bounded n clauses k before h run in
    let falls : rank n s.marks + 1 ≤ b.0 = step_falls n clauses b.0 before s (kept_run n clauses k before h run) b.1 step in
    let e : s.steps ≡ before.steps + 1 = stepped n clauses before s step in
    (rank n s.marks, inl (omega arith), omega (arith, b.2))
bounded n clauses (suc k) s h (before, run, inr j) =
    let b = bounded n clauses k before h run in
    let e : s.steps ≡ before.steps = ap (λ (x : State). x.steps) j.after in
    (b.0, low_jumped n clauses b.0 before s (kept_run n clauses k before h run) b.1 j, omega (arith, b.2))

pub never_spent : (n k : ℕ) (clauses : List (List Lit)) → AreWithin n clauses → 2 ^ (n + 1) ≤ k → ¬ IsSpent n clauses k
never_spent n k clauses h big spent =
    let b = bounded n clauses spent.reached.0 spent.state h spent.reached.1 in
    let e : spent.state.steps ≡ k = spent.steps in
    omega (arith, b.2, pow_pos (n + 1))

-- backjumps keep what is kept, and stay low
jumped_low : (n : ℕ) (clauses : List (List Lit)) (r k : ℕ) (s t : State) → IsKept n clauses s → IsLow n clauses r s → JumpsTo clauses k s t → IsKept n clauses t × IsLow n clauses r t
jumped_low n clauses r zero s t kept low e = (subst (IsKept n clauses) (sym e) kept, subst (IsLow n clauses r) (sym e) low)
jumped_low n clauses r (suc k) s t kept low (mid, js, j) =
    let m = jumped_low n clauses r k s mid kept low js in
    (kept_moved n clauses mid t m.0 (inr j), low_jumped n clauses r mid t m.0 m.1 j)

-- the rank after a step is below the rank before it and before any backjumps in front of it
pub rank_falls : (n : ℕ) (clauses : List (List Lit)) (k : ℕ) (s mid t : State) → AreWithin n clauses → IsReached n clauses s → JumpsTo clauses k s mid → Steps n clauses mid t → rank n t.marks < rank n s.marks
rank_falls n clauses k s mid t h (moves, run) js step =
    let kept : IsKept n clauses s = kept_run n clauses moves s h run in
    let m = jumped_low n clauses (rank n s.marks) k s mid kept (inl (omega arith)) js in
    let falls : rank n t.marks + 1 ≤ rank n s.marks = step_falls n clauses (rank n s.marks) mid t m.0 m.1 step in
    omega arith

-- so does the number of lists to come
pub number_begins : (n : ℕ) → lists_to_come n start.marks ≡ 2 ^ (n + 1) - 2
number_begins n = to_come_is_rank n []

pub number_falls : (n k : ℕ) (clauses : List (List Lit)) (s mid t : State) → AreWithin n clauses → IsReached n clauses s → JumpsTo clauses k s mid → Steps n clauses mid t → lists_to_come n t.marks < lists_to_come n s.marks
number_falls n k clauses s mid t h run js step =
    rw (to_come_is_rank n t.marks, to_come_is_rank n s.marks) (rank_falls n clauses k s mid t h run js step)
