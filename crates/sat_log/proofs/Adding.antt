-- A clause of the clause form is added, under an empty trail.
use Rattle.std.proofs.Common.{◌≡◌, ◌≢◌, ℕ, ◌+◌, ◌-◌, ◌*◌, ◌<◌, ◌≤◌, List, [], ◌∷◌, ◌++◌, length, get_or, set, inl, inr, refl, sym, ap, ◌∙◌, subst, arith}
use Rattle.std.specs.Prelude.{Contains}
use Rattle.std.proofs.lemmas.List.{length_push, get_or_at, get_or_append_left}
use Rattle.std.proofs.lemmas.List.Elements.{Contains-get_or}
use Rattle.ut_logic.specs.declared.literals.Lit.{Lit}
use Rattle.ut_logic.specs.Clauses.{negated, IsOrdered, IsWithin}
use Rattle.log_check.specs.Derivations.{IsNumbered}
use Rattle.log_check.proofs.Resolvents.{contains_head, contains_cases, contains_nothing}
use Rattle.sat_log.specs.declared.marks.Mark.{Mark}
use Rattle.sat_log.specs.declared.visiting.Watched.{Watched}
use Rattle.sat_log.specs.Codes.{code_of, literal_of}
use Rattle.sat_log.specs.Links.{none, IsLinked}
use Rattle.sat_log.specs.Moves.{IsFalse, IsFalseClause}
use Rattle.sat_log.specs.Watches.{IsFine, IsFineBefore, HasOneLeft, IsGood, IsConflict, AreWatched}
use Rattle.sat_log.proofs.Keeping.{clause_added}
use Rattle.sat_log.proofs.Numbering.{literal_of-code_of}
use Rattle.sat_log.proofs.Places.{no_split}

nothing_in : (c : List Lit) → length c ≡ 0 → (l : Lit) → ¬ Contains c l
nothing_in [] e l i = contains_nothing l i
nothing_in (x ∷ xs) e l i = absurd (omega (arith, e))

one_in : (c : List Lit) (d : Lit) → length c ≡ 1 → (l : Lit) → Contains c l → l ≡ get_or c 0 d
one_in [] d e l i = absurd (contains_nothing l i)
one_in (x ∷ []) d e l i = elim (contains_cases x [] l i) [ inl f ↦ sym f | inr j ↦ absurd (contains_nothing l j) ]
one_in (x ∷ y ∷ ys) d e l i = absurd (omega (arith, e))

before_nothing : (c : List Lit) (a b : Lit) → IsFineBefore [] c a b
before_nothing c a b kept cut gone e d = absurd (no_split kept cut gone e)

-- under an empty trail nothing is false
not_false : (l : Lit) → ¬ IsFalse [] l
not_false l f = contains_nothing (negated l) f

-- a clause's number stays where one is added
conflict_longer : (ms : List Mark) (store : List (List Lit)) (c : List Lit) (number : ℕ) → IsConflict ms store number → IsConflict ms (store ++ c ∷ []) number
conflict_longer ms store c number (inl z) = inl z
conflict_longer ms store c number (inr (e, num, f)) = inr (
  e,
  (num.0, omega (arith, num.1, length_push store c), get_or_append_left store (c ∷ []) e (number - 1) (omega (arith, num.0, num.1)) ∙ num.2),
  f,
)

-- what an added clause has whatever its length
pub record Added (n : ℕ) (w w' : Watched) (c : List Lit) (first second : ℕ) : Type 0 where
  pub before : AreWatched n w []
  pub store : w'.store ≡ w.store ++ c ∷ []
  pub watched : w'.links.watched.items ≡ set (set w.links.watched.items w.links.slots first) (w.links.slots + 1) second
  pub slots : w'.links.slots ≡ w.links.slots + 2
  pub heads : length w'.links.heads.items ≡ length w.links.heads.items
  pub linked : IsLinked w'.links none []
  pub watch_room : w.links.slots + 2 ≤ length w.links.watched.items
  pub room : length w.store + 1 ≤ w.waiting.room
  pub within : IsWithin n c

module _ (n : ℕ) (w w' : Watched) (c : List Lit) (first second : ℕ) (a : Added n w w' c first second) where
  count : length w'.store ≡ length w.store + 1
  count = ap length a.store ∙ length_push w.store c

  same_conflict : w'.conflict ≡ w.conflict → IsConflict [] w'.store w'.conflict
  same_conflict e = rw (e, a.store) (conflict_longer [] w.store c w.conflict a.before.conflict)

  -- one with no literal is false
  pub empty_added : w'.waiting ≡ w.waiting → w'.conflict ≡ length w'.store → length c ≡ 0 → AreWatched n w' []
  empty_added waiting conflict empty =
      let is_false : IsFalseClause [] c = λ l i. absurd (nothing_in c empty l i) in
      let num : IsNumbered w'.store w'.conflict c = (omega (arith, conflict, count), omega (arith, conflict), ap (λ t. get_or t (w'.conflict - 1) c) a.store ∙ get_or_at w.store c [] c (w'.conflict - 1) (omega (arith, conflict, count))) in
      clause_added n w w' [] a.before c first second a.store a.watched a.slots a.heads a.linked a.watch_room
      (rw waiting a.room) a.within (λ k i. rw waiting i) (λ k i o. rw waiting at i) (before_nothing c (literal_of first) (literal_of second))
      (λ z. absurd (omega (arith, z, conflict, count)))
      (inr (c, num, is_false))

  -- one with a single literal waits
  pub one_added : (d : Lit) → length c ≡ 1 → first ≡ code_of (get_or c 0 d) → second ≡ first → w'.conflict ≡ w.conflict → w'.waiting.room ≡ w.waiting.room → Contains w'.waiting.list (length w.store) → ((k : ℕ) → Contains w.waiting.list k → Contains w'.waiting.list k) → ((k : ℕ) → Contains w'.waiting.list k → k ≢ length w.store → Contains w.waiting.list k) → AreWatched n w' []
  one_added d one is_first is_second conflict room waits more less =
      let l : Lit = get_or c 0 d in
      let inside : Contains c l = Contains-get_or c 0 d (omega (arith, one)) in
      let fa : literal_of first ≡ l = ap literal_of is_first ∙ literal_of-code_of l in
      let fb : literal_of second ≡ l = ap literal_of is_second ∙ fa in
      let left : HasOneLeft [] c l l = (l, inl refl, inside, not_false l, λ k i o. absurd (o (one_in c d one k i))) in
      let good : IsGood [] w'.waiting.list (length w.store) c l l = record { first = inside; second = inside; fine = inr waits; waits = λ _. left } in
      clause_added n w w' [] a.before c first second a.store a.watched a.slots a.heads a.linked a.watch_room
      (rw room a.room) a.within more less (before_nothing c (literal_of first) (literal_of second))
      (λ z. (sym conflict ∙ z, rw (fa, fb) good))
      (same_conflict conflict)

  -- the first two of more literals watch
  pub more_added : (d : Lit) → 2 ≤ length c → IsOrdered c → first ≡ code_of (get_or c 0 d) → second ≡ code_of (get_or c 1 d) → w'.conflict ≡ w.conflict → w'.waiting ≡ w.waiting → AreWatched n w' []
  more_added d many ordered is_first is_second conflict waiting =
      let x : Lit = get_or c 0 d in
      let y : Lit = get_or c 1 d in
      let ix : Contains c x = Contains-get_or c 0 d (omega arith) in
      let iy : Contains c y = Contains-get_or c 1 d (omega arith) in
      let fa : literal_of first ≡ x = ap literal_of is_first ∙ literal_of-code_of x in
      let fb : literal_of second ≡ y = ap literal_of is_second ∙ literal_of-code_of y in
      let below : x.var < y.var = ordered 0 1 d (omega arith) (omega arith) in
      let other : x ≢ y = λ e. absurd (omega (arith, below, ap (λ (l : Lit). l.var) e)) in
      let fine : IsFine [] c x y = (ix, iy, inr (inr (other, not_false x, not_false y))) in
      let never : ¬ Contains w'.waiting.list (length w.store) = λ i. absurd (omega (arith, a.before.listed (length w.store) (rw waiting at i))) in
      let good : IsGood [] w'.waiting.list (length w.store) c x y = record { first = ix; second = iy; fine = inl fine; waits = λ i. absurd (never i) } in
      clause_added n w w' [] a.before c first second a.store a.watched a.slots a.heads a.linked a.watch_room
      (rw waiting a.room) a.within (λ k i. rw waiting i) (λ k i o. rw waiting at i) (before_nothing c (literal_of first) (literal_of second))
      (λ z. (sym conflict ∙ z, rw (fa, fb) good))
      (same_conflict conflict)
