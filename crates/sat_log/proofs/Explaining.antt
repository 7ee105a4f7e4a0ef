-- What comes of resolving the forced literals away: the empty clause, or one that the trail can be cut for.
use Rattle.std.proofs.Common.{◌≡◌, ◌≢◌, ℕ, ◌+◌, ◌<◌, ◌≤◌, false, List, [], ◌∷◌, length, get_or, take, drop, ◌⊎◌, inl, inr, refl, sym, ap, ◌∙◌, subst, arith}
use Rattle.std.specs.Prelude.{Contains}
use Rattle.std.proofs.lemmas.List.{get_or_default, get_or-take, length-take-le, take-append-drop}
use Rattle.std.proofs.lemmas.Bool.{cases_lt}
use Rattle.ut_logic.specs.declared.literals.Lit.{Lit}
use Rattle.ut_logic.specs.Clauses.{negated}
use Rattle.log_check.specs.declared.derivations.PivotOf.{PivotOf}
use Rattle.log_check.proofs.Resolvents.{contains_head, contains_tail, contains_cases, contains_nothing, cases_literal}
use Rattle.sat_log.specs.declared.marks.Mark.{Mark}
use Rattle.sat_log.specs.Moves.{IsSet, IsFalse, IsFalseClause}
use Rattle.sat_log.specs.Trails.{IsCut}
use Rattle.sat_log.specs.Inner.{AreApart, IsBackAt}
use Rattle.sat_log.proofs.RunLemmas.{set_left}
use Rattle.sat_log.proofs.Settled.{mark_of, both_set}
use Rattle.sat_log.proofs.Back.{apart_later, double}
use Rattle.sat_log.proofs.Forcing.{set_at}

-- a false literal has its place
pub place_of : (ms : List Mark) (l : Lit) → IsFalse ms l → (k : ℕ) × (k < length ms) × ((d : Mark) → (get_or ms k d).lit ≡ negated l)
place_of ms l f = at m.0 m.1 m.2
  where
    m : (m : Mark) × Contains ms m × (m.lit ≡ negated l)
    m = mark_of ms (negated l) f

    at : (m : Mark) → Contains ms m → m.lit ≡ negated l → (k : ℕ) × (k < length ms) × ((d : Mark) → (get_or ms k d).lit ≡ negated l)
    at m (k, lt, here) e = (k, lt, λ d. ap (λ (x : Mark). x.lit) (get_or_default ms k d m lt ∙ here) ∙ e)

-- it is false in a longer front
pub false_at : (ms : List Mark) (j k : ℕ) (l : Lit) (d : Mark) → j < k → k ≤ length ms → (get_or ms j d).lit ≡ negated l → IsFalse (take k ms) l
false_at ms j k l d lt h e =
    let len : length (take k ms) ≡ k = length-take-le k ms h in
    set_at (take k ms) j d (negated l) (omega arith) (ap (λ (x : Mark). x.lit) (get_or-take k ms j d lt) ∙ e)

false_longer : (ms : List Mark) (k j : ℕ) (l : Lit) → k ≤ j → j ≤ length ms → IsFalse (take k ms) l → IsFalse (take j ms) l
false_longer ms k j l low high f = by place.0 place.1 place.2
  where
    place : (i : ℕ) × (i < length (take k ms)) × ((d : Mark) → (get_or (take k ms) i d).lit ≡ negated l)
    place = place_of (take k ms) l f

    by : (i : ℕ) → i < length (take k ms) → ((d : Mark) → (get_or (take k ms) i d).lit ≡ negated l) → IsFalse (take j ms) l
    by i lt at =
        let len : length (take k ms) ≡ k = length-take-le k ms (omega arith) in
        let d : Mark = record { lit = l; decided = false } in
        false_at ms i j l d (omega arith) high (ap (λ (x : Mark). x.lit) (sym (get_or-take k ms i d (omega arith))) ∙ at d)

-- the literal of the clause that is false last
pub record Highest (ms : List Mark) (r : List Lit) : Type 0 where
  pub lit : Lit
  pub inside : Contains r lit
  pub place : ℕ
  pub within : place < length ms
  pub at : (d : Mark) → (get_or ms place d).lit ≡ negated lit
  pub others : (m : Lit) → Contains r m → m ≢ lit → IsFalse (take place ms) m

pub highest : (ms : List Mark) (r : List Lit) → IsFalseClause ms r → (r ≡ []) ⊎ Highest ms r
highest ms [] f = inl refl
highest ms (x ∷ xs) f = inr (elim (highest ms xs (λ l i. f l (contains_tail x xs l i))) [
  | inl none ↦
      let p = place_of ms x (f x (contains_head x xs)) in
      record {
        lit = x;
        inside = contains_head x xs;
        place = p.0;
        within = p.1;
        at = p.2;
        others = λ m i ne. elim (contains_cases x xs m i) [
          | inl e ↦ absurd (ne (sym e))
          | inr j ↦ absurd (contains_nothing m (subst (λ s. Contains s m) none j))
        ];
      }
  | inr h ↦
      let p = place_of ms x (f x (contains_head x xs)) in
      let d : Mark = record { lit = x; decided = false } in
      elim (cases_lt h.place p.0) [
        | inl later ↦ record {
          lit = x;
          inside = contains_head x xs;
          place = p.0;
          within = p.1;
          at = p.2;
          others = λ m i ne. elim (contains_cases x xs m i) [
            | inl e ↦ absurd (ne (sym e))
            | inr j ↦ elim (cases_literal m h.lit) [
              | inl e ↦ subst (IsFalse (take p.0 ms)) (sym e) (false_at ms h.place p.0 h.lit d later (omega (arith, p.1)) (h.at d))
              | inr n ↦ false_longer ms h.place p.0 m (omega arith) (omega (arith, p.1)) (h.others m j n)
            ]
          ];
        }
        | inr not_later ↦ record {
          lit = h.lit;
          inside = contains_tail x xs h.lit h.inside;
          place = h.place;
          within = h.within;
          at = h.at;
          others = λ m i ne. elim (contains_cases x xs m i) [
            | inr j ↦ h.others m j ne
            | inl e ↦ elim (cases_lt p.0 h.place) [
              | inl before ↦ subst (IsFalse (take h.place ms)) e (false_at ms p.0 h.place x d before (omega (arith, h.within)) (p.2 d))
              | inr same ↦
                  let at : p.0 ≡ h.place = omega arith in
                  let lits : negated x ≡ negated h.lit = sym (p.2 d) ∙ ap (λ k. (get_or ms k d).lit) at ∙ h.at d in
                  absurd (ne (sym e ∙ sym (double x) ∙ ap negated lits ∙ double h.lit))
            ]
          ];
        }
      ]
])

-- the trail can be cut before the decided literal that makes it false last
pub highest_cut : (known : List (List Lit)) (ms : List Mark) (first r : List Lit) (pairs : List PivotOf) → AreApart ms → IsBackAt known ms first 0 r pairs → (h : Highest ms r) → IsCut ms r h.place
highest_cut known ms first r pairs a b h =
    let d : Mark = record { lit = h.lit; decided = false } in
    let own : (d : Mark) → negated (get_or ms h.place d).lit ≡ h.lit = λ d. ap negated (h.at d) ∙ double h.lit in (
      h.within,
      λ d. b.decided_only h.place d (omega arith) h.within (subst (Contains r) (sym (own d)) h.inside),
      (
        h.lit,
        record {
          inside = h.inside;
          unset = (
            λ set. both_set ms h.lit a (subst (λ t. IsSet t h.lit) (take-append-drop h.place ms) (set_left (take h.place ms) (drop h.place ms) h.lit set)) (b.is_false h.lit h.inside),
            λ f. apart_later ms h.place h.place d a (omega arith) h.within (subst (IsSet (take h.place ms)) (sym (h.at d)) f),
          );
          others = h.others;
        },
      ),
    )
