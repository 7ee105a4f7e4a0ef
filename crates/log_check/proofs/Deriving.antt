-- A chain pair by pair, and the lines of a derivation one by one.
use Rattle.std.proofs.Common.{◌≡◌, ℕ, ◌+◌, ◌-◌, ◌<◌, ◌≤◌, zero, suc, List, [], ◌∷◌, ◌++◌, append_assoc, length, get_or, take, drop, true, false, eqb, Bool, inl, inr, sym, ap, ◌∙◌, subst, arith}
use Rattle.std.specs.Prelude.{◌↔◌}
use Rattle.std.proofs.lemmas.List.{append-nil, take_more, map-append, drop_more, drop_all, get_or_default, nil_from_length}
use Rattle.ut_logic.specs.declared.literals.Lit.{Lit}
use Rattle.log_check.specs.declared.derivations.PivotOf.{PivotOf}
use Rattle.log_check.specs.declared.derivations.Chain.{Chain}
use Rattle.log_check.specs.Resolution.{IsResolvent}
use Rattle.log_check.specs.declared.derivations.DerivationLine.{DerivationLine}
use Rattle.log_check.specs.Derivations.{results, AreTaken, EndsEmpty, IsNumbered, ResolvesTo, ChainGives, IsRight, AreRight, IsWrongAt, IsFirstWrong, Refutes}
use Rattle.std.proofs.lemmas.Bool.{cases_lt, eqb-true}
use Rattle.ut_text.proofs.DecimalLaws.{some_from_test}

pub numbered_once : (known : List (List Lit)) (n : ℕ) (c e : List Lit) → IsNumbered known n c → IsNumbered known n e → c ≡ e
numbered_once known n c e (p, h, at) (q, k, bt) = sym at ∙ get_or_default known (n - 1) c e (omega arith) ∙ bt

pub first_found : (known : List (List Lit)) (chain : Chain) (c r : List Lit) → IsNumbered known chain.first c → ResolvesTo known c chain.pairs r ↔ ChainGives known chain r
first_found known chain c r n = (λ g. (c, n, g), λ g. subst (λ (e : List Lit). ResolvesTo known e chain.pairs r) (numbered_once known chain.first g.0 c g.1 n) g.2)

-- the next pair leads from acc to mid and nowhere else
pub pair_found : (known : List (List Lit)) (acc c mid : List Lit) (ps : List PivotOf) (i : ℕ) (d : PivotOf) (r : List Lit) → i < length ps → IsNumbered known (get_or ps i d).clause c → IsResolvent acc c (get_or ps i d).pivot mid → ((s : List Lit) → IsResolvent acc c (get_or ps i d).pivot s → mid ≡ s) → ResolvesTo known mid (drop (i + 1) ps) r ↔ ResolvesTo known acc (drop i ps) r
pair_found known acc c mid ps i d r h n m only =
    let more : drop i ps ≡ get_or ps i d ∷ drop (i + 1) ps = drop_more ps i d h in (
      λ g. rw more (c, mid, n, m, g),
      λ g. let parts = rw more at g in
          let same : parts.0 ≡ c = numbered_once known (get_or ps i d).clause parts.0 c parts.2 n in
          let found : IsResolvent acc c (get_or ps i d).pivot parts.1 = subst (λ (e : List Lit). IsResolvent acc e (get_or ps i d).pivot parts.1) same parts.3 in
          subst (λ (e : List Lit). ResolvesTo known e (drop (i + 1) ps) r) (sym (only parts.1 found)) parts.4,
    )

-- the next pair cites no known clause
pub pair_unknown : (known : List (List Lit)) (acc : List Lit) (ps : List PivotOf) (i : ℕ) (d : PivotOf) (r : List Lit) → i < length ps → ((c : List Lit) → ¬ IsNumbered known (get_or ps i d).clause c) → ¬ ResolvesTo known acc (drop i ps) r
pair_unknown known acc ps i d r h none g = let parts = rw (drop_more ps i d h) at g in none parts.0 parts.2

-- the next pair has no resolvent
pub pair_unresolved : (known : List (List Lit)) (acc c : List Lit) (ps : List PivotOf) (i : ℕ) (d : PivotOf) (r : List Lit) → i < length ps → IsNumbered known (get_or ps i d).clause c → ((s : List Lit) → ¬ IsResolvent acc c (get_or ps i d).pivot s) → ¬ ResolvesTo known acc (drop i ps) r
pair_unresolved known acc c ps i d r h n none g =
    let parts = rw (drop_more ps i d h) at g in
    none parts.1 (subst (λ (e : List Lit). IsResolvent acc e (get_or ps i d).pivot parts.1) (numbered_once known (get_or ps i d).clause parts.0 c parts.2 n) parts.3)

-- no pair is left
pub pairs_done : (known : List (List Lit)) (acc : List Lit) (ps : List PivotOf) (i : ℕ) (r : List Lit) → length ps ≤ i → ResolvesTo known acc (drop i ps) r ↔ (acc ≡ r)
pairs_done known acc ps i r h = (λ g. rw (drop_all i ps h) at g, λ g. rw (drop_all i ps h) g)

pub iff_both : {P Q R : Type 0} → P ↔ Q → Q ↔ R → P ↔ R
iff_both f g = (λ p. g.0 (f.0 p), λ r. f.1 (g.1 r))

pub right_more : (cs : List (List Lit)) (lines : List DerivationLine) (n : ℕ) (line : DerivationLine) → n < length lines → line ≡ get_or lines n line → AreRight cs lines n → IsRight cs (take n lines) line → AreRight cs lines (n + 1)
right_more cs lines n line h at r here k d i = elim (cases_lt k n) [
  | inl l ↦ r k d l
  | inr g ↦ let e : n ≡ k = omega arith in
      let same : line ≡ get_or lines n d = at ∙ get_or_default lines n line d h in
      subst (λ j. IsRight cs (take j lines) (get_or lines j d)) e (subst (IsRight cs (take n lines)) same here)
]

-- the results of one line more
pub results_more : (lines : List DerivationLine) (n : ℕ) (line : DerivationLine) (before after : List (List Lit)) → n < length lines → line ≡ get_or lines n line → before ≡ results (take n lines) → after ≡ before ++ line.result ∷ [] → after ≡ results (take (n + 1) lines)
results_more lines n line before after h at taken added =
    let more : take (n + 1) lines ≡ take n lines ++ line ∷ [] = take_more lines n line h ∙ ap (λ x. take n lines ++ x ∷ []) (sym at) in
    added ∙ ap (λ k. k ++ line.result ∷ []) taken ∙ sym (ap results more ∙ map-append (λ (x : DerivationLine). x.result) (take n lines) (line ∷ []))

pub wrong_here : (cs : List (List Lit)) (lines : List DerivationLine) (n : ℕ) → n < length lines → AreRight cs lines n → IsWrongAt cs lines n → IsFirstWrong cs lines (n + 1)
wrong_here cs lines n h r w =
    let e : n ≡ n + 1 - 1 = omega arith in
    inr (omega arith, omega arith, subst (AreRight cs lines) e r, subst (IsWrongAt cs lines) e w)

pub not_right : (cs : List (List Lit)) (lines : List DerivationLine) (n : ℕ) (line : DerivationLine) (said : Bool) → n < length lines → line ≡ get_or lines n line → (said ≡ true) ↔ IsRight cs (take n lines) line → said ≡ false → IsWrongAt cs lines n
not_right cs lines n line said h at says denied d =
    inl (λ r. let e = says.1 (subst (IsRight cs (take n lines)) (sym (at ∙ get_or_default lines n line d h)) r) in cc)

pub empty_result : (lines : List DerivationLine) (i : ℕ) (line : DerivationLine) (lits : List Lit) (b : Bool) → line ≡ get_or lines i line → lits ≡ (get_or lines i line).result → b ≡ eqb (length lits) 0 → b ≡ true → line.result ≡ []
empty_result lines i line lits b at value e f =
    ap (λ (t : DerivationLine). t.result) at ∙ sym value ∙ nil_from_length lits (eqb-true (length lits) 0 (sym e ∙ f))

pub full_result : (lines : List DerivationLine) (i : ℕ) (line : DerivationLine) (lits : List Lit) (b : Bool) → line ≡ get_or lines i line → lits ≡ (get_or lines i line).result → b ≡ eqb (length lits) 0 → b ≡ false → ¬ (line.result ≡ [])
full_result lines i line lits b at value e f n =
    let same : lits ≡ [] = value ∙ sym (ap (λ (t : DerivationLine). t.result) at) ∙ n in
    let positive : 0 < length lits = some_from_test (length lits) b e f in
    let none : length lits ≡ 0 = ap length same in
    omega arith

pub not_empty : (cs : List (List Lit)) (lines : List DerivationLine) (line : DerivationLine) → 0 < length lines → line ≡ get_or lines (length lines - 1) line → ¬ (line.result ≡ []) → AreRight cs lines (length lines) → IsFirstWrong cs lines (length lines)
not_empty cs lines line h at full r =
    let e : length lines - 1 + 1 ≡ length lines = omega arith in
    subst (IsFirstWrong cs lines) e (wrong_here cs lines (length lines - 1) (omega arith) (λ k d i. r k d (omega arith))
    (λ d. inr (e, λ n. full (subst (λ (t : DerivationLine). t.result ≡ []) (sym (at ∙ get_or_default lines (length lines - 1) line d (omega arith))) n))))

pub refutes_at_end : (cs : List (List Lit)) (lines : List DerivationLine) (line : DerivationLine) → 0 < length lines → line ≡ get_or lines (length lines - 1) line → line.result ≡ [] → AreRight cs lines (length lines) → Refutes cs lines
refutes_at_end cs lines line h at e r = record {
  some = h;
  right = r;
  empty = λ d. subst (λ (t : DerivationLine). t.result ≡ []) (at ∙ get_or_default lines (length lines - 1) line d (omega arith)) e;
}

-- lines that have a first wrong one don't refute
pub wrong_refutes_not : (cs : List (List Lit)) (lines : List DerivationLine) (n : ℕ) → IsFirstWrong cs lines n → Refutes cs lines → ⊥
wrong_refutes_not cs lines n (inl (z, none)) r = let empty : length lines ≡ 0 = ap length none in omega (arith, r.some)
wrong_refutes_not cs [] n (inr (p, h, before, wrong)) r = omega (arith, r.some)
wrong_refutes_not cs (x ∷ xs) n (inr (p, h, before, wrong)) r = elim (wrong x) [
  | inl w ↦ w (r.right (n - 1) x (omega arith))
  | inr w ↦ let at : length (x ∷ xs) - 1 ≡ n - 1 = omega (arith, w.0) in
      w.1 (subst (λ k. (get_or (x ∷ xs) k x).result ≡ []) at (r.empty x))
]

-- right lines, from the line after some others on
RightFrom : List (List Lit) → List DerivationLine → List DerivationLine → Type 0
RightFrom cs before lines = (k : ℕ) (d : DerivationLine) → k < length lines → IsRight cs (before ++ take k lines) (get_or lines k d)

results-push : (cs : List (List Lit)) (before : List DerivationLine) (line : DerivationLine) → cs ++ results (before ++ line ∷ []) ≡ cs ++ results before ++ line.result ∷ []
results-push cs before line =
    ap (λ k. cs ++ k) (map-append (λ (x : DerivationLine). x.result) before (line ∷ [])) ∙ sym (append_assoc cs (results before) (line.result ∷ []))

right_from_taken : (cs : List (List Lit)) (before lines : List DerivationLine) → AreTaken (cs ++ results before) lines → RightFrom cs before lines
unfolding RightFrom
right_from_taken cs before [] t k d h = absurd (omega (arith, h))
right_from_taken cs before (line ∷ lines) (given, later) zero d h =
    subst (λ (b : List DerivationLine). IsRight cs b line) (sym (append-nil before)) given
right_from_taken cs before (line ∷ lines) (given, later) (suc k) d h =
    let more : AreTaken (cs ++ results (before ++ line ∷ [])) lines = subst (λ known. AreTaken known lines) (sym (results-push cs before line)) later in
    subst (λ (b : List DerivationLine). IsRight cs b (get_or lines k d)) (append_assoc before (line ∷ []) (take k lines))
    (right_from_taken cs (before ++ line ∷ []) lines more k d (omega (arith, h)))

taken_from_right : (cs : List (List Lit)) (before lines : List DerivationLine) → RightFrom cs before lines → AreTaken (cs ++ results before) lines
unfolding RightFrom
taken_from_right cs before [] r = tt
taken_from_right cs before (line ∷ lines) r = (
  subst (λ (b : List DerivationLine). IsRight cs b line) (append-nil before) (r 0 line (omega arith)),
  subst (λ known. AreTaken known lines) (results-push cs before line)
      (taken_from_right cs (before ++ line ∷ []) lines (λ k d h. subst (λ (b : List DerivationLine). IsRight cs b (get_or lines k d)) (sym (append_assoc before (line ∷ []) (take k lines))) (r (suc k) d (omega arith)))),
)

-- the last result is the empty clause
ends_empty : (lines : List DerivationLine) → 0 < length lines → ((d : DerivationLine) → (get_or lines (length lines - 1) d).result ≡ []) → EndsEmpty lines
ends_empty [] some e = absurd (omega (arith, some))
ends_empty (line ∷ []) some e = e line
ends_empty (line ∷ next ∷ lines) some e =
    let last : length (line ∷ next ∷ lines) - 1 ≡ suc (length (next ∷ lines) - 1) = omega arith in
    ends_empty (next ∷ lines) (omega arith) (λ d. subst (λ k. (get_or (line ∷ next ∷ lines) k d).result ≡ []) last (e d))

last_empty : (lines : List DerivationLine) → EndsEmpty lines → (0 < length lines) × ((d : DerivationLine) → (get_or lines (length lines - 1) d).result ≡ [])
last_empty [] e = absurd e
last_empty (line ∷ []) e = (omega arith, λ d. e)
last_empty (line ∷ next ∷ lines) e =
    let last : suc (length (next ∷ lines) - 1) ≡ length (line ∷ next ∷ lines) - 1 = omega arith in
    (omega arith, λ d. subst (λ k. (get_or (line ∷ next ∷ lines) k d).result ≡ []) last ((last_empty (next ∷ lines) e).1 d))

pub taken_refute : (cs : List (List Lit)) (lines : List DerivationLine) → Refutes cs lines ↔ (AreTaken cs lines × EndsEmpty lines)
unfolding RightFrom
taken_refute cs lines = (
  λ r. (subst (λ known. AreTaken known lines) (append-nil cs) (taken_from_right cs [] lines (λ k d h. r.right k d h)), ends_empty lines r.some r.empty),
  λ (t, e). record {
    some = (last_empty lines e).0;
    right = λ k d h. right_from_taken cs [] lines (subst (λ known. AreTaken known lines) (sym (append-nil cs)) t) k d h;
    empty = (last_empty lines e).1;
  },
)
