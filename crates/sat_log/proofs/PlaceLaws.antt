-- The places of set variables, and the latest decided ones, from move to move.
use Rattle.std.proofs.Common.{◌≡◌, ◌≢◌, ℕ, zero, suc, ◌+◌, ◌-◌, ◌<◌, ◌≤◌, Bool, true, false, eqb, cond, List, [], ◌∷◌, ◌++◌, length, get_or, set, take, inl, inr, refl, sym, ap, ◌∙◌, subst, arith}
use Rattle.std.specs.Prelude.{All, Contains}
use Rattle.std.proofs.lemmas.List.{length-set, length_push, length-take-le, get_or_append_left, get_or_at, get_or-take, get_or-set_same, get_or-set_other}
use Rattle.std.proofs.lemmas.List.Elements.{Contains-get_or}
use Rattle.std.proofs.lemmas.Bool.{cases_lt, cases_eq, eq-eqb, ne_eqb}
use Rattle.log_check.proofs.Resolvents.{contains_head}
use Rattle.sat_log.specs.declared.marks.Mark.{Mark}
use Rattle.sat_log.specs.Inner.{AreApart}
use Rattle.sat_log.specs.Placing.{place_in, IsLatest, AreAtPlaces, AreLatest, ArePlaced, latest_for}
use Rattle.sat_log.proofs.Back.{apart_split}

latest_longer : (ms : List Mark) (m : Mark) (j p : ℕ) → j < length ms → IsLatest ms j p → IsLatest (ms ++ m ∷ []) j p
latest_longer ms m j p h l = record {
  within = l.within;
  decided = λ d some. ap (λ (t : Mark). t.decided) (get_or_append_left ms (m ∷ []) d (p - 1) (omega (arith, l.within))) ∙ l.decided d some;
  forced = λ i d low high. ap (λ (t : Mark). t.decided) (get_or_append_left ms (m ∷ []) d i (omega arith)) ∙ l.forced i d low high;
}

-- the latest decided place at a new mark
latest_decided : (ms : List Mark) (m : Mark) → m.decided ≡ true → IsLatest (ms ++ m ∷ []) (length ms) (length ms + 1)
latest_decided ms m e = record {
  within = omega arith;
  decided = λ d some. ap (λ (t : Mark). t.decided) (get_or_at ms m [] d (length ms + 1 - 1) (omega arith)) ∙ e;
  forced = λ i d low high. absurd (omega arith);
}

latest_first : (ms : List Mark) (m : Mark) → m.decided ≡ false → length ms ≡ 0 → IsLatest (ms ++ m ∷ []) (length ms) 0
latest_first ms m e none = record {
  within = omega arith;
  decided = λ d some. absurd (omega arith);
  forced = λ i d low high. ap (λ (t : Mark). t.decided) (get_or_at ms m [] d i (omega arith)) ∙ e;
}

latest_later : (ms : List Mark) (m : Mark) (p : ℕ) → m.decided ≡ false → 0 < length ms → IsLatest ms (length ms - 1) p → IsLatest (ms ++ m ∷ []) (length ms) p
latest_later ms m p e some l = record {
  within = omega (arith, l.within);
  decided = λ d h. ap (λ (t : Mark). t.decided) (get_or_append_left ms (m ∷ []) d (p - 1) (omega (arith, l.within))) ∙ l.decided d h;
  forced = λ i d low high. elim (cases_lt i (length ms)) [
    | inl q ↦ ap (λ (t : Mark). t.decided) (get_or_append_left ms (m ∷ []) d i q) ∙ l.forced i d low (omega arith)
    | inr q ↦ ap (λ (t : Mark). t.decided) (get_or_at ms m [] d i (omega arith)) ∙ e
  ];
}

pub latest_new : (ms : List Mark) (m : Mark) (latest : List ℕ) → AreLatest ms latest → IsLatest (ms ++ m ∷ []) (length ms) (latest_for m.decided (length ms) latest)
latest_new ms m latest l = by m.decided refl
  where
    by : (b : Bool) → m.decided ≡ b → IsLatest (ms ++ m ∷ []) (length ms) (latest_for b (length ms) latest)
    by true e = latest_decided ms m e
    by false e = elim (cases_eq (length ms) 0) [
      | inl none ↦
          let same : latest_for false (length ms) latest ≡ 0 = ap (λ t. cond t 0 (get_or latest (length ms - 1) 0)) (eq-eqb (length ms) 0 none) in
          subst (IsLatest (ms ++ m ∷ []) (length ms)) (sym same) (latest_first ms m e none)
      | inr some ↦
          let same : latest_for false (length ms) latest ≡ get_or latest (length ms - 1) 0 = ap (λ t. cond t 0 (get_or latest (length ms - 1) 0)) (ne_eqb (length ms) 0 some) in
          subst (IsLatest (ms ++ m ∷ []) (length ms)) (sym same) (latest_later ms m (get_or latest (length ms - 1) 0) e (omega arith) (l (length ms - 1) (omega arith)))
    ]

-- a mark more
pub placed_push : (n : ℕ) (ms : List Mark) (m : Mark) (at latest : List ℕ) → ArePlaced n ms at latest → AreApart (ms ++ m ∷ []) → All (λ (x : Mark). (0 < x.lit.var) × (x.lit.var ≤ n)) ms → 0 < m.lit.var → m.lit.var ≤ n → length ms < n → ArePlaced n (ms ++ m ∷ []) (set at (m.lit.var - 1) (length ms)) (set latest (length ms) (latest_for m.decided (length ms) latest))
placed_push n ms m at latest p apart vars low high room = record {
  at_room = length-set at (m.lit.var - 1) (length ms) ∙ p.at_room;
  latest_room = length-set latest (length ms) (latest_for m.decided (length ms) latest) ∙ p.latest_room;
  at_place = λ j d h. elim (cases_lt j (length ms)) [
    | inl q ↦
        let same : get_or (ms ++ m ∷ []) j d ≡ get_or ms j d = get_or_append_left ms (m ∷ []) d j q in
        let w = vars j d q in
        let other : (get_or ms j d).lit.var ≢ m.lit.var = apart_split ms (m ∷ []) (get_or ms j d) m apart (Contains-get_or ms j d q) (contains_head m []) in
        ap (λ (t : Mark). place_in (set at (m.lit.var - 1) (length ms)) t.lit) same
        ∙ get_or-set_other at (m.lit.var - 1) ((get_or ms j d).lit.var - 1) (length ms) 0 (λ e. other (omega (arith, w.0)))
        ∙ p.at_place j d q
    | inr q ↦
        let e : length ms ≡ j = omega (arith, length_push ms m) in
        let same : get_or (ms ++ m ∷ []) j d ≡ m = get_or_at ms m [] d j e in
        ap (λ (t : Mark). place_in (set at (m.lit.var - 1) (length ms)) t.lit) same
        ∙ get_or-set_same at (m.lit.var - 1) (length ms) 0 (omega (arith, p.at_room)) ∙ e
  ];
  latest_place = λ j h. elim (cases_lt j (length ms)) [
    | inl q ↦ subst (IsLatest (ms ++ m ∷ []) j) (sym (get_or-set_other latest (length ms) j (latest_for m.decided (length ms) latest) 0 (λ e. absurd (omega arith)))) (latest_longer ms m j (get_or latest j 0) q (p.latest_place j q))
    | inr q ↦
        let e : length ms ≡ j = omega (arith, length_push ms m) in
        let here : get_or (set latest (length ms) (latest_for m.decided (length ms) latest)) (length ms) 0 ≡ latest_for m.decided (length ms) latest = get_or-set_same latest (length ms) (latest_for m.decided (length ms) latest) 0 (omega (arith, p.latest_room)) in
        subst (λ t. IsLatest (ms ++ m ∷ []) t (get_or (set latest (length ms) (latest_for m.decided (length ms) latest)) t 0)) e (subst (IsLatest (ms ++ m ∷ []) (length ms)) (sym here) (latest_new ms m latest p.latest_place))
  ];
}

-- a cut
pub at_cut : (ms : List Mark) (at : List ℕ) (k : ℕ) → k ≤ length ms → AreAtPlaces ms at → AreAtPlaces (take k ms) at
at_cut ms at k h p j d lt =
    let low : j < k = omega (arith, length-take-le k ms h) in
    ap (λ (t : Mark). place_in at t.lit) (get_or-take k ms j d low) ∙ p j d (omega arith)

pub placed_cut : (n : ℕ) (ms : List Mark) (at latest : List ℕ) (k : ℕ) → k ≤ length ms → ArePlaced n ms at latest → ArePlaced n (take k ms) at latest
placed_cut n ms at latest k h p = record {
  at_room = p.at_room;
  latest_room = p.latest_room;
  at_place = at_cut ms at k h p.at_place;
  latest_place = λ j lt.
      let low : j < k = omega (arith, length-take-le k ms h) in
      let l = p.latest_place j (omega arith) in
      record {
        within = l.within;
        decided = λ d some. ap (λ (t : Mark). t.decided) (get_or-take k ms (get_or latest j 0 - 1) d (omega (arith, l.within))) ∙ l.decided d some;
        forced = λ i d a b. ap (λ (t : Mark). t.decided) (get_or-take k ms i d (omega arith)) ∙ l.forced i d a b;
      };
}

pub placed_start : (n : ℕ) (at latest : List ℕ) → length at ≡ n → length latest ≡ n → ArePlaced n [] at latest
placed_start n at latest a l = record {
  at_room = a;
  latest_room = l;
  at_place = λ j d h. absurd (omega (arith, h));
  latest_place = λ j h. absurd (omega (arith, h));
}
