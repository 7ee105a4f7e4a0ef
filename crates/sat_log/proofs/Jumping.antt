-- What a backjump needs and gives.
use Rattle.std.proofs.Common.{◌≡◌, ℕ, suc, ◌+◌, ◌-◌, ◌<◌, ◌≤◌, false, List, [], ◌∷◌, ◌++◌, length, get_or, take, drop, inr, refl, sym, ap, ◌∙◌, subst, arith}
use Rattle.std.specs.Prelude.{All}
use Rattle.std.proofs.lemmas.List.{append-nil, append_assoc, get_or_at, take_at, take-take, length-take, length-take-le, get_or-take, get_or_append_left, length-append}
use Rattle.std.proofs.lemmas.List.Elements.{Contains-get_or}
use Rattle.ut_logic.specs.declared.literals.Lit.{Lit}
use Rattle.log_check.specs.declared.derivations.DerivationLine.{DerivationLine}
use Rattle.log_check.specs.Derivations.{IsNumbered, IsRight, results}
use Rattle.sat_log.specs.declared.marks.Mark.{Mark}
use Rattle.sat_log.specs.declared.values.Value.{Value}
use Rattle.sat_log.specs.Moves.{State, IsForcing, Jumps}
use Rattle.sat_log.specs.declared.values.Value.TheVariants.{Unset}
use Rattle.sat_log.specs.Inner.{Tells, IsSettled, IsFirstCut, AreValues, AreTrail, AreReasons, AreApart}
use Rattle.sat_log.proofs.RunLemmas.{IsKept, kept_run, known_push, apart_front}
use Rattle.sat_log.specs.Trails.{IsFirstPlace}
use Rattle.sat_log.proofs.RunLemmas.{AreJustified, IsJustified}
use Rattle.sat_log.proofs.Settled.{settled_jumped}
use Rattle.sat_log.proofs.Back.{split_at}

-- some mark, for a place that is in range
abbrev pub no_mark : Mark
no_mark = record { lit = record { var = 0; positive = false }; decided = false }

numbered_left : (known : List (List Lit)) (r : List Lit) (n : ℕ) (c : List Lit) → IsNumbered known n c → IsNumbered (known ++ r ∷ []) n c
numbered_left known r n c (low, high, at) =
    (low, omega (arith, length-append known (r ∷ [])), get_or_append_left known (r ∷ []) c (n - 1) (omega arith) ∙ at)

-- reasons stay reasons in a front of the trail, and with one clause more
pub reasons_cut : (known : List (List Lit)) (r : List Lit) (ms : List Mark) (rs : List ℕ) (q : ℕ) → q ≤ length ms → AreReasons known ms rs → AreReasons (known ++ r ∷ []) (take q ms) (take q rs)
reasons_cut known r ms rs q h (len, each) = (
  omega (arith, length-take q ms, length-take q rs),
  λ j d i f.
      let low : j < q = omega (arith, length-take-le q ms h) in
      let same : get_or (take q ms) j d ≡ get_or ms j d = get_or-take q ms j d low in
      let number : get_or (take q rs) j 0 ≡ get_or rs j 0 = get_or-take q rs j 0 low in
      let front : take j (take q ms) ≡ take j ms = take-take j q ms (omega arith) in
      let given = each j d (omega arith) (rw same at f) in
      rw (number, front, same) (given.0, numbered_left known r _ given.0 given.1, given.2),
)

-- a mark in the middle is justified by those before it
justified_at : (n : ℕ) (clauses : List (List Lit)) (before xs : List Mark) (m : Mark) (ys : List Mark) → AreJustified n clauses before (xs ++ m ∷ ys) → IsJustified n clauses (before ++ xs) m
justified_at n clauses before [] m ys h = rw append-nil h.0
justified_at n clauses before (x ∷ xs) m ys h = rw append_assoc at (justified_at n clauses (before ++ x ∷ []) xs m ys h.1)

module _ (n : ℕ) (clauses : List (List Lit)) (lines : List DerivationLine) (marks : List Mark) (reasons : List ℕ) (count low : ℕ) (values : List Value) (steps : ℕ) (a : AreTrail n clauses lines marks reasons count low values steps) where
  abbrev pub at : State
  at = record { lines = lines; marks = take count marks; steps = steps }

  pub kept : IsKept n clauses at
  kept = kept_run n clauses a.reached.0 at a.within a.reached.1

  pub marks_within : All (λ (m : Mark). (0 < m.lit.var) × (m.lit.var ≤ n)) (take count marks)
  marks_within = λ k d h. kept.vars (get_or (take count marks) k d) (Contains-get_or (take count marks) k d h)

  pub marks_apart : AreApart (take count marks)
  marks_apart = kept.apart

  module _ (line : DerivationLine) (right : IsRight clauses lines line) (q : ℕ) (place : IsFirstPlace (take count marks) line.result q) where
    abbrev cut : Mark
    cut = get_or (take count marks) q no_mark

    pub jumps : Jumps clauses at (record { lines = lines ++ line ∷ []; marks = take q (take count marks); steps = steps })
    jumps = record {
      line = line;
      derived = right;
      kept = take q (take count marks);
      cut = cut;
      gone = drop (q + 1) (take count marks);
      split = sym (split_at (take count marks) q no_mark place.0.0);
      decided = place.0.1 no_mark;
      forcing = place.0.2;
      after = refl;
    }

    pub front : take q (take count marks) ≡ take q marks
    front = take-take q count marks (omega (arith, place.0.0, length-take count marks))

    -- the variables below the cut literal's stay set
    pub below_cut : (values' : List Value) → AreValues n (take q (take count marks)) values' → (k : ℕ) → k < cut.lit.var - 1 → ¬ (get_or values' k Unset ≡ Unset)
    below_cut values' told k h unset =
        let split = split_at (take count marks) q no_mark place.0.0 in
        let because = justified_at n clauses [] (take q (take count marks)) cut (drop (q + 1) (take count marks)) (subst (AreJustified n clauses []) (sym split) kept.justified) in
        let set = because.lower (place.0.1 no_mark) (k + 1) (omega arith) (omega arith) in
        let high = kept.vars cut (Contains-get_or (take count marks) q no_mark place.0.0) in
        subst (Tells (take q (take count marks)) (k + 1)) unset (told.1 k Unset (omega (arith, high.1))) set

    -- no decided literal before the cut leaves the line one unset literal
    first_cut : IsFirstCut (take q (take count marks)) line.result
    first_cut before c gone e dec f =
        let ms = take count marks in
        let len : length (take q ms) ≡ q = length-take-le q ms (omega (arith, place.0.0)) in
        let parts : length (take q ms) ≡ length before + suc (length gone) = ap length e ∙ length-append before (c ∷ gone) in
        let there : (d : Mark) → get_or ms (length before) d ≡ c = λ d.
        sym (get_or-take q ms (length before) d (omega arith)) ∙ ap (λ t. get_or t (length before) d) e ∙ get_or_at before c gone d (length before) refl in
        let same : take (length before) ms ≡ before = sym (take-take (length before) q ms (omega arith)) ∙ ap (take (length before)) e ∙ take_at before (c ∷ gone) (length before) refl in
        place.1 (length before) (omega arith) (omega (arith, place.0.0), (λ d. ap (λ (m : Mark). m.decided) (there d) ∙ dec), subst (λ t. IsForcing t line.result) (sym same) f)

    pub trail_jump : (values' : List Value) → AreValues n (take q (take count marks)) values' → AreTrail n clauses (lines ++ line ∷ []) marks reasons q (cut.lit.var - 1) values' steps
    trail_jump values' told =
        let front_reasons : take q (take count reasons) ≡ take q reasons = take-take q count reasons (omega (arith, place.0.0, length-take count marks)) in
        let split = split_at (take count marks) q no_mark place.0.0 in
        let whole = subst (IsSettled (clauses ++ results lines)) (sym split) a.settled in
        let apart = apart_front (take q (take count marks)) (cut ∷ drop (q + 1) (take count marks)) (subst AreApart (sym split) kept.apart) in
        record {
          within = a.within;
          reached = (suc a.reached.0, (at, a.reached.1, inr (rw (← front) jumps)));
          because = rw (known_push clauses lines line, ← front, ← front_reasons) (reasons_cut (clauses ++ results lines) line.result (take count marks) (take count reasons) q (omega (arith, place.0.0)) a.because);
          settled = rw (known_push clauses lines line, ← front) (settled_jumped (clauses ++ results lines) (take q (take count marks)) cut (drop (q + 1) (take count marks)) line.result apart whole place.0.2 first_cut);
          told = rw (← front) told;
          below = below_cut values' told;
          room = a.room;
          reason_room = a.reason_room;
          count = omega (arith, place.0.0, length-take count marks, a.count);
        }
