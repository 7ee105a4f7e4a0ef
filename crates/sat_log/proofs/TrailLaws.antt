-- The fields of a trail, from move to move.
use Rattle.std.proofs.Common.{◌≡◌, ◌≢◌, ℕ, suc, ◌+◌, ◌-◌, ◌/◌, ◌<◌, ◌≤◌, ◌^◌, Bool, true, false, List, [], ◌∷◌, ◌++◌, length, get_or, set, map, take, drop, ◌⊎◌, inl, inr, refl, sym, ap, ◌∙◌, subst, arith}
use Rattle.std.specs.Prelude.{All, Contains}
use Rattle.std.proofs.lemmas.List.{append-nil, take_all, get_or_past, get_or_default, length-take-le, length_push, length-set, take_more_set, take-append-le, take-take}
use Rattle.ut_logic.specs.declared.literals.Lit.{Lit}
use Rattle.ut_logic.specs.Clauses.{negated, AreWithin}
use Rattle.log_check.specs.declared.derivations.DerivationLine.{DerivationLine}
use Rattle.log_check.specs.Derivations.{IsNumbered, IsRight, results}
use Rattle.sat_log.specs.declared.marks.Mark.{Mark}
use Rattle.sat_log.specs.declared.trail.Trail.TheInside.{Inside}
use Rattle.sat_log.specs.declared.values.Value.{Value}
use Rattle.sat_log.specs.declared.values.Value.TheVariants.{Unset}
use Rattle.sat_log.specs.Codes.{code_of, literal_of}
use Rattle.sat_log.specs.Inner.{AreApart, AreTrail, AreValues, IsReason, IsSettled, value_for}
use Rattle.sat_log.specs.Links.{none}
use Rattle.sat_log.specs.Moves.{IsForcing, IsQuiet, Steps, with_mark}
use Rattle.sat_log.specs.Placing.{latest_for, ArePlaced}
use Rattle.sat_log.specs.Trails.{IsFirstPlace}
use Rattle.sat_log.specs.TrailInside.{form_of, set_marks, state_of, IsTrail}
use Rattle.std.proofs.lemmas.Bool.{cases_lt, cases_eq}
use Rattle.sat_log.specs.Watches.{clause_in, AreRead, AreWatched, IsToVisit, IsVisiting}
use Rattle.sat_log.proofs.Jumping.{marks_apart, marks_within, trail_jump}
use Rattle.std.proofs.lemmas.List.Elements.{All-contains, Contains-get_or}
use Rattle.sat_log.proofs.Looking.{code_in}
use Rattle.sat_log.proofs.Reading.{within_known}
use Rattle.sat_log.proofs.Keeping.{to_visit_decided, to_visit_forced, visited}
use Rattle.sat_log.proofs.Numbering.{code_high}
use Rattle.sat_log.proofs.PlaceLaws.{placed_push, placed_cut, placed_start}
use Rattle.sat_log.proofs.Places.{trail_start, trail_step, values_push}
use Rattle.sat_log.proofs.RunLemmas.{known_push, differ, same_or_turned}

-- a literal that may be set next, by a decision or by a known clause
pub record Stepping (t : Inside) (l : Lit) (decided : Bool) (reason low' : ℕ) : Type 0 where
  pub room : t.set + 1 ≤ t.vars
  pub range : (0 < l.var) × (l.var ≤ t.vars)
  pub because : decided ≡ false → (c : List Lit) × IsNumbered (form_of t ++ results t.lines.items) reason c × IsReason (set_marks t) l c
  pub step : Steps t.vars (form_of t) (state_of t) (with_mark (state_of t) l decided)
  pub settled : IsSettled (form_of t ++ results t.lines.items) (set_marks t ++ (record { lit = l; decided = decided }) ∷ [])
  pub below : (k : ℕ) → k < low' → k ≢ l.var - 1 → ¬ (get_or t.values.items k Unset ≡ Unset)
  pub quiet : decided ≡ true → IsQuiet t.watched.store (set_marks t)

module _ (t : Inside) (i : IsTrail t) where
  pub length_marks : length (set_marks t) ≡ t.set
  length_marks = length-take-le t.set t.marks.items (omega (arith, i.trail.room, i.trail.count))

  pub apart_now : AreApart (set_marks t)
  apart_now = marks_apart t.vars (form_of t) t.lines.items t.marks.items t.reasons.items t.set t.low t.values.items t.steps i.trail

  pub vars_now : All (λ (m : Mark). (0 < m.lit.var) × (m.lit.var ≤ t.vars)) (set_marks t)
  vars_now = marks_within t.vars (form_of t) t.lines.items t.marks.items t.reasons.items t.set t.low t.values.items t.steps i.trail

  -- the clauses of the form and the results of the lines are what is watched
  pub watched_known : (P : List (List Lit) → Type 0) → P (form_of t ++ results t.lines.items) → P t.watched.store
  watched_known P h = subst P (sym i.known) h

  pub known_watched : (P : List (List Lit) → Type 0) → P t.watched.store → P (form_of t ++ results t.lines.items)
  known_watched P h = subst P i.known h

  pub few_vars : t.vars < 2 ^ 31
  few_vars = i.watched.sized.few

  -- the number of a literal has its list
  pub code_in_heads : (l : Lit) (code : ℕ) → l.var ≤ t.vars → code ≡ code_of l → code < length t.watched.links.heads.items
  code_in_heads l code h e = omega (arith, e, code_high l, i.watched.sized.heads)

  -- the numbers of a known clause's literals are of variables that have values
  pub code_ranges : (number : ℕ) (c : List Lit) → IsNumbered (form_of t ++ results t.lines.items) number c → (codes : List ℕ) → map literal_of codes ≡ c → All (λ code. (2 ≤ code) × (code / 2 ≤ length t.values.items)) codes
  code_ranges number c num codes e k d h =
      let inside : Contains codes (get_or codes k d) = Contains-get_or codes k d h in
      let w = within_known t.vars (form_of t) t.lines.items t.marks.items t.reasons.items t.set t.low t.values.items t.steps i.trail number c num in
      let range : (0 < get_or codes k d / 2) × (get_or codes k d / 2 ≤ t.vars) = All-contains (λ (l : Lit). (0 < l.var) × (l.var ≤ t.vars)) c (literal_of (get_or codes k d)) w (subst (λ s. Contains s (literal_of (get_or codes k d))) e (code_in codes (get_or codes k d) inside)) in
      (omega (arith, range.0), omega (arith, range.1, i.trail.told.0))

  -- a mark more
  module _ (l : Lit) (decided : Bool) (reason low' : ℕ) (go : Stepping t l decided reason low') where
    abbrev m : Mark
    m = record { lit = l; decided = decided }

    abbrev values' : List Value
    values' = set t.values.items (l.var - 1) (value_for l.positive)

    more : take (t.set + 1) (set t.marks.items t.set m) ≡ set_marks t ++ m ∷ []
    more = take_more_set t.marks.items t.set m (omega (arith, i.trail.room))

    trail_next : AreTrail t.vars (form_of t) t.lines.items (set t.marks.items t.set m) (set t.reasons.items t.set reason) (t.set + 1) low' values' (t.steps + 1)
    trail_next = trail_step t.vars (form_of t) t.lines.items t.marks.items t.reasons.items t.set t.low t.values.items t.steps l decided reason low' i.trail go.room go.range go.because go.step go.settled go.below

    apart_next : AreApart (set_marks t ++ m ∷ [])
    apart_next = subst AreApart more (marks_apart t.vars (form_of t) t.lines.items (set t.marks.items t.set m) (set t.reasons.items t.set reason) (t.set + 1) low' values' (t.steps + 1) trail_next)

    told_next : AreValues t.vars (set_marks t ++ m ∷ []) values'
    told_next = values_push t.vars (set_marks t) m t.values.items go.range.0 go.range.1 i.trail.told

    -- the list of the literal that becomes false can be visited
    pub visit_ready : (code : ℕ) → literal_of code ≡ negated l → IsToVisit t.watched values' (set_marks t) m code
    visit_ready code hit = elim (same_or_turned decided true) [
      | inl e ↦ to_visit_decided t.vars t.watched (set_marks t) i.watched apart_now values' m code told_next.0 told_next apart_next hit (go.quiet e)
      | inr e ↦ to_visit_forced t.vars t.watched (set_marks t) i.watched apart_now values' m code told_next.0 told_next apart_next hit e
    ]

    placed_next : (place : ℕ) → place ≡ l.var - 1 → ArePlaced t.vars (set_marks t ++ m ∷ []) (set t.at.items place t.set) (set t.latest.items t.set (latest_for decided t.set t.latest.items))
    placed_next place place_is =
        let made = placed_push t.vars (set_marks t) m t.at.items t.latest.items i.placed apart_next vars_now go.range.0 go.range.1 (omega (arith, length_marks)) in
        subst (λ p. ArePlaced t.vars (set_marks t ++ m ∷ []) (set t.at.items p t.set) (set t.latest.items t.set (latest_for decided t.set t.latest.items))) (sym place_is)
        (subst (λ k. ArePlaced t.vars (set_marks t ++ m ∷ []) (set t.at.items (l.var - 1) k) (set t.latest.items k (latest_for decided k t.latest.items))) length_marks made)

    pub stepped : (t' : Inside) (place code : ℕ) → t'.vars ≡ t.vars → t'.form ≡ t.form → t'.watched.store ≡ t.watched.store → t'.lines.items ≡ t.lines.items → t'.marks.items ≡ set t.marks.items t.set m → t'.reasons.items ≡ set t.reasons.items t.set reason → t'.latest.items ≡ set t.latest.items t.set (latest_for decided t.set t.latest.items) → t'.set ≡ t.set + 1 → t'.low ≡ low' → t'.values.items ≡ values' → t'.at.items ≡ set t.at.items place t.set → t'.steps ≡ t.steps + 1 → place ≡ l.var - 1 → literal_of code ≡ negated l → ((ms : List Mark) (m : Mark) → IsToVisit t.watched t'.values.items ms m code → IsVisiting t'.watched t'.values.items ms m code none []) → IsTrail t'
    stepped t' place code vars form store lines marks reasons latest count low values at_places steps place_is hit walk =
        let v : IsVisiting t'.watched t'.values.items (set_marks t) m code none [] = walk (set_marks t) m (rw values (visit_ready code hit)) in
        let len : length t'.values.items ≡ t.vars = ap length values ∙ told_next.0 in
        record {
          trail = rw (vars, form, store, lines, marks, reasons, count, low, values, steps) trail_next;
          form_in = rw (form, store) i.form_in;
          known = rw (form, store, lines) i.known;
          watched = rw (vars, count, marks, more) (visited t.vars t'.watched t'.values.items (set_marks t) m code len v);
          placed = rw (vars, count, marks, more, at_places, latest) (placed_next place place_is);
        }

  -- more room
  pub regrown : (t' : Inside) → t'.vars ≡ t.vars → t'.form ≡ t.form → t'.lines.items ≡ t.lines.items → t'.marks.items ≡ t.marks.items → t'.reasons.items ≡ t.reasons.items → t'.latest.items ≡ t.latest.items → t'.set ≡ t.set → t'.low ≡ t.low → t'.values.items ≡ t.values.items → t'.at.items ≡ t.at.items → t'.steps ≡ t.steps → t'.watched.store ≡ t.watched.store → AreWatched t.vars t'.watched (set_marks t) → IsTrail t'
  regrown t' vars form lines marks reasons latest count low values at_places steps store watched = record {
    trail = rw (vars, form, store, lines, marks, reasons, count, low, values, steps) i.trail;
    form_in = rw (form, store) i.form_in;
    known = rw (form, store, lines) i.known;
    watched = rw (vars, count, marks) watched;
    placed = rw (vars, count, marks, at_places, latest) i.placed;
  }

  -- the first variables up to another one are set
  pub low_within : t.low ≤ length t.values.items
  low_within = elim (cases_lt (length t.values.items) t.low) [
    | inr q ↦ q
    | inl q ↦ absurd (i.trail.below (length t.values.items) q (get_or_past t.values.items (length t.values.items) Unset (omega arith)))
  ]

  pub lowered : (t' : Inside) → t'.vars ≡ t.vars → t'.form ≡ t.form → t'.lines.items ≡ t.lines.items → t'.marks.items ≡ t.marks.items → t'.reasons.items ≡ t.reasons.items → t'.latest.items ≡ t.latest.items → t'.set ≡ t.set → t'.values.items ≡ t.values.items → t'.at.items ≡ t.at.items → t'.steps ≡ t.steps → t'.watched ≡ t.watched → ((k : ℕ) → k < t'.low → ¬ (get_or t.values.items k Unset ≡ Unset)) → IsTrail t'
  lowered t' vars form lines marks reasons latest count values at_places steps watched below = record {
    trail = rw (vars, form, watched, lines, marks, reasons, count, values, steps) (record {
      within = i.trail.within;
      reached = i.trail.reached;
      because = i.trail.because;
      settled = i.trail.settled;
      told = i.trail.told;
      below = below;
      room = i.trail.room;
      reason_room = i.trail.reason_room;
      count = i.trail.count;
    });
    form_in = rw (form, watched) i.form_in;
    known = rw (form, watched, lines) i.known;
    watched = rw (vars, watched, count, marks) i.watched;
    placed = rw (vars, count, marks, at_places, latest) i.placed;
  }

  pub read_now : AreRead t.values.items (set_marks t)
  read_now = record { told = subst (λ n. AreValues n (set_marks t) t.values.items) (sym i.trail.told.0) i.trail.told; apart = apart_now }

  -- more waits, or less
  pub rewatched : (t' : Inside) → t'.vars ≡ t.vars → t'.form ≡ t.form → t'.lines.items ≡ t.lines.items → t'.marks.items ≡ t.marks.items → t'.reasons.items ≡ t.reasons.items → t'.latest.items ≡ t.latest.items → t'.set ≡ t.set → t'.low ≡ t.low → t'.values.items ≡ t.values.items → t'.at.items ≡ t.at.items → t'.steps ≡ t.steps → t'.watched.store ≡ t.watched.store → ((ms : List Mark) → AreRead t.values.items ms → AreWatched (length t.values.items) t.watched ms → AreWatched (length t.values.items) t'.watched ms) → IsTrail t'
  rewatched t' vars form lines marks reasons latest count low values at_places steps store watched =
      let len : length t.values.items ≡ t.vars = i.trail.told.0 in
      regrown t' vars form lines marks reasons latest count low values at_places steps store
      (subst (λ n. AreWatched n t'.watched (set_marks t)) len (watched (set_marks t) read_now (subst (λ n. AreWatched n t.watched (set_marks t)) (sym len) i.watched)))

  -- a known clause that forces a literal, by its number
  pub forcing_numbered : (place number : ℕ) → number ≡ place + 1 → place < length t.watched.store → IsForcing (set_marks t) (clause_in t.watched.store place) → (c : List Lit) × IsNumbered (form_of t ++ results t.lines.items) number c × IsForcing (set_marks t) c
  forcing_numbered place number e low f =
      let c : List Lit = clause_in t.watched.store place in
      let at : number - 1 ≡ place = omega arith in
      let num : IsNumbered t.watched.store number c = (omega arith, omega arith, ap (λ k. get_or t.watched.store k c) at ∙ get_or_default t.watched.store place c [] low) in
      (c, known_watched (λ k. IsNumbered k number c) num, f)

  pub watched_now : AreWatched (length t.values.items) t.watched (set_marks t)
  watched_now = subst (λ n. AreWatched n t.watched (set_marks t)) (sym i.trail.told.0) i.watched

  -- the last decided place
  pub latest_now : (p : ℕ) → (0 < t.set → p ≡ get_or t.latest.items (t.set - 1) 0) → (t.set ≡ 0 → p ≡ 0) → (d : Mark) → 0 < p → (p ≤ length (set_marks t)) × ((get_or (set_marks t) (p - 1) d).decided ≡ true)
  latest_now p some none d h = elim (cases_eq t.set 0) [
    | inl e ↦ absurd (omega (arith, none e))
    | inr n ↦
        let l = i.placed.latest_place (t.set - 1) (omega (arith, length_marks)) in
        let e : p ≡ get_or t.latest.items (t.set - 1) 0 = some (omega arith) in
        (omega (arith, l.within, length_marks, e), subst (λ q. (get_or (set_marks t) (q - 1) d).decided ≡ true) (sym e) (l.decided d (omega (arith, e))))
  ]

  -- a cut, and a line more
  module _ (t' : Inside) (line : DerivationLine) (right : IsRight (form_of t) t.lines.items line) (q : ℕ) (place : IsFirstPlace (set_marks t) line.result q)
      (vars : t'.vars ≡ t.vars) (form : t'.form ≡ t.form) (store : t'.watched.store ≡ t.watched.store ++ line.result ∷ []) (lines : t'.lines.items ≡ t.lines.items ++ line ∷ [])
      (marks : t'.marks.items ≡ t.marks.items) (reasons : t'.reasons.items ≡ t.reasons.items) (latest : t'.latest.items ≡ t.latest.items) (count : t'.set ≡ q)
      (cut_mark : Mark) (cut_is : get_or (set_marks t) q (record { lit = record { var = 0; positive = false }; decided = false }) ≡ cut_mark) (low : t'.low ≡ cut_mark.lit.var - 1)
      (at_places : t'.at.items ≡ t.at.items) (steps : t'.steps ≡ t.steps)
      (told : AreValues t.vars (take q (set_marks t)) t'.values.items)
      (watched : AreWatched t.vars t'.watched (take q (set_marks t)))
    where
      front : take q (set_marks t) ≡ take q t.marks.items
      front = take-take q t.set t.marks.items (omega (arith, place.0.0, length_marks))

      form_same : take t.form (t.watched.store ++ line.result ∷ []) ≡ form_of t
      form_same = take-append-le t.form t.watched.store (line.result ∷ []) i.form_in

      pub jumped : IsTrail t'
      jumped = record {
        trail = rw (vars, form, store, form_same, lines, marks, reasons, count, low, ← cut_is, steps) (trail_jump t.vars (form_of t) t.lines.items t.marks.items t.reasons.items t.set t.low t.values.items t.steps i.trail line right q place t'.values.items told);
        form_in = rw (form, store) (omega (arith, length_push t.watched.store line.result, i.form_in));
        known = rw (form, store, form_same, lines, known_push (form_of t) t.lines.items line) (ap (λ k. k ++ line.result ∷ []) i.known);
        watched = rw (vars, count, marks, ← front) watched;
        placed = rw (vars, count, marks, ← front, at_places, latest) (placed_cut t.vars (set_marks t) t.at.items t.latest.items q (omega (arith, place.0.0)) i.placed);
      }

-- the start
pub started : (t : Inside) (clauses : List (List Lit)) → t.watched.store ≡ clauses → t.form ≡ length clauses → AreWithin t.vars clauses → t.lines.items ≡ [] → length t.marks.items ≡ t.vars → length t.reasons.items ≡ t.vars → length t.values.items ≡ t.vars → All (λ (x : Value). x ≡ Unset) t.values.items → length t.at.items ≡ t.vars → length t.latest.items ≡ t.vars → t.set ≡ 0 → t.low ≡ 0 → t.steps ≡ 0 → AreWatched t.vars t.watched [] → IsTrail t
started t clauses store form within lines marks reasons values unset at latest count low steps watched =
    let whole : form_of t ≡ clauses = ap (take t.form) store ∙ take_all t.form clauses (omega arith) in
    record {
      trail = rw (count, low, steps, whole) (trail_start t.vars clauses t.lines.items t.marks.items t.reasons.items t.values.items within lines marks reasons values unset);
      form_in = rw (form, store) (omega arith);
      known = rw (whole, lines) (store ∙ sym (append-nil clauses));
      watched = rw count watched;
      placed = rw count (placed_start t.vars t.at.items t.latest.items at latest);
    }
