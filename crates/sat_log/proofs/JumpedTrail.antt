-- Where a trail is cut for a derived line.
use Rattle.std.proofs.Common.{◌≡◌, ◌≢◌, ℕ, ◌+◌, ◌-◌, ◌^◌, ◌<◌, ◌≤◌, true, false, List, [], ◌∷◌, ◌++◌, length, get_or, take, drop, sym, ap, ◌∙◌, subst, arith}
use Rattle.std.specs.Prelude.{All, Contains}
use Rattle.std.proofs.lemmas.List.Elements.{Contains-get_or}
use Rattle.ut_logic.specs.declared.literals.Lit.{Lit}
use Rattle.ut_logic.specs.Clauses.{literal, IsOrdered, IsWithin}
use Rattle.log_check.specs.declared.derivations.DerivationLine.{DerivationLine}
use Rattle.log_check.specs.Derivations.{IsRight, results}
use Rattle.log_check.proofs.Resolvents.{contains_nothing}
use Rattle.sat_log.specs.declared.marks.Mark.{Mark}
use Rattle.sat_log.specs.declared.trail.Trail.TheInside.{Inside}
use Rattle.sat_log.specs.Placing.{AreLatestTwo, IsFirstDecided}
use Rattle.sat_log.specs.Trails.{IsCut, IsFirstPlace}
use Rattle.sat_log.specs.TrailInside.{form_of, set_marks, state_of, IsTrail}
use Rattle.sat_log.specs.declared.visiting.Watched.{Watched}
use Rattle.sat_log.specs.Codes.{literal_of}
use Rattle.sat_log.specs.Links.{none}
use Rattle.sat_log.specs.Watches.{AreWatched, IsToLearn, MayWatch}
use Rattle.sat_log.proofs.Back.{split_at}
use Rattle.sat_log.proofs.Keeping.{to_learn}
use Rattle.sat_log.proofs.Latest.{no_cut_before, first_place, one_left, fine_before}
use Rattle.sat_log.proofs.RunLemmas.{kept_run, gives_within}
use Rattle.sat_log.proofs.TrailLaws.{few_vars, length_marks, apart_now}

module _ (t : Inside) (i : IsTrail t) (line : DerivationLine) (right : IsRight (form_of t) t.lines.items line) where
  pub line_within : IsWithin t.vars line.result
  line_within k d h =
      let kept = kept_run t.vars (form_of t) i.trail.reached.0 (state_of t) i.trail.within i.trail.reached.1 in
      gives_within t.vars (form_of t ++ results t.lines.items) line.chain line.result kept.within right (get_or line.result k d) (Contains-get_or line.result k d h)

  pub line_in_places : All (λ (l : Lit). (0 < l.var) × (l.var ≤ length t.at.items)) line.result
  line_in_places k d h = let w = line_within k d h in (w.0, omega (arith, w.1, i.placed.at_room))

  pub line_in_values : All (λ (l : Lit). (0 < l.var) × (l.var ≤ length t.values.items)) line.result
  line_in_values k d h = let w = line_within k d h in (w.0, omega (arith, w.1, i.trail.told.0))

  pub line_fits : All (λ (l : Lit). l.var < 2 ^ 31) line.result
  line_fits k d h = let w = line_within k d h in omega (arith, w.1, few_vars t i)

  -- the clause can be added with its watches where the trail is cut
  pub learnable : (q : ℕ) → IsFirstPlace (set_marks t) line.result q → (w w' : Watched) → AreWatched t.vars w (set_marks t) → w'.store ≡ w.store ++ line.result ∷ [] → w'.links ≡ w.links → w'.waiting ≡ w.waiting → length w.store + 1 ≤ w.waiting.room → w.links.slots + 2 ≤ length w.links.next.items → w.links.slots + 2 ≤ length w.links.watched.items → w.links.slots + 2 < none → (first second : ℕ) → MayWatch (take q (set_marks t)) line.result (literal_of first) (literal_of second) → IsToLearn t.vars w' (take q (set_marks t)) first second
  learnable q place w w' a store links waiting room next_room watch_room few first second pair =
      let d : Mark = record { lit = record { var = 0; positive = false }; decided = false } in
      to_learn t.vars w w' (set_marks t) (take q (set_marks t)) (get_or (set_marks t) q d) (drop (q + 1) (set_marks t)) line.result first second a (sym (split_at (set_marks t) q d place.0.0)) (place.0.1 d) store links waiting line_within room next_room watch_room few pair

  module _ (k : ℕ) (some : IsCut (set_marks t) line.result k) where
    pub some_literal : 0 < length line.result
    some_literal = by line.result some.2.1.inside
      where
        by : (c : List Lit) → Contains c some.2.0 → 0 < length c
        by [] j = absurd (contains_nothing some.2.0 j)
        by (x ∷ xs) j = omega arith

    module _ (ordered : IsOrdered line.result) (first second bound : ℕ) (two : AreLatestTwo t.at.items t.values.items t.set line.result first second bound) where
      two_here : AreLatestTwo t.at.items t.values.items (length (set_marks t)) line.result first second bound
      two_here = subst (λ n. AreLatestTwo t.at.items t.values.items n line.result first second bound) (sym (length_marks t i)) two

      pub cut_exists : (j : ℕ) × (bound ≤ j) × (j < length (set_marks t)) × ((d : Mark) → (get_or (set_marks t) j d).decided ≡ true)
      cut_exists = (k, no_cut_before t.vars (set_marks t) t.at.items t.values.items i.trail.told i.placed.at_place line.result (apart_now t i) ordered line_within first second bound two_here k some, some.0, some.1)

      module _ (cut : ℕ) (d : IsFirstDecided (set_marks t) bound cut) where
        pub cut_first : IsFirstPlace (set_marks t) line.result cut
        cut_first = first_place t.vars (set_marks t) t.at.items t.values.items i.trail.told i.placed.at_place line.result (apart_now t i) ordered line_within first second bound two_here k some cut d

        pub cut_watches : MayWatch (take cut (set_marks t)) line.result (get_or line.result first (literal 0 true)) (get_or line.result second (literal 0 true))
        cut_watches = record {
          first = Contains-get_or line.result first (literal 0 true) two.first_in;
          second = Contains-get_or line.result second (literal 0 true) two.second_in;
          left = one_left t.vars (set_marks t) t.at.items t.values.items i.trail.told i.placed.at_place line.result (apart_now t i) ordered line_within first second bound two_here k some cut d;
          before = fine_before t.vars (set_marks t) t.at.items t.values.items i.trail.told i.placed.at_place line.result (apart_now t i) ordered line_within first second bound two_here k some cut d;
        }

        -- the same by the numbers of the two literals
        pub coded_watches : (a b : ℕ) → literal_of a ≡ get_or line.result first (literal 0 true) → literal_of b ≡ get_or line.result second (literal 0 true) → MayWatch (take cut (set_marks t)) line.result (literal_of a) (literal_of b)
        coded_watches a b ea eb =
            subst (λ x. MayWatch (take cut (set_marks t)) line.result x (literal_of b)) (sym ea)
            (subst (λ y. MayWatch (take cut (set_marks t)) line.result (get_or line.result first (literal 0 true)) y) (sym eb) cut_watches)
