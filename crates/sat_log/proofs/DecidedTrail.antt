-- A variable that may be decided, and a literal that may be forced.
use Rattle.std.proofs.Common.{◌≡◌, ◌≢◌, ℕ, ◌+◌, ◌-◌, ◌/◌, ◌<◌, ◌≤◌, true, false, List, [], ◌∷◌, ◌++◌, length, get_or, map, inl, inr, refl, sym, ap, ◌∙◌, subst, arith}
use Rattle.std.specs.Prelude.{Any, Contains}
use Rattle.std.proofs.lemmas.List.Elements.{Contains-get_or}
use Rattle.std.proofs.lemmas.List.{get_or_default}
use Rattle.ut_logic.specs.declared.literals.Lit.{Lit}
use Rattle.ut_logic.specs.Clauses.{literal}
use Rattle.log_check.specs.Derivations.{IsNumbered, results}
use Rattle.sat_log.specs.declared.trail.Trail.TheInside.{Inside}
use Rattle.sat_log.specs.declared.values.Value.TheVariants.{Unset}
use Rattle.sat_log.specs.Codes.{literal_of}
use Rattle.sat_log.specs.Moves.{IsQuiet, Decides, Forces, with_mark}
use Rattle.sat_log.specs.TrailInside.{form_of, set_marks, state_of, IsTrail}
use Rattle.sat_log.proofs.Deciding.{decides, room}
use Rattle.sat_log.proofs.Looking.{code_in, code_for}
use Rattle.sat_log.proofs.Propagating as forced
use Rattle.sat_log.proofs.RunLemmas.{differ}
use Rattle.sat_log.proofs.Settled.{settled_decided, settled_forced}
use Rattle.sat_log.proofs.TrailLaws.{Stepping, watched_known}

pub back_one : (n : ℕ) → n ≡ n + 1 - 1
back_one n = omega arith

module _ (t : Inside) (i : IsTrail t) (p : ℕ) (quiet : IsQuiet (form_of t ++ results t.lines.items) (set_marks t)) (within : p < length t.values.items) (unset : get_or t.values.items p Unset ≡ Unset) (first : (k : ℕ) → k < p → ¬ (get_or t.values.items k Unset ≡ Unset)) where
  pub decides_now : Decides t.vars (form_of t) (state_of t) (with_mark (state_of t) (literal (p + 1) false) true)
  decides_now = decides t.vars (form_of t) t.lines.items t.marks.items t.reasons.items t.set t.low t.values.items t.steps i.trail p quiet within unset first

  pub decide_go : Stepping t (literal (p + 1) false) true 0 (p + 1)
  decide_go = record {
    room = room t.vars (form_of t) t.lines.items t.marks.items t.reasons.items t.set t.low t.values.items t.steps i.trail (with_mark (state_of t) (literal (p + 1) false) true) decides_now;
    range = (omega arith, omega (arith, i.trail.told.0));
    because = λ e. absurd (differ e);
    step = inl decides_now;
    settled = settled_decided (form_of t ++ results t.lines.items) (set_marks t) (record { lit = literal (p + 1) false; decided = true }) i.trail.settled quiet;
    below = λ k h n. first k (omega arith);
    quiet = λ e. watched_known t i (λ k. IsQuiet k (set_marks t)) quiet;
  }

module _ (t : Inside) (i : IsTrail t) (number : ℕ) (c : List Lit) (num : IsNumbered (form_of t ++ results t.lines.items) number c) (l : Lit) (f : Forces (set_marks t) c l) where
  pub force_go : Stepping t l false number t.low
  force_go = record {
    room = forced.room t.vars (form_of t) t.lines.items t.marks.items t.reasons.items t.set t.low t.values.items t.steps i.trail number c num l f;
    range = forced.range t.vars (form_of t) t.lines.items t.marks.items t.reasons.items t.set t.low t.values.items t.steps i.trail number c num l f;
    because = λ e. forced.reason t.vars (form_of t) t.lines.items t.marks.items t.reasons.items t.set t.low t.values.items t.steps i.trail number c num l f;
    step = inr (forced.propagates t.vars (form_of t) t.lines.items t.marks.items t.reasons.items t.set t.low t.values.items t.steps i.trail number c num l f);
    settled = settled_forced (form_of t ++ results t.lines.items) (set_marks t) (record { lit = l; decided = false }) refl i.trail.settled;
    below = λ k h n. i.trail.below k h;
    quiet = λ e. absurd (differ (sym e));
  }

  -- the clause's place among those that are watched
  pub clause_place : (number - 1 < length t.watched.store) × (get_or t.watched.store (number - 1) [] ≡ c)
  clause_place = (
    watched_known t i (λ k. number - 1 < length k) (omega (arith, num.0, num.1)),
    watched_known t i (λ k. get_or k (number - 1) [] ≡ c) (get_or_default (form_of t ++ results t.lines.items) (number - 1) [] c (omega (arith, num.0, num.1)) ∙ num.2),
  )

  module _ (codes : List ℕ) (lits : map literal_of codes ≡ c) where
    -- some number's variable has no value
    pub some_unset_code : Any (λ code. get_or t.values.items (code / 2 - 1) Unset ≡ Unset) codes
    some_unset_code = by (forced.some_unset t.vars (form_of t) t.lines.items t.marks.items t.reasons.items t.set t.low t.values.items t.steps i.trail number c num l f)
      where
        found : (x : Lit) → Contains c x → get_or t.values.items (x.var - 1) Unset ≡ Unset → Any (λ code. get_or t.values.items (code / 2 - 1) Unset ≡ Unset) codes
        found x inside e = at (code_for codes x (subst (λ s. Contains s x) (sym lits) inside))
          where
            at : (code : ℕ) × Contains codes code × (literal_of code ≡ x) → Any (λ code. get_or t.values.items (code / 2 - 1) Unset ≡ Unset) codes
            at (code, (k, lt, here), same) = (k, code, lt, here, ap (λ (y : Lit). get_or t.values.items (y.var - 1) Unset) same ∙ e)

        by : Any (λ (x : Lit). get_or t.values.items (x.var - 1) Unset ≡ Unset) c → Any (λ code. get_or t.values.items (code / 2 - 1) Unset ≡ Unset) codes
        by (k, x, lt, here, e) = found x (k, lt, here) e

    -- a number whose variable has no value is the forced literal's
    pub forced_code : (code : ℕ) → Contains codes code → get_or t.values.items (code / 2 - 1) Unset ≡ Unset → l ≡ literal_of code
    forced_code code inside e = forced.same_literal t.vars (form_of t) t.lines.items t.marks.items t.reasons.items t.set t.low t.values.items t.steps i.trail number c num l f (literal_of code) (subst (λ s. Contains s (literal_of code)) lits (code_in codes code inside)) e
