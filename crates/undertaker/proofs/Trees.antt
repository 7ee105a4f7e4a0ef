-- What validity comes to in a tree of the first form: each symbol is n or y, and y only where all that it
-- needs are y.
use Rattle.std.proofs.Common.{◌≡◌, ℕ, ◌≤◌, ◌<◌, ◌==◌, zero, suc, Bool, true, false, not, cond, refl, sym, subst, ◌∙◌, arith, List, [], ◌∷◌, length, max, min, get_or, Option, None, Some, ◌⊎◌, inl, inr, ⊎_elim}
use Rattle.std.proofs.lemmas.Bool.Decides.{nat_tests}
use Rattle.std.proofs.lemmas.Bool.{cases_lt}
use Rattle.std.specs.List.{list_all}
use Rattle.kconf_tree.specs.declared.shape.Counts.TheVariants as counts
use Rattle.kconf_tree.specs.Shape.{Shape}
use Rattle.kconf_tree.specs.Value.{Configuration, has_modules}
use Rattle.kconf_tree.specs.Valid.{calculate, calculated_of, Fits, HasValueBy, KeepsRules}
use Rattle.undertaker.specs.Dependencies.{Graph, needs_at, IsClosed}
use Rattle.undertaker.specs.FirstTrees.{Shows, joined_value}
use Rattle.undertaker.proofs.Bools.{joined_some, joined_of_y}

-- a bool without default and selects is n, or it is y and visible
bool_value : (on : Bool) (vis x : ℕ) (u : Option ℕ) → calculate counts.Bool on vis 0 0 u ≡ x → (x ≡ 0) ⊎ ((x ≡ 2) × ((vis == 0) ≡ false))
bool_value on vis x None h = inl (sym h)
bool_value on vis x (Some u) h = by (vis == 0) refl h
  where
    second : (n : Bool) → (vis == 0) ≡ false → cond n 0 2 ≡ x → (x ≡ 0) ⊎ ((x ≡ 2) × ((vis == 0) ≡ false))
    second true e g = inl (sym g)
    second false e g = inr (sym g, e)

    by : (b : Bool) → (vis == 0) ≡ b → cond (max (cond b 0 (min u vis)) 0 == 0) 0 2 ≡ x → (x ≡ 0) ⊎ ((x ≡ 2) × ((vis == 0) ≡ false))
    by true e g = inl (sym g)
    by false e g = second (max (min u vis) 0 == 0) e g

module _ (t : Shape) (g : Graph) (shows : Shows t g) where
  calculated_at : (c : Configuration) (k : ℕ) (u : Option ℕ) → k < length g.names
      → calculated_of t c u k ≡ calculate counts.Bool (has_modules t c) (joined_value c.value (needs_at g k)) 0 0 u
  calculated_at c k u lt = rw (shows.bool k lt, shows.visibility c k lt, shows.reverse c k lt, shows.default c k lt) refl

  -- where the rules are kept a symbol is n, or it is y and so visible
  pub value_cases : (c : Configuration) (r : KeepsRules t c) (k : ℕ) → k < length g.names
      → (c.value k ≡ 0) ⊎ ((c.value k ≡ 2) × ((joined_value c.value (needs_at g k) == 0) ≡ false))
  value_cases c r k lt = let own = r.calculated.gives k (rw shows.count lt) (shows.no_member k) in
      bool_value (has_modules t c) (joined_value c.value (needs_at g k)) (c.value k) (r.setting k) (sym (calculated_at c k (r.setting k) lt) ∙ own.1)

  -- the symbols that aren't n are a closed set
  no_needs : (k : ℕ) → length g.names ≤ k → needs_at g k ≡ []
  no_needs k h = beyond g.needs k (rw shows.rows h)
    where
      beyond : (rows : List (List ℕ)) (k : ℕ) → length rows ≤ k → get_or rows k [] ≡ []
      beyond [] k h = refl
      beyond (row ∷ rows) zero h = absurd (omega arith)
      beyond (row ∷ rows) (suc k) h = beyond rows k (omega arith)

  pub values_are_closed : (c : Configuration) → KeepsRules t c → IsClosed g (λ k. not (c.value k == 0))
  values_are_closed c r k h = ⊎_elim inside outside (cases_lt k (length g.names))
    where
      seen : (c.value k ≡ 0) ⊎ ((c.value k ≡ 2) × ((joined_value c.value (needs_at g k) == 0) ≡ false)) → list_all (λ j. not (c.value j == 0)) (needs_at g k) ≡ true
      seen (inl e) = absurd (grind (arith, nat_tests))
      seen (inr p) = joined_some c.value (needs_at g k) p.1

      inside : k < length g.names → list_all (λ j. not (c.value j == 0)) (needs_at g k) ≡ true
      inside lt = seen (value_cases c r k lt)

      outside : length g.names ≤ k → list_all (λ j. not (c.value j == 0)) (needs_at g k) ≡ true
      outside ge = rw (no_needs k ge) refl

  -- the configuration in which exactly these symbols are y
  abbrev pub in_set : (ℕ → Bool) → (List ℕ → Bool) → Configuration
  in_set s undeclared = record { value = λ k. cond (s k) 2 0; mode = λ i. 0; outer = λ k. false; undeclared = undeclared }

  pub set_keeps_rules : (s : ℕ → Bool) (undeclared : List ℕ → Bool) → IsClosed g s → KeepsRules t (in_set s undeclared)
  set_keeps_rules s undeclared closed = record {
    values = λ k lt. small (s k);
    setting = λ k. cond (s k) (Some 2) None;
    calculated = record { gives = λ k lt own. at k (rw (sym shows.count) lt) (s k) refl };
    choices = λ i lt. absurd (no_place i (subst (λ cs. i < length cs) shows.no_choice lt));
  }
    where
      small : (b : Bool) → cond b 2 0 ≤ 2
      small true = omega arith
      small false = omega arith

      no_place : (i : ℕ) → i < 0 → ⊥
      no_place i h = omega arith

      value_at : (k : ℕ) (b : Bool) → s k ≡ b
          → calculate counts.Bool (has_modules t (in_set s undeclared)) (joined_value (λ j. cond (s j) 2 0) (needs_at g k)) 0 0 (cond b (Some 2) None) ≡ cond b 2 0
      value_at k true e = rw (joined_of_y s (needs_at g k) (closed k e)) refl
      value_at k false e = refl

      fits : (b : Bool) → Fits counts.Bool (cond b (Some 2) None)
      fits true = inr refl
      fits false = tt

      at : (k : ℕ) → k < length g.names → (b : Bool) → s k ≡ b → HasValueBy t (in_set s undeclared) (cond (s k) (Some 2) None) k
      at k lt b e = (
        subst (λ kind. Fits kind (cond (s k) (Some 2) None)) (sym (shows.bool k lt)) (fits (s k)),
        calculated_at (in_set s undeclared) k (cond (s k) (Some 2) None) lt ∙ value_at k (s k) refl,
      )
