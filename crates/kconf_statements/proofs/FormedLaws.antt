-- Each choice that a config names is there.
use Rattle.std.proofs.Common.{ℕ, suc, ◌≡◌, ◌∙◌, refl, ap, ◌<◌, ◌≤◌, ◌-◌, arith, Bool, true, false, ◌||◌, List, [], ◌∷◌, ◌++◌, length, drop, Option, Some, None}
use Rattle.std.proofs.lemmas.List.Elements.{All-nil, All-cons, All-append}
use Rattle.std.specs.Prelude.{IfSome, if◌then◌else◌, All}
use Rattle.kconf_entries.specs.declared.entries.ConfigEntry.{ConfigEntry}
use Rattle.kconf_statements.specs.EntryLines.{Entry, At, Before}
use Rattle.kconf_statements.specs.Enclosing.{Opener, is_choice, in_choice, following, enclosing}
use Rattle.kconf_statements.specs.Laws.{HaveChoices}
use Rattle.kconf_statements.specs.Entries.{TypeLine, types_of, with_choice, choice_count, number_of_choice, config_of, configs_of, choice_of, choices_of}

no_more : {X : Type 0} (xs : List X) → length (xs ++ []) ≡ length xs
no_more [] = refl
no_more (x ∷ xs) = ap suc (no_more xs)

one_more : {X : Type 0} (xs : List X) (y : X) → length (xs ++ y ∷ []) ≡ suc (length xs)
one_more [] y = refl
one_more (x ∷ xs) y = ap suc (one_more xs y)

-- ---- there are as many choices as are counted
counted : (types : List TypeLine) (before : Before) (e : Entry) → length (choices_of types before) ≡ choice_count before
    → length (choices_of types before ++ choice_of types before e) ≡ with_choice e (choice_count before)
counted types before Entry.MainMenu h = no_more _ ∙ h
counted types before Entry.Comment h = no_more _ ∙ h
counted types before (Entry.Menu m) h = no_more _ ∙ h
counted types before (Entry.Config c) h = no_more _ ∙ h
counted types before (Entry.Choice c) h = one_more _ _ ∙ ap suc h
counted types before (Entry.If x) h = no_more _ ∙ h
counted types before (Entry.End what) h = no_more _ ∙ h
counted types before (Entry.Source file) h = no_more _ ∙ h
counted types before Entry.Sourced h = no_more _ ∙ h

pub choices_counted : (types : List TypeLine) (before : Before) → length (choices_of types before) ≡ choice_count before
choices_counted types [] = refl
choices_counted types (At line e ∷ before) = counted types before e (choices_counted types before)

-- ---- a choice that encloses is one of them
dropped : (os : List Opener) → in_choice (drop 1 os) ≡ true → in_choice os ≡ true
dropped [] h = h
dropped (o ∷ os) h = by (is_choice o.opens) h
  where
    by : (b : Bool) → in_choice os ≡ true → (b || in_choice os) ≡ true
    by true h = refl
    by false h = h

some_choice : (line : ℕ) (e : Entry) (os : List Opener) (n : ℕ) → (in_choice os ≡ true → 0 < n) → in_choice (following line e os) ≡ true → 0 < with_choice e n
some_choice line Entry.MainMenu os n h g = h g
some_choice line Entry.Comment os n h g = h g
some_choice line (Entry.Menu m) os n h g = h g
some_choice line (Entry.Config c) os n h g = h g
some_choice line (Entry.Choice c) os n h g = omega arith
some_choice line (Entry.If x) os n h g = h g
some_choice line (Entry.End what) os n h g = h (dropped os g)
some_choice line (Entry.Source file) os n h g = h g
some_choice line Entry.Sourced os n h g = h (dropped os g)

pub enclosed : (before : Before) → in_choice (enclosing before) ≡ true → 0 < choice_count before
enclosed [] h = absurd (cc)
enclosed (At line e ∷ before) h = some_choice line e (enclosing before) (choice_count before) (enclosed before) h

pub number_below : (before : Before) → IfSome (number_of_choice before) (λ n. n < choice_count before)
number_below before = by (in_choice (enclosing before)) refl
  where
    by : (b : Bool) → in_choice (enclosing before) ≡ b → IfSome (if b then Some (choice_count before - 1) else None) (λ n. n < choice_count before)
    by true e = let z = enclosed before e in omega (arith, z)
    by false e = tt

-- ---- so each config names one of them
abbrev pub Below : ℕ → ConfigEntry → Type 0
Below k c = IfSome c.choice (λ n. n < k)

raised : (o : Option ℕ) (m k : ℕ) → m ≤ k → IfSome o (λ n. n < m) → IfSome o (λ n. n < k)
raised None m k le h = tt
raised (Some n) m k le h = omega (arith, le, h)

counts_on : (e : Entry) (n : ℕ) → n ≤ with_choice e n
counts_on Entry.MainMenu n = omega arith
counts_on Entry.Comment n = omega arith
counts_on (Entry.Menu m) n = omega arith
counts_on (Entry.Config c) n = omega arith
counts_on (Entry.Choice c) n = omega arith
counts_on (Entry.If x) n = omega arith
counts_on (Entry.End what) n = omega arith
counts_on (Entry.Source file) n = omega arith
counts_on Entry.Sourced n = omega arith

config_below : (before : Before) (e : Entry) (k : ℕ) → choice_count before ≤ k → All (Below k) (config_of before e)
config_below before Entry.MainMenu k le = All-nil (Below k)
config_below before Entry.Comment k le = All-nil (Below k)
config_below before (Entry.Menu m) k le = All-nil (Below k)
config_below before (Entry.Config c) k le = All-cons (Below k) _ [] (raised (number_of_choice before) (choice_count before) k le (number_below before)) (All-nil (Below k))
config_below before (Entry.Choice c) k le = All-nil (Below k)
config_below before (Entry.If x) k le = All-nil (Below k)
config_below before (Entry.End what) k le = All-nil (Below k)
config_below before (Entry.Source file) k le = All-nil (Below k)
config_below before Entry.Sourced k le = All-nil (Below k)

pub configs_below : (before : Before) (k : ℕ) → choice_count before ≤ k → All (Below k) (configs_of before)
configs_below [] k le = All-nil (Below k)
configs_below (At line e ∷ before) k le =
    let more = counts_on e (choice_count before) in
    let low : choice_count before ≤ k = omega (arith, more, le) in
    All-append (Below k) (configs_of before) (config_of before e) (configs_below before k low) (config_below before e k low)

pub choices_there : (before : Before) → HaveChoices before
choices_there before = configs_below before _ (rw (choices_counted (types_of before) before) (omega arith))
