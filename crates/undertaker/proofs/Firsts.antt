-- The entries that are read of a text of the first form: each is a bool with one prompt whose dependencies are
-- earlier entries, and each name is new.
use Rattle.std.proofs.Common.{◌≡◌, ℕ, ◌+◌, ◌-◌, Bool, true, false, not, ◌&&◌, ◌||◌, cond, refl, ap, sym, subst, ◌∙◌, List, [], ◌∷◌, ◌++◌, Option, None, Some, Result, Ok, Err}
use Rattle.std.proofs.lemmas.List.Folds.{list_any-append}
use Rattle.std.specs.List.{list_all}
use Rattle.ut_text.specs.Text.{text_eq}
use Rattle.kconf_entries.specs.declared.entries.ConfigEntry.{ConfigEntry}
use Rattle.kconf_entries.specs.declared.entries.Entries.{Entries}
use Rattle.undertaker.specs.declared.first_kconfig.form.Place.{Place}
use Rattle.undertaker.specs.declared.first_kconfig.form.Place.TheVariants.{Start, Heading, Entry}
use Rattle.undertaker.specs.declared.first_kconfig.lines.FirstLine.{FirstLine}
use Rattle.undertaker.specs.declared.first_kconfig.lines.FirstLine.TheVariants.{Config, Prompt, Depends, Other}
use Rattle.ut_text.specs.Lines.{lines_of}
use Rattle.ut_text.specs.Results.{◌>>=◌}
use Rattle.kconf_entries.specs.BoolEntries.{bool_entry}
use Rattle.undertaker.specs.FirstKconfig.Form.{Reading, start, is_declared, is_earlier, is_refused, heading, step, at_line, read_lines, first_line, first_tree_of}
use Rattle.undertaker.specs.FirstEntries.{AreFirst}
use Rattle.undertaker.proofs.Bools.{and_left, and_right, and_both, or_left_false}

-- where the reader stands, after the entries of these names
abbrev StandsAt : List (List ℕ) → List (List ℕ) → Place → Type 0
StandsAt before declared Start = declared ≡ before
StandsAt before declared (Heading name) = (declared ≡ before ++ name ∷ []) × (is_declared before name ≡ false)
StandsAt before declared (Entry name needs) = (declared ≡ before ++ name ∷ []) × (is_declared before name ≡ false) × (list_all (is_declared before) needs ≡ true)

ok_is : {A : Type 0} (x y : A) → ◌≡◌ {A = Result A ℕ} (Ok x) (Ok y) → x ≡ y
ok_is x y h = cc

no_err : {A : Type 0} (n : ℕ) (y : A) → ◌≡◌ {A = Result A ℕ} (Err n) (Ok y) → ⊥
no_err n y h = absurd (cc)

-- a reading that ends well has ended well after its first line
ok_then : (front : List ConfigEntry) (r : Result (List ConfigEntry) ℕ) (es : List ConfigEntry) → (r >>= λ rest. Ok (front ++ rest)) ≡ Ok es
    → (rest : List ConfigEntry) × (r ≡ Ok rest) × (es ≡ front ++ rest)
ok_then front (Ok rest) es h = (rest, refl, sym (ok_is (front ++ rest) es h))
ok_then front (Err n) es h = absurd (no_err n es h)

-- an earlier name that isn't the entry's own was declared before it
earlier_before : (before : List (List ℕ)) (own name : List ℕ) → is_earlier (before ++ own ∷ []) own name ≡ true → is_declared before name ≡ true
earlier_before before own name h = by (is_declared before name) (text_eq name own) (sym (ap (λ b. b && not (text_eq name own)) (list_any-append (text_eq name) before (own ∷ []))) ∙ h)
  where
    by : (a b : Bool) → ((a || (b || false)) && not b) ≡ true → a ≡ true
    by true b g = refl
    by false true g = g
    by false false g = g

all_earlier : (before : List (List ℕ)) (own : List ℕ) (names : List (List ℕ)) → list_all (is_earlier (before ++ own ∷ []) own) names ≡ true → list_all (is_declared before) names ≡ true
all_earlier before own [] h = refl
all_earlier before own (n ∷ ns) h = and_both _ _ (earlier_before before own n (and_left (is_earlier (before ++ own ∷ []) own n) _ h)) (all_earlier before own ns (and_right (is_earlier (before ++ own ∷ []) own n) _ h))

all_both : (p : List ℕ → Bool) (xs ys : List (List ℕ)) → list_all p xs ≡ true → list_all p ys ≡ true → list_all p (xs ++ ys) ≡ true
all_both p [] ys h g = g
all_both p (x ∷ xs) ys h g = and_both _ _ (and_left (p x) (list_all p xs) h) (all_both p xs ys (and_right (p x) (list_all p xs) h) g)

-- what is left of the lines gives the entries
abbrev Rest : ℕ → List (List ℕ) → Type 0
Rest n ls = (before declared : List (List ℕ)) (place : Place) (es : List ConfigEntry) → StandsAt before declared place
    → read_lines n (record { declared = declared; place = place }) ls ≡ Ok es → AreFirst before es

abbrev behind_step : ℕ → List (List ℕ) → Option (Reading × List ConfigEntry) → Result (List ConfigEntry) ℕ
behind_step n ls o = at_line n o >>= λ x. read_lines (n + 1) x.0 ls >>= λ es. Ok (x.1 ++ es)

-- a line that goes on with the same entry
goes_on : (n : ℕ) (ls : List (List ℕ)) → Rest (n + 1) ls → (before declared : List (List ℕ)) (place : Place) (es : List ConfigEntry) → StandsAt before declared place
    → behind_step n ls (Some (record { declared = declared; place = place }, [])) ≡ Ok es → AreFirst before es
goes_on n ls rest before declared place es s h = let r = ok_then [] (read_lines (n + 1) (record { declared = declared; place = place }) ls) es h in
    rest before declared place es s (r.1 ∙ ap Ok (sym r.2))

refused : (n : ℕ) (ls : List (List ℕ)) (es : List ConfigEntry) → behind_step n ls None ≡ Ok es → ⊥
refused n ls es h = no_err n es h

-- a `config` line after no entry
first_heading : (n : ℕ) (ls : List (List ℕ)) → Rest (n + 1) ls → (declared : List (List ℕ)) (name : List ℕ) (es : List ConfigEntry)
    → behind_step n ls (heading declared name (Some [])) ≡ Ok es → AreFirst declared es
first_heading n ls rest declared name es h = by (is_refused declared name) refl h
  where
    by : (b : Bool) → is_refused declared name ≡ b → behind_step n ls (cond b None (Some (record { declared = declared ++ name ∷ []; place = Heading name }, []))) ≡ Ok es → AreFirst declared es
    by true e g = absurd (refused n ls es g)
    by false e g = goes_on n ls rest declared (declared ++ name ∷ []) (Heading name) es (refl, or_left_false (is_declared declared name) _ e) g

-- a `config` line that ends an entry
next_heading : (n : ℕ) (ls : List (List ℕ)) → Rest (n + 1) ls → (before declared : List (List ℕ)) (own : List ℕ) (needs : List (List ℕ)) (name : List ℕ) (es : List ConfigEntry)
    → StandsAt before declared (Entry own needs) → behind_step n ls (heading declared name (Some (bool_entry own needs ∷ []))) ≡ Ok es → AreFirst before es
next_heading n ls rest before declared own needs name es s h = by (is_refused declared name) refl h
  where
    by : (b : Bool) → is_refused declared name ≡ b → behind_step n ls (cond b None (Some (record { declared = declared ++ name ∷ []; place = Heading name }, bool_entry own needs ∷ []))) ≡ Ok es → AreFirst before es
    by true e g = absurd (refused n ls es g)
    by false e g = let r = ok_then (bool_entry own needs ∷ []) (read_lines (n + 1) (record { declared = declared ++ name ∷ []; place = Heading name }) ls) es g in
        subst (AreFirst before) (sym r.2) (
          needs,
          refl,
          s.2,
          s.1,
          subst (λ names. AreFirst names r.0) s.0 (rest declared (declared ++ name ∷ []) (Heading name) r.0 (refl, or_left_false (is_declared declared name) _ e) r.1),
        )

one_line : (n : ℕ) (ls : List (List ℕ)) → Rest (n + 1) ls → (before declared : List (List ℕ)) (place : Place) (line : FirstLine) (es : List ConfigEntry) → StandsAt before declared place
    → behind_step n ls (step declared place line) ≡ Ok es → AreFirst before es
one_line n ls rest before declared Start (Config name) es s h = subst (λ names. AreFirst names es) s (first_heading n ls rest declared name es h)
one_line n ls rest before declared Start Prompt es s h = absurd (refused n ls es h)
one_line n ls rest before declared Start (Depends names) es s h = absurd (refused n ls es h)
one_line n ls rest before declared Start Other es s h = absurd (refused n ls es h)
one_line n ls rest before declared (Heading own) (Config name) es s h = absurd (refused n ls es h)
one_line n ls rest before declared (Heading own) Prompt es s h = goes_on n ls rest before declared (Entry own []) es (s.0, s.1, refl) h
one_line n ls rest before declared (Heading own) (Depends names) es s h = absurd (refused n ls es h)
one_line n ls rest before declared (Heading own) Other es s h = absurd (refused n ls es h)
one_line n ls rest before declared (Entry own needs) (Config name) es s h = next_heading n ls rest before declared own needs name es s h
one_line n ls rest before declared (Entry own needs) Prompt es s h = absurd (refused n ls es h)
one_line n ls rest before declared (Entry own needs) (Depends names) es s h = by (list_all (is_earlier declared own) names) refl h
  where
    by : (b : Bool) → list_all (is_earlier declared own) names ≡ b → behind_step n ls (cond b (Some (record { declared = declared; place = Entry own (needs ++ names) }, [])) None) ≡ Ok es → AreFirst before es
    by true e g = goes_on n ls rest before declared (Entry own (needs ++ names)) es (s.0, s.1, all_both (is_declared before) needs names s.2 (all_earlier before own names (subst (λ d. list_all (is_earlier d own) names ≡ true) s.0 e))) g
    by false e g = absurd (refused n ls es g)
one_line n ls rest before declared (Entry own needs) Other es s h = absurd (refused n ls es h)

no_lines : (n : ℕ) → Rest n []
no_lines n before declared Start es s h = subst (AreFirst before) (ok_is [] es h) tt
no_lines n before declared (Heading own) es s h = absurd (no_err (n - 1) es h)
no_lines n before declared (Entry own needs) es s h = subst (AreFirst before) (ok_is (bool_entry own needs ∷ []) es h) (needs, refl, s.2, s.1, tt)

lines_give : (ls : List (List ℕ)) (n : ℕ) → Rest n ls
lines_give [] n before declared place es s h = no_lines n before declared place es s h
lines_give (l ∷ ls) n before declared place es s h = one_line n ls (lines_give ls (n + 1)) before declared place (first_line l) es s h

-- a text of the form gives such entries and no choice
pub tree_is_first : (bytes : List ℕ) (e : Entries) → first_tree_of bytes ≡ Ok e → AreFirst [] e.configs × (e.choices ≡ [])
tree_is_first bytes e h = by (read_lines 1 start (lines_of bytes)) refl h
  where
    by : (r : Result (List ConfigEntry) ℕ) → read_lines 1 start (lines_of bytes) ≡ r → (r >>= λ es. Ok (record { configs = es; choices = [] })) ≡ Ok e → AreFirst [] e.configs × (e.choices ≡ [])
    by (Ok es) g i = let same = sym (tree_ok (record { configs = es; choices = [] }) i) in subst (λ (e : Entries). AreFirst [] e.configs × (e.choices ≡ [])) (sym same) (lines_give (lines_of bytes) 1 [] [] Start es refl g, refl)
      where
        tree_ok : (x : Entries) → ◌≡◌ {A = Result Entries ℕ} (Ok x) (Ok e) → x ≡ e
        tree_ok x j = cc
    by (Err n) g i = absurd (none i)
      where
        none : ◌≡◌ {A = Result Entries ℕ} (Err n) (Ok e) → ⊥
        none j = absurd (cc)
