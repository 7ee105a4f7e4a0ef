-- A tree that is gathered from entries is well made, and the nodes of its order are its own.
use Rattle.std.proofs.Common.{◌≡◌, ℕ, zero, suc, ◌+◌, ◌<◌, ◌≤◌, ◌==◌, Bool, true, false, ◌&&◌, ◌||◌, cond, Option, None, Some, IfSome, List, [], ◌∷◌, length, map, get_or, All, refl, ap, sym, subst, ◌∙◌, arith, inl, inr}
use Rattle.std.proofs.lemmas.Bool.{false≢true, cases_lt}
use Rattle.std.proofs.lemmas.Bool.Decides.{nat_tests}
use Rattle.std.specs.List.{list_any, AllByRecursion}
use Rattle.std.proofs.lemmas.List.Elements.{All-get_or, All-from_recursion}
use Rattle.std.proofs.lemmas.List.Quantifiers.{position-Some}
use Rattle.kconf_entries.specs.declared.entries.Kind.{Kind}
use Rattle.kconf_entries.specs.declared.entries.Kind.TheVariants as kind
use Rattle.kconf_entries.specs.declared.entries.ConfigEntry.{ConfigEntry}
use Rattle.kconf_entries.specs.declared.entries.ChoiceEntry.{ChoiceEntry}
use Rattle.kconf_entries.specs.declared.entries.Entries.{Entries}
use Rattle.kconf_tree.specs.declared.shape.Symbol.{Symbol}
use Rattle.kconf_tree.specs.Shape.{Shape, symbol_at, choice_at, no_symbol, no_choice, is_the, counts_alone, counts_with, counts_as}
use Rattle.kconf_tree.specs.declared.shape.Counts.TheVariants as counts
use Rattle.kconf_tree.specs.Value.{is_text_or_number}
use Rattle.kconf_tree.specs.Gathered.{gathered, once, entries_named, first_choice, symbol_of, symbols_of, choices_from, places_from, is_member_of, is_bool_or_tristate, has_modules_line}
use Rattle.kconf_tree.specs.Apart.{AreApart}
use Rattle.kconf_tree.specs.Built.{HaveChoices}
use Rattle.kconf_tree.proofs.Bounds.{members_below}
use Rattle.kconf_tree.proofs.Small.{and_left, or_left, or_right, or_cases, number_is, number_self}
use Rattle.kconf_tree.specs.WellMade.{is_among, IsWellMade}

-- ---- the places at which a test passes

module _ (p : Symbol → Bool) where
  places_have : (n j : ℕ) (xs : List Symbol) → j < length xs → p (get_or xs j no_symbol) ≡ true → is_among (places_from n p xs) (n + j) ≡ true
  places_have n j [] l h = absurd (omega arith)
  places_have n zero (x ∷ xs) l h = by (p x) h
    where
      by : (b : Bool) → b ≡ true → is_among (cond b (n ∷ places_from (suc n) p xs) (places_from (suc n) p xs)) (n + 0) ≡ true
      by true e = or_left (n == n + 0) (is_among (places_from (suc n) p xs) (n + 0)) (grind (arith, nat_tests))
      by false e = absurd (false≢true e)
  places_have n (suc j) (x ∷ xs) l h = by (p x) (let e : suc n + j ≡ n + suc j = omega arith in subst (λ (k : ℕ). is_among (places_from (suc n) p xs) k ≡ true) e (places_have (suc n) j xs (omega arith) h))
    where
      by : (b : Bool) → is_among (places_from (suc n) p xs) (n + suc j) ≡ true → is_among (cond b (n ∷ places_from (suc n) p xs) (places_from (suc n) p xs)) (n + suc j) ≡ true
      by true g = or_right (n == n + suc j) (is_among (places_from (suc n) p xs) (n + suc j)) g
      by false g = g

  places_are : (n k : ℕ) (xs : List Symbol) → is_among (places_from n p xs) k ≡ true → (j : ℕ) × (n + j ≡ k) × (j < length xs) × (p (get_or xs j no_symbol) ≡ true)
  places_are n k [] h = absurd (cc)
  places_are n k (x ∷ xs) h = by (p x) refl h (places_are (suc n) k xs)
    where
      later : (j : ℕ) × (suc n + j ≡ k) × (j < length xs) × (p (get_or xs j no_symbol) ≡ true) → (j : ℕ) × (n + j ≡ k) × (j < length (x ∷ xs)) × (p (get_or (x ∷ xs) j no_symbol) ≡ true)
      later r = let l : r.0 < length xs = r.2 in let e : suc n + r.0 ≡ k = r.1 in (suc r.0, omega arith, omega arith, r.3)

      by : (b : Bool) → p x ≡ b → is_among (cond b (n ∷ places_from (suc n) p xs) (places_from (suc n) p xs)) k ≡ true
          → (is_among (places_from (suc n) p xs) k ≡ true → (j : ℕ) × (suc n + j ≡ k) × (j < length xs) × (p (get_or xs j no_symbol) ≡ true))
          → (j : ℕ) × (n + j ≡ k) × (j < length (x ∷ xs)) × (p (get_or (x ∷ xs) j no_symbol) ≡ true)
      by true e g rest = elim (or_cases (n == k) (is_among (places_from (suc n) p xs) k) g) [
        | inl here ↦ let same : n ≡ k = number_is n k here in (0, omega arith, omega arith, e)
        | inr there ↦ later (rest there)
      ]
      by false e g rest = later (rest g)

  places_above : (m n : ℕ) (xs : List Symbol) → m < n → list_any (λ k. m == k) (places_from n p xs) ≡ false
  places_above m n [] l = refl
  places_above m n (x ∷ xs) l = by (p x) (places_above m (suc n) xs (omega arith))
    where
      by : (b : Bool) → list_any (λ k. m == k) (places_from (suc n) p xs) ≡ false → list_any (λ k. m == k) (cond b (n ∷ places_from (suc n) p xs) (places_from (suc n) p xs)) ≡ false
      by true g = let off : (m == n) ≡ false = grind (arith, nat_tests) in ap (λ c. c || list_any (λ k. m == k) (places_from (suc n) p xs)) off ∙ g
      by false g = g

  places_apart : (n : ℕ) (xs : List Symbol) → AreApart (λ j k. j == k) (places_from n p xs)
  places_apart n [] = tt
  places_apart n (x ∷ xs) = by (p x) (places_apart (suc n) xs)
    where
      by : (b : Bool) → AreApart (λ j k. j == k) (places_from (suc n) p xs) → AreApart (λ j k. j == k) (cond b (n ∷ places_from (suc n) p xs) (places_from (suc n) p xs))
      by true g = (places_above n (suc n) xs (omega arith), g)
      by false g = g

-- ---- the members of a gathered choice

members_at : (es : List ConfigEntry) (n : ℕ) (cs : List ChoiceEntry) (i : ℕ) → i < length cs → (get_or (choices_from es n cs) i no_choice).members ≡ places_from 0 (is_member_of (n + i)) (symbols_of es)
members_at es n [] i l = absurd (omega arith)
members_at es n (c ∷ cs) zero l = let e : n ≡ n + 0 = omega arith in ap (λ (m : ℕ). places_from 0 (is_member_of m) (symbols_of es)) e
members_at es n (c ∷ cs) (suc i) l = let e : suc n + i ≡ n + suc i = omega arith in members_at es (suc n) cs i (omega arith) ∙ ap (λ (m : ℕ). places_from 0 (is_member_of m) (symbols_of es)) e

none_at : (es : List ConfigEntry) (n : ℕ) (cs : List ChoiceEntry) (i : ℕ) → length cs ≤ i → (get_or (choices_from es n cs) i no_choice).members ≡ []
none_at es n [] i l = refl
none_at es n (c ∷ cs) zero l = absurd (omega arith)
none_at es n (c ∷ cs) (suc i) l = none_at es (suc n) cs i (omega arith)

is_some_of : (o : Option ℕ) (i : ℕ) → is_the o i ≡ true → o ≡ Some i
is_some_of None i h = absurd (false≢true h)
is_some_of (Some k) i h = ap Some (number_is k i h)

-- past the last symbol
pub symbol_past : (ss : List Symbol) (k : ℕ) → length ss ≤ k → get_or ss k no_symbol ≡ no_symbol
symbol_past [] k l = refl
symbol_past (s ∷ ss) zero l = absurd (omega arith)
symbol_past (s ∷ ss) (suc k) l = symbol_past ss k (omega arith)

-- a member is a symbol
pub member_within : (t : Shape) → IsWellMade t → (i j : ℕ) → is_among (choice_at t i).members j ≡ true → j < length t.symbols
member_within t made i j h = elim (cases_lt j (length t.symbols)) [
  | inl lt ↦ lt
  | inr ge ↦ absurd (let none : None ≡ Some i = sym (ap (λ (s : Symbol). s.member_of) (symbol_past t.symbols j ge)) ∙ made.of_choice i j h in cc)
]

-- ---- symbols of texts or numbers

-- such a symbol is no member
abbrev IsLoneText : Symbol → Type 0
IsLoneText s = is_text_or_number s.kind ≡ true → s.member_of ≡ None

texts_alone : (es : List ConfigEntry) → All IsLoneText (symbols_of es)
texts_alone es = All-from_recursion IsLoneText (symbols_of es) (each (once (map (λ (x : ConfigEntry). x.name) es)))
  where
    each : (ns : List (List ℕ)) → AllByRecursion IsLoneText (map (λ name. symbol_of (entries_named es name) name) ns)
    each [] = tt
    each (n ∷ ns) = (λ h. ap (λ b. cond b None (first_choice (entries_named es n))) h, each ns)

-- it has no `modules`
no_text : (k : Kind) (s : Symbol) → is_text_or_number k ≡ true → is_bool_or_tristate (record s { kind = k }) ≡ false
no_text kind.Bool s h = absurd (false≢true h)
no_text kind.Tristate s h = absurd (false≢true h)
no_text kind.Str s h = refl
no_text kind.Hex s h = refl
no_text kind.Int s h = refl
no_text kind.Untyped s h = absurd (false≢true h)

-- it counts as neither by itself
neither : (k : Kind) → is_text_or_number k ≡ true → counts_alone k ≡ counts.Neither
neither kind.Bool h = absurd (false≢true h)
neither kind.Tristate h = absurd (false≢true h)
neither kind.Str h = refl
neither kind.Hex h = refl
neither kind.Int h = refl
neither kind.Untyped h = absurd (false≢true h)

module _ (e : Entries) where
  abbrev t : Shape
  t = gathered e

  members_here : (i : ℕ) → i < length e.choices → (choice_at t i).members ≡ places_from 0 (is_member_of i) (symbols_of e.configs)
  members_here i l = let plain : 0 + i ≡ i = omega arith in members_at e.configs 0 e.choices i l ∙ ap (λ (m : ℕ). places_from 0 (is_member_of m) (symbols_of e.configs)) plain

  apart_here : (i : ℕ) → AreApart (λ j k. j == k) (choice_at t i).members
  apart_here i = elim (cases_lt i (length e.choices)) [
    | inl lt ↦ subst (λ (ms : List ℕ). AreApart (λ j k. j == k) ms) (sym (members_here i lt)) (places_apart (is_member_of i) 0 (symbols_of e.configs))
    | inr ge ↦ subst (λ (ms : List ℕ). AreApart (λ j k. j == k) ms) (sym (none_at e.configs 0 e.choices i ge)) tt
  ]

  of_choice_here : (i j : ℕ) → is_among (choice_at t i).members j ≡ true → (symbol_at t j).member_of ≡ Some i
  of_choice_here i j h = elim (cases_lt i (length e.choices)) [
    | inl lt ↦ let r = places_are (is_member_of i) 0 j (symbols_of e.configs) (subst (λ (ms : List ℕ). is_among ms j ≡ true) (members_here i lt) h) in
        let same : r.0 ≡ j = let x : 0 + r.0 ≡ j = r.1 in omega arith in
        subst (λ (k : ℕ). (symbol_at t k).member_of ≡ Some i) same (is_some_of (get_or (symbols_of e.configs) r.0 no_symbol).member_of i r.3)
    | inr ge ↦ absurd (false≢true (subst (λ (ms : List ℕ). is_among ms j ≡ true) (none_at e.configs 0 e.choices i ge) h))
  ]

  listed_here : HaveChoices e → (i j : ℕ) → (symbol_at t j).member_of ≡ Some i → is_among (choice_at t i).members j ≡ true
  listed_here have i j h = elim (cases_lt j (length (symbols_of e.configs))) [
    | inl lt ↦ let below : IfSome (symbol_at t j).member_of (λ k. k < length e.choices) = All-get_or (λ (s : Symbol). IfSome s.member_of (λ k. k < length e.choices)) (symbols_of e.configs) j no_symbol lt (members_below (length e.choices) e.configs have.named) in
        let there : i < length e.choices = subst (λ (o : Option ℕ). IfSome o (λ k. k < length e.choices)) h below in
        let plain : 0 + j ≡ j = omega arith in
        subst (λ (ms : List ℕ). is_among ms j ≡ true) (sym (members_here i there))
        (subst (λ (k : ℕ). is_among (places_from 0 (is_member_of i) (symbols_of e.configs)) k ≡ true) plain (places_have (is_member_of i) 0 j (symbols_of e.configs) lt (ap (λ (o : Option ℕ). is_the o i) h ∙ number_self i)))
    | inr ge ↦ absurd (let none : None ≡ Some i = sym (ap (λ (s : Symbol). s.member_of) (symbol_past (symbols_of e.configs) j ge)) ∙ h in cc)
  ]

  -- the symbol that `modules` names
  abbrev is_modules : Symbol → Bool
  is_modules s = is_bool_or_tristate s && has_modules_line e.configs s

  modules_here : (k : ℕ) → t.modules ≡ Some k → k < length t.symbols
  modules_here k h = (position-Some is_modules (symbols_of e.configs) k no_symbol h).0

  texts_here : (k : ℕ) → is_text_or_number (symbol_at t k).kind ≡ true → counts_as t k ≡ counts.Neither
  texts_here k h = elim (cases_lt k (length (symbols_of e.configs))) [
    | inl lt ↦ by (is_the t.modules k) refl (All-get_or IsLoneText (symbols_of e.configs) k no_symbol lt (texts_alone e.configs) h)
    | inr ge ↦ absurd (false≢true (sym (ap (λ (s : Symbol). is_text_or_number s.kind) (symbol_past (symbols_of e.configs) k ge)) ∙ h))
  ]
    where
      by : (b : Bool) → is_the t.modules k ≡ b → (symbol_at t k).member_of ≡ None → counts_as t k ≡ counts.Neither
      by true g m = absurd (false≢true (sym (no_text (symbol_at t k).kind (symbol_at t k) h)
          ∙ and_left (is_bool_or_tristate (symbol_at t k)) (has_modules_line e.configs (symbol_at t k)) (position-Some is_modules (symbols_of e.configs) k no_symbol (is_some_of t.modules k g)).1))
      by false g m = ap (λ b. cond b counts.Bool (counts_with t (symbol_at t k).kind (symbol_at t k).member_of)) g ∙ (ap (counts_with t (symbol_at t k).kind) m ∙ neither (symbol_at t k).kind h)

  pub made_here : HaveChoices e → IsWellMade t
  made_here have = record { apart = apart_here; of_choice = of_choice_here; listed = listed_here have; modules = modules_here; texts = texts_here }
