-- Numbers in a gathered tree are below the counts.
use Rattle.std.proofs.Common.{ℕ, suc, ◌+◌, ◌<◌, ◌≤◌, Bool, true, false, cond, Option, None, Some, List, [], ◌∷◌, length, All, IfSome, arith}
use Rattle.std.specs.List.{AllByRecursion}
use Rattle.std.specs.Option.{option_or}
use Rattle.std.proofs.lemmas.List.Elements.{All-from_recursion, recursion_from_All, All-filter, All-map}
use Rattle.ut_text.specs.Text.{text_eq}
use Rattle.kconf_entries.specs.declared.entries.Kind.{Kind}
use Rattle.kconf_entries.specs.declared.entries.ConfigEntry.{ConfigEntry}
use Rattle.kconf_entries.specs.declared.entries.ChoiceEntry.{ChoiceEntry}
use Rattle.kconf_tree.specs.declared.shape.Symbol.{Symbol}
use Rattle.kconf_tree.specs.declared.shape.Choice.{Choice}
use Rattle.kconf_tree.specs.Value.{is_text_or_number}
use Rattle.kconf_tree.specs.Gathered.{entries_named, first_kind, first_choice, member_choice, symbol_of, symbols_of, is_member_of, places_from, choices_from}
use Rattle.kconf_tree.specs.Types.{names_of}

-- the number of a choice, if any, is below n
abbrev pub IsBelow : ℕ → Option ℕ → Type 0
IsBelow n o = IfSome o (λ i. i < n)

every : {A : Type 0} (P : A → Type 0) → ((x : A) → P x) → (xs : List A) → AllByRecursion P xs
every P h [] = tt
every P h (x ∷ xs) = (h x, every P h xs)

first_below : (n : ℕ) (es : List ConfigEntry) → AllByRecursion (λ (c : ConfigEntry). IsBelow n c.choice) es → IsBelow n (first_choice es)
first_below n [] h = tt
first_below n (e ∷ es) h = by e.choice h.0 (first_below n es h.1)
  where
    by : (o : Option ℕ) → IsBelow n o → IsBelow n (first_choice es) → IsBelow n (option_or o (first_choice es))
    by None a b = b
    by (Some i) a b = a

member_below : (n : ℕ) (k : Kind) (o : Option ℕ) → IsBelow n o → IsBelow n (member_choice k o)
member_below n k o h = by (is_text_or_number k)
  where
    by : (b : Bool) → IsBelow n (cond b None o)
    by true = tt
    by false = h

pub members_below : (n : ℕ) (es : List ConfigEntry) → All (λ (c : ConfigEntry). IsBelow n c.choice) es → All (λ (s : Symbol). IsBelow n s.member_of) (symbols_of es)
members_below n es h = All-map (λ (s : Symbol). IsBelow n s.member_of) (λ name. symbol_of (entries_named es name) name) (names_of es)
    (All-from_recursion (λ name. IsBelow n (symbol_of (entries_named es name) name).member_of) (names_of es) (every _ one (names_of es)))
  where
    one : (name : List ℕ) → IsBelow n (symbol_of (entries_named es name) name).member_of
    one name = member_below n (first_kind (entries_named es name)) (first_choice (entries_named es name))
        (first_below n (entries_named es name) (recursion_from_All (λ (c : ConfigEntry). IsBelow n c.choice) (entries_named es name) (All-filter (λ e. text_eq e.name name) (λ (c : ConfigEntry). IsBelow n c.choice) es h)))

places_below : {A : Type 0} (m n : ℕ) (p : A → Bool) (xs : List A) → n + length xs ≤ m → AllByRecursion (λ k. k < m) (places_from n p xs)
places_below m n p [] h = tt
places_below m n p (x ∷ xs) h = by (p x) (places_below m (suc n) p xs (omega arith))
  where
    by : (b : Bool) → AllByRecursion (λ k. k < m) (places_from (suc n) p xs) → AllByRecursion (λ k. k < m) (cond b (n ∷ places_from (suc n) p xs) (places_from (suc n) p xs))
    by true r = (omega arith, r)
    by false r = r

pub choices_below : (es : List ConfigEntry) (cs : List ChoiceEntry) → All (λ (c : Choice). All (λ k. k < length (symbols_of es)) c.members) (choices_from es 0 cs)
choices_below es cs = All-from_recursion (λ (c : Choice). All (λ k. k < length (symbols_of es)) c.members) (choices_from es 0 cs) (each 0 cs)
  where
    each : (i : ℕ) (xs : List ChoiceEntry) → AllByRecursion (λ (c : Choice). All (λ k. k < length (symbols_of es)) c.members) (choices_from es i xs)
    each i [] = tt
    each i (x ∷ xs) = (All-from_recursion (λ k. k < length (symbols_of es)) (places_from 0 (is_member_of i) (symbols_of es)) (places_below (length (symbols_of es)) 0 (is_member_of i) (symbols_of es) (omega arith)), each (suc i) xs)
