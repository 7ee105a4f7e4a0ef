-- The symbols, as one more entry comes.
use Rattle.std.proofs.Common.{◌≡◌, ℕ, suc, ◌+◌, Bool, true, false, not, ◌||◌, cond, Option, None, Some, List, [], ◌∷◌, ◌++◌, length, map, position, get_or, set, refl, ap, sym, subst, ◌∙◌, arith}
use Rattle.std.proofs.lemmas.Bool.{false≢true}
use Rattle.std.proofs.lemmas.List.{append-nil}
use Rattle.std.proofs.lemmas.List.Concat.{flat_map-append}
use Rattle.std.proofs.lemmas.List.{map-append, length-map}
use Rattle.std.specs.List.{list_any, position_or_len, flat_map}
use Rattle.std.specs.Option.{option_or}
use Rattle.ut_text.specs.Text.{text_eq, text_equiv, text_eq-exact}
use Rattle.kconf_entries.specs.declared.entries.Kind.{Kind}
use Rattle.kconf_entries.specs.declared.entries.ConfigEntry.{ConfigEntry}
use Rattle.kconf_tree.specs.declared.shape.Symbol.{Symbol}
use Rattle.kconf_tree.specs.Shape.{number_of, no_symbol}
use Rattle.kconf_tree.specs.Gathered.{entries_named, first_kind, first_choice, member_choice}
use Rattle.kconf_tree.specs.Value.{is_text_or_number}
use Rattle.kconf_tree.specs.declared.types.Declared.{Declared}
use Rattle.kconf_tree.specs.Types.{declared_by, names_of, types_of, typed, typed_symbol}
use Rattle.kconf_tree.specs.Gathering.{with_entry, with_entry_at, symbol_by, symbols_after}
use Rattle.kconf_tree.specs.Apart.{AreApart}
use Rattle.kconf_tree.proofs.Places.{position-map, same_position, position_found, distinct_has}
use Rattle.kconf_tree.proofs.Groups.{names_apart, named_here, named_elsewhere}

no_member : (k : Kind) → member_choice k None ≡ None
no_member k = by (is_text_or_number k)
  where
    none : Option ℕ
    none = None

    by : (b : Bool) → cond b none none ≡ none
    by true = refl
    by false = refl

member_push : (k : Kind) (es : List ConfigEntry) (e : ConfigEntry) → option_or (member_choice k (first_choice es)) (member_choice k e.choice) ≡ member_choice k (first_choice (es ++ e ∷ []))
member_push k es e = by (is_text_or_number k) (first_choice es) ∙ ap (member_choice k) (sym (choice_push es))
  where
    by : (b : Bool) (o : Option ℕ) → option_or (cond b None o) (cond b None e.choice) ≡ cond b None (option_or o e.choice)
    by true o = refl
    by false o = refl

    last : (o : Option ℕ) → option_or o None ≡ o
    last None = refl
    last (Some i) = refl

    assoc : (a b c : Option ℕ) → option_or a (option_or b c) ≡ option_or (option_or a b) c
    assoc None b c = refl
    assoc (Some i) b c = refl

    choice_push : (xs : List ConfigEntry) → first_choice (xs ++ e ∷ []) ≡ option_or (first_choice xs) e.choice
    choice_push [] = last e.choice
    choice_push (x ∷ xs) = ap (option_or x.choice) (choice_push xs) ∙ assoc x.choice (first_choice xs) e.choice

flat_push : {A B : Type 0} (f : A → List B) (xs : List A) (x : A) → flat_map f xs ++ f x ≡ flat_map f (xs ++ x ∷ [])
flat_push f xs x = sym (flat_map-append f xs (x ∷ []) ∙ ap (λ ys. flat_map f xs ++ ys) (append-nil (f x)))

-- one symbol
symbol_push : (k : Kind) (es : List ConfigEntry) (e : ConfigEntry) (name : List ℕ) → with_entry (symbol_by k es name) e ≡ symbol_by k (es ++ e ∷ []) name
symbol_push k es e name =
    let m = member_push k es e in
    let p = sym (map-append (λ (x : ConfigEntry). x.depends) es (e ∷ [])) in
    let q = flat_push (λ (x : ConfigEntry). x.prompts) es e in
    let d = flat_push (λ (x : ConfigEntry). x.defaults) es e in
    let s = flat_push (λ (x : ConfigEntry). x.selects) es e in
    let w = flat_push (λ (x : ConfigEntry). x.implies) es e in
    λ i. record { name = name; kind = k; member_of = m i; places = p i; prompts = q i; defaults = d i; selects = s i; implies = w i }

module _ (all : List ConfigEntry) where
  abbrev after : List ConfigEntry → List ℕ → Symbol
  after es n = symbol_by (first_kind (entries_named all n)) (entries_named es n) n

  others_stay : (es : List ConfigEntry) (e : ConfigEntry) (ns : List (List ℕ)) → list_any (text_eq e.name) ns ≡ false → map (after es) ns ≡ map (after (es ++ e ∷ [])) ns
  others_stay es e [] h = refl
  others_stay es e (n ∷ ns) h = by (text_eq e.name n) refl h (others_stay es e ns)
    where
      by : (b : Bool) → text_eq e.name n ≡ b → (b || list_any (text_eq e.name) ns) ≡ false → (list_any (text_eq e.name) ns ≡ false → map (after es) ns ≡ map (after (es ++ e ∷ [])) ns) → map (after es) (n ∷ ns) ≡ map (after (es ++ e ∷ [])) (n ∷ ns)
      by true f g r = absurd (false≢true (sym g))
      by false f g r = let here = ap (λ xs. symbol_by (first_kind (entries_named all n)) xs n) (sym (named_elsewhere es e n f)) in let rest = r g in λ i. here i ∷ rest i

  -- the entry goes to the place of its name
  set_named : (es : List ConfigEntry) (e : ConfigEntry) (ns : List (List ℕ)) → AreApart text_eq ns → list_any (text_eq e.name) ns ≡ true
      → set (map (after es) ns) (position_or_len (text_eq e.name) ns) (with_entry (get_or (map (after es) ns) (position_or_len (text_eq e.name) ns) no_symbol) e) ≡ map (after (es ++ e ∷ [])) ns
  set_named es e [] a h = absurd (false≢true h)
  set_named es e (n ∷ ns) a h = by (text_eq e.name n) refl h (set_named es e ns a.1)
    where
      later : (k : ℕ) → set (map (after es) (n ∷ ns)) (1 + k) (with_entry (get_or (map (after es) (n ∷ ns)) (1 + k) no_symbol) e) ≡ after es n ∷ set (map (after es) ns) k (with_entry (get_or (map (after es) ns) k no_symbol) e)
      later k = let one : 1 + k ≡ suc k = omega arith in ap (λ j. set (map (after es) (n ∷ ns)) j (with_entry (get_or (map (after es) (n ∷ ns)) j no_symbol) e)) one

      by : (b : Bool) → text_eq e.name n ≡ b → (b || list_any (text_eq e.name) ns) ≡ true
          → (list_any (text_eq e.name) ns ≡ true → set (map (after es) ns) (position_or_len (text_eq e.name) ns) (with_entry (get_or (map (after es) ns) (position_or_len (text_eq e.name) ns) no_symbol) e) ≡ map (after (es ++ e ∷ [])) ns)
          → set (map (after es) (n ∷ ns)) (cond (not b) (1 + position_or_len (text_eq e.name) ns) 0) (with_entry (get_or (map (after es) (n ∷ ns)) (cond (not b) (1 + position_or_len (text_eq e.name) ns) 0) no_symbol) e) ≡ map (after (es ++ e ∷ [])) (n ∷ ns)
      by true f g r =
          let here = symbol_push (first_kind (entries_named all n)) (entries_named es n) e n ∙ ap (λ xs. symbol_by (first_kind (entries_named all n)) xs n) (sym (named_here es e n f)) in
          let rest = others_stay es e ns (subst (λ (x : List ℕ). list_any (text_eq x) ns ≡ false) (sym (text_eq-exact e.name n f)) a.0) in
          λ i. here i ∷ rest i
      by false f g r =
          let here = ap (λ xs. symbol_by (first_kind (entries_named all n)) xs n) (sym (named_elsewhere es e n f)) in
          let rest = r g in
          later (position_or_len (text_eq e.name) ns) ∙ (λ i. here i ∷ rest i)

  abbrev declared_named : List ℕ → List ℕ × Declared
  declared_named n = (n, declared_by (entries_named all n))

  -- the number of a name
  pub number_named : (name : List ℕ) → number_of (typed (types_of all)) name ≡ position (text_eq name) (names_of all)
  number_named name = position-map typed_symbol (λ s. text_eq s.name name) (types_of all)
      ∙ (position-map declared_named (λ p. text_eq p.0 name) (names_of all) ∙ same_position (λ n. text_eq n name) (text_eq name) (names_of all) (λ n. text_equiv.symm n name))

  -- one more entry of a declared name
  pub symbols_push : (es : List ConfigEntry) (e : ConfigEntry) → list_any (text_eq e.name) (names_of all) ≡ true
      → with_entry_at (symbols_after all es) (number_of (typed (types_of all)) e.name) e ≡ symbols_after all (es ++ e ∷ [])
  symbols_push es e h = ap (λ o. with_entry_at (symbols_after all es) o e) (number_named e.name ∙ position_found (text_eq e.name) (names_of all) h) ∙ set_named es e (names_of all) (names_apart all) h

  -- none yet
  pub symbols_none : (typed (types_of all)).symbols ≡ symbols_after all []
  symbols_none = each (names_of all)
    where
      each : (ns : List (List ℕ)) → map typed_symbol (map declared_named ns) ≡ map (after []) ns
      each [] = refl
      each (n ∷ ns) = let rest = each ns in let m = sym (no_member (first_kind (entries_named all n))) in λ i. record (after [] n) { member_of = m i } ∷ rest i

  -- as many as names
  pub length-after : (es : List ConfigEntry) → length (symbols_after all es) ≡ length (types_of all)
  length-after es = length-map (names_of all) (after es) ∙ sym (length-map (names_of all) declared_named)

-- an entry's name is declared
pub named_among : (before : List ConfigEntry) (e : ConfigEntry) (later : List ConfigEntry) → list_any (text_eq e.name) (names_of (before ++ e ∷ later)) ≡ true
named_among before e later = distinct_has text_eq text_equiv e.name (map (λ (x : ConfigEntry). x.name) (before ++ e ∷ later)) ∙ there before
  where
    here : (b c : Bool) → b ≡ true → (b || c) ≡ true
    here true c h = refl
    here false c h = absurd (false≢true h)

    after_one : (b c : Bool) → c ≡ true → (b || c) ≡ true
    after_one true c h = refl
    after_one false c h = h

    there : (xs : List ConfigEntry) → list_any (text_eq e.name) (map (λ (x : ConfigEntry). x.name) (xs ++ e ∷ later)) ≡ true
    there [] = here (text_eq e.name e.name) (list_any (text_eq e.name) (map (λ (x : ConfigEntry). x.name) later)) (text_equiv.refl e.name)
    there (x ∷ xs) = after_one (text_eq e.name x.name) (list_any (text_eq e.name) (map (λ (y : ConfigEntry). y.name) (xs ++ e ∷ later))) (there xs)
