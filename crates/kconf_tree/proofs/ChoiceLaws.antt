-- The choices get their types and members.
use Rattle.std.proofs.Common.{◌≡◌, ◌≢◌, ℕ, zero, suc, ◌+◌, ◌<◌, Bool, true, false, not, ◌&&◌, ◌||◌, cond, eqb, Option, None, Some, List, [], ◌∷◌, ◌++◌, length, map, filter, get_or, set, drop, refl, ap, sym, subst, ◌∙◌, arith, get_or-set_same, get_or-set_other}
use Rattle.std.proofs.lemmas.Bool.{false≢true, eqb-true, eqb-false}
use Rattle.std.proofs.lemmas.List.{length-set, drop_more, append-nil, append_assoc, ext_get_or, length-map}
use Rattle.std.specs.List.{list_any, position_or_len}
use Rattle.ut_text.specs.Text.{text_eq, text_eq-exact}
use Rattle.kconf_entries.specs.declared.entries.Kind.{Kind}
use Rattle.kconf_entries.specs.declared.entries.Kind.TheVariants as kind
use Rattle.kconf_entries.specs.declared.entries.ConfigEntry.{ConfigEntry}
use Rattle.kconf_entries.specs.declared.entries.ChoiceEntry.{ChoiceEntry}
use Rattle.kconf_tree.specs.declared.shape.Symbol.{Symbol}
use Rattle.kconf_tree.specs.declared.shape.Choice.{Choice}
use Rattle.kconf_tree.specs.declared.types.Declared.{Declared}
use Rattle.kconf_tree.specs.Shape.{no_choice, is_the}
use Rattle.kconf_tree.specs.Value.{is_text_or_number}
use Rattle.kconf_tree.specs.Gathered.{entries_named, first_kind, is_untyped, is_trit_type, is_member_of, places_from, types_choice, first_typed, choice_kind, choice_of, choices_from, symbols_of}
use Rattle.kconf_tree.specs.Types.{declared_by, names_of, types_of}
use Rattle.kconf_tree.specs.Choosing.{is_type_line, has_type_line, typed_at, typed_by, typed_by_all, else_bool, bare_choice, bare_choices, with_one, with_member, with_members}
use Rattle.kconf_tree.proofs.Places.{position_found}
use Rattle.kconf_tree.proofs.SymbolLaws.{number_named, named_among}
use Rattle.kconf_tree.proofs.TypeLaws.{untyped_kind}

-- ---- lengths

length-typed_at : (b : Bool) (k : Kind) (ks : List Kind) (o : Option ℕ) → length (typed_at b k ks o) ≡ length ks
length-typed_at b k ks None = refl
length-typed_at b k ks (Some i) = by (is_untyped (get_or ks i kind.Untyped) && b)
  where
    by : (c : Bool) → length (cond c (set ks i k) ks) ≡ length ks
    by true = length-set ks i k
    by false = refl

pub length-typed_by : (ts : List (List ℕ × Declared)) (ks : List Kind) (e : ConfigEntry) → length (typed_by ts ks e) ≡ length ks
length-typed_by ts ks e = length-typed_at (has_type_line ts e) e.kind ks e.choice

pub length-typed_by_all : (ts : List (List ℕ × Declared)) (ks : List Kind) (es : List ConfigEntry) → length (typed_by_all ts ks es) ≡ length ks
length-typed_by_all ts ks [] = refl
length-typed_by_all ts ks (e ∷ es) = length-typed_by_all ts (typed_by ts ks e) es ∙ length-typed_by ts ks e

length-with_member : (cs : List Choice) (k : ℕ) (o : Option ℕ) → length (with_member cs k o) ≡ length cs
length-with_member cs k None = refl
length-with_member cs k (Some i) = length-set cs i (with_one (get_or cs i no_choice) k)

pub length-with_members : (cs : List Choice) (n : ℕ) (ss : List Symbol) → length (with_members cs n ss) ≡ length cs
length-with_members cs n [] = refl
length-with_members cs n (s ∷ ss) = length-with_members (with_member cs n s.member_of) (suc n) ss ∙ length-with_member cs n s.member_of

length-bare : (ks : List Kind) (es : List ChoiceEntry) → length ks ≡ length es → length (bare_choices ks es) ≡ length es
length-bare [] es h = h
length-bare (k ∷ ks) [] h = refl
length-bare (k ∷ ks) (e ∷ es) h = ap suc (length-bare ks es (omega arith))

pub length-choices : (es : List ConfigEntry) (i : ℕ) (cs : List ChoiceEntry) → length (choices_from es i cs) ≡ length cs
length-choices es i [] = refl
length-choices es i (c ∷ cs) = ap suc (length-choices es (suc i) cs)

pub next_left : {A : Type 0} (xs : List A) (i : ℕ) (x : A) → i < length xs → x ≡ get_or xs i x → drop i xs ≡ x ∷ drop (i + 1) xs
next_left xs i x h e = drop_more xs i x h ∙ ap (λ y. y ∷ drop (i + 1) xs) (sym e)

-- ---- types

-- the type k0, or where that is none, another
abbrev first_by : Kind → Kind → Kind
first_by k0 rest = cond (is_untyped k0) rest k0

one_line : (i : ℕ) (k : Kind) (b : Bool) (ks : List Kind) (rest : Kind) (o : Option ℕ) → i < length ks → (b ≡ true → is_untyped k ≡ false)
    → first_by (get_or (typed_at b k ks o) i kind.Untyped) rest ≡ first_by (get_or ks i kind.Untyped) (cond (is_the o i && b) k rest)
one_line i k b ks rest None l h = refl
one_line i k b ks rest (Some j) l h = by (eqb j i) refl
  where
    here : (u c : Bool) → is_untyped (get_or ks i kind.Untyped) ≡ u → (c ≡ true → is_untyped k ≡ false) → first_by (get_or (cond (u && c) (set ks i k) ks) i kind.Untyped) rest ≡ cond u (cond c k rest) (get_or ks i kind.Untyped)
    here true true e g = ap (λ x. first_by x rest) (get_or-set_same ks i k kind.Untyped l) ∙ ap (λ u. cond u rest k) (g refl)
    here true false e g = ap (λ u. cond u rest (get_or ks i kind.Untyped)) e
    here false c e g = ap (λ u. cond u rest (get_or ks i kind.Untyped)) e

    there : j ≢ i → (c : Bool) → get_or (cond c (set ks j k) ks) i kind.Untyped ≡ get_or ks i kind.Untyped
    there n true = get_or-set_other ks j i k kind.Untyped (λ e. n (sym e))
    there n false = refl

    by : (c : Bool) → eqb j i ≡ c → first_by (get_or (typed_at b k ks (Some j)) i kind.Untyped) rest ≡ first_by (get_or ks i kind.Untyped) (cond (c && b) k rest)
    by true e = ap (λ m. first_by (get_or (typed_at b k ks (Some m)) i kind.Untyped) rest) (eqb-true j i e) ∙ here (is_untyped (get_or ks i kind.Untyped)) b refl h
    by false e = ap (λ x. first_by x rest) (there (eqb-false j i e) (is_untyped (get_or ks j kind.Untyped) && b))

module _ (all : List ConfigEntry) where
  abbrev declared_named : List ℕ → List ℕ × Declared
  declared_named n = (n, declared_by (entries_named all n))

  -- what is declared of a name stands at its place
  declared_found : (name : List ℕ) (ns : List (List ℕ)) (d : List ℕ × Declared) → list_any (text_eq name) ns ≡ true → get_or (map declared_named ns) (position_or_len (text_eq name) ns) d ≡ declared_named name
  declared_found name [] d h = absurd (false≢true h)
  declared_found name (n ∷ ns) d h = by (text_eq name n) refl h (declared_found name ns d)
    where
      by : (b : Bool) → text_eq name n ≡ b → (b || list_any (text_eq name) ns) ≡ true → (list_any (text_eq name) ns ≡ true → get_or (map declared_named ns) (position_or_len (text_eq name) ns) d ≡ declared_named name)
          → get_or (map declared_named (n ∷ ns)) (cond (not b) (1 + position_or_len (text_eq name) ns) 0) d ≡ declared_named name
      by true e g r = ap declared_named (sym (text_eq-exact name n e))
      by false e g r = let one : 1 + position_or_len (text_eq name) ns ≡ suc (position_or_len (text_eq name) ns) = omega arith in ap (λ j. get_or (map declared_named (n ∷ ns)) j d) one ∙ r g

  -- whether the entry has a type line that counts
  abbrev line_of : ConfigEntry → Bool
  line_of e = is_trit_type e.kind && not (is_text_or_number (first_kind (entries_named all e.name)))

  line_is : (e : ConfigEntry) → list_any (text_eq e.name) (names_of all) ≡ true → has_type_line (types_of all) e ≡ line_of e
  line_is e h = ap (is_type_line (types_of all) e.kind) (number_named all e.name ∙ position_found (text_eq e.name) (names_of all) h)
      ∙ ap (λ (p : List ℕ × Declared). is_trit_type e.kind && not (is_text_or_number p.1.kind)) (declared_found e.name (names_of all) _ h)

  line_typed : (e : ConfigEntry) → line_of e ≡ true → is_untyped e.kind ≡ false
  line_typed e = by e.kind (not (is_text_or_number (first_kind (entries_named all e.name))))
    where
      by : (k : Kind) (c : Bool) → (is_trit_type k && c) ≡ true → is_untyped k ≡ false
      by kind.Bool c h = refl
      by kind.Tristate c h = refl
      by kind.Str c h = refl
      by kind.Hex c h = refl
      by kind.Int c h = refl
      by kind.Untyped c h = absurd (false≢true h)

  -- the first of some entries
  abbrev first_untyped : List ConfigEntry → Kind
  first_untyped [] = kind.Untyped
  first_untyped (e ∷ es) = e.kind

  -- the names of these are declared
  abbrev AreDeclared : List ConfigEntry → Type 0
  AreDeclared [] = Unit {0}
  AreDeclared (e ∷ es) = (list_any (text_eq e.name) (names_of all) ≡ true) × AreDeclared es

  kind_at : (i : ℕ) (es : List ConfigEntry) (ks : List Kind) → i < length ks → AreDeclared es
      → get_or (typed_by_all (types_of all) ks es) i kind.Untyped ≡ first_by (get_or ks i kind.Untyped) (first_untyped (filter (types_choice all i) es))
  kind_at i [] ks l d = sym (untyped_kind (get_or ks i kind.Untyped))
  kind_at i (e ∷ es) ks l d = kind_at i es (typed_by (types_of all) ks e) (subst (λ n. i < n) (sym (length-typed_by (types_of all) ks e)) l) d.1
      ∙ (ap (λ b. first_by (get_or (typed_at b e.kind ks e.choice) i kind.Untyped) (first_untyped (filter (types_choice all i) es))) (line_is e d.0)
      ∙ (one_line i e.kind (line_of e) ks (first_untyped (filter (types_choice all i) es)) e.choice l (line_typed e)
      ∙ ap (first_by (get_or ks i kind.Untyped)) (by (types_choice all i e))))
    where
      by : (b : Bool) → cond b e.kind (first_untyped (filter (types_choice all i) es)) ≡ first_untyped (cond b (e ∷ filter (types_choice all i) es) (filter (types_choice all i) es))
      by true = refl
      by false = refl

  first_is : (i : ℕ) (es : List ConfigEntry) → else_bool (first_untyped (filter (types_choice all i) es)) ≡ first_typed (filter (types_choice all i) es)
  first_is i [] = refl
  first_is i (e ∷ es) = by (types_choice all i e) refl (first_is i es)
    where
      of_line : (a b : Bool) → (a && b) ≡ true → b ≡ true
      of_line true b h = h
      of_line false b h = absurd (false≢true h)

      by : (b : Bool) → types_choice all i e ≡ b → else_bool (first_untyped (filter (types_choice all i) es)) ≡ first_typed (filter (types_choice all i) es)
          → else_bool (first_untyped (cond b (e ∷ filter (types_choice all i) es) (filter (types_choice all i) es))) ≡ first_typed (cond b (e ∷ filter (types_choice all i) es) (filter (types_choice all i) es))
      by true h r = ap (λ u. cond u kind.Bool e.kind) (line_typed e (of_line (is_the e.choice i) (line_of e) h))
      by false h r = r

  kind_is : (i : ℕ) (k : Kind) → else_bool (first_by k (first_untyped (filter (types_choice all i) all))) ≡ choice_kind all i k
  kind_is i k = by (is_untyped k) refl
    where
      by : (u : Bool) → is_untyped k ≡ u → else_bool (cond u (first_untyped (filter (types_choice all i) all)) k) ≡ cond u (first_typed (filter (types_choice all i) all)) k
      by true h = first_is i all
      by false h = ap (λ u. cond u kind.Bool k) h

all_declared : (before es : List ConfigEntry) → AreDeclared (before ++ es) es
all_declared before [] = tt
all_declared before (e ∷ es) = (named_among before e es, subst (λ (xs : List ConfigEntry). AreDeclared xs es) (append_assoc before (e ∷ []) es) (all_declared (before ++ e ∷ []) es))

-- ---- members

member_at : (i n : ℕ) (cs : List Choice) (o : Option ℕ) → i < length cs → get_or (with_member cs n o) i no_choice ≡ record (get_or cs i no_choice) { members = (get_or cs i no_choice).members ++ cond (is_the o i) (n ∷ []) [] }
member_at i n cs None l = let e = sym (append-nil (get_or cs i no_choice).members) in λ j. record (get_or cs i no_choice) { members = e j }
member_at i n cs (Some m) l = by (eqb m i) refl
  where
    by : (b : Bool) → eqb m i ≡ b → get_or (with_member cs n (Some m)) i no_choice ≡ record (get_or cs i no_choice) { members = (get_or cs i no_choice).members ++ cond b (n ∷ []) [] }
    by true e = ap (λ k. get_or (with_member cs n (Some k)) i no_choice) (eqb-true m i e) ∙ get_or-set_same cs i (with_one (get_or cs i no_choice) n) no_choice l
    by false e = get_or-set_other cs m i (with_one (get_or cs m no_choice) n) no_choice (λ q. eqb-false m i e (sym q)) ∙ (let f = sym (append-nil (get_or cs i no_choice).members) in λ j. record (get_or cs i no_choice) { members = f j })

members_at : (i n : ℕ) (cs : List Choice) (ss : List Symbol) → i < length cs → get_or (with_members cs n ss) i no_choice ≡ record (get_or cs i no_choice) { members = (get_or cs i no_choice).members ++ places_from n (is_member_of i) ss }
members_at i n cs [] l = let e = sym (append-nil (get_or cs i no_choice).members) in λ j. record (get_or cs i no_choice) { members = e j }
members_at i n cs (s ∷ ss) l = members_at i (suc n) (with_member cs n s.member_of) ss (subst (λ k. i < k) (sym (length-with_member cs n s.member_of)) l)
    ∙ (ap (λ (c : Choice). record c { members = c.members ++ places_from (suc n) (is_member_of i) ss }) (member_at i n cs s.member_of l) ∙ by (is_the s.member_of i))
  where
    old : List ℕ
    old = (get_or cs i no_choice).members

    rest : List ℕ
    rest = places_from (suc n) (is_member_of i) ss

    by : (b : Bool) → record (get_or cs i no_choice) { members = old ++ cond b (n ∷ []) [] ++ rest } ≡ record (get_or cs i no_choice) { members = old ++ cond b (n ∷ rest) rest }
    by true = let e = append_assoc old (n ∷ []) rest in λ j. record (get_or cs i no_choice) { members = e j }
    by false = let e = ap (λ xs. xs ++ rest) (append-nil old) in λ j. record (get_or cs i no_choice) { members = e j }

-- ---- all together

abbrev no_entry : ChoiceEntry
no_entry = record { kind = kind.Untyped; optional = false; prompts = []; defaults = [] }

bare_at : (ks : List Kind) (cs : List ChoiceEntry) (i : ℕ) → length ks ≡ length cs → i < length cs → get_or (bare_choices ks cs) i no_choice ≡ bare_choice (get_or ks i kind.Untyped) (get_or cs i no_entry)
bare_at [] cs i h l = absurd (omega arith)
bare_at (k ∷ ks) [] i h l = absurd (omega arith)
bare_at (k ∷ ks) (c ∷ cs) zero h l = refl
bare_at (k ∷ ks) (c ∷ cs) (suc i) h l = bare_at ks cs i (omega arith) (omega arith)

choices_at : (es : List ConfigEntry) (n : ℕ) (cs : List ChoiceEntry) (i : ℕ) → i < length cs → get_or (choices_from es n cs) i no_choice ≡ choice_of es (n + i) (get_or cs i no_entry)
choices_at es n [] i l = absurd (omega arith)
choices_at es n (c ∷ cs) zero l = let e : n ≡ n + 0 = omega arith in ap (λ m. choice_of es m c) e
choices_at es n (c ∷ cs) (suc i) l = let e : suc n + i ≡ n + suc i = omega arith in choices_at es (suc n) cs i (omega arith) ∙ ap (λ m. choice_of es m (get_or cs i no_entry)) e

own_at : (cs : List ChoiceEntry) (i : ℕ) → get_or (map (λ (c : ChoiceEntry). c.kind) cs) i kind.Untyped ≡ (get_or cs i no_entry).kind
own_at [] i = refl
own_at (c ∷ cs) zero = refl
own_at (c ∷ cs) (suc i) = own_at cs i

-- the types of the choices
abbrev pub kinds_of : List ConfigEntry → List ChoiceEntry → List Kind
kinds_of es cs = typed_by_all (types_of es) (map (λ (c : ChoiceEntry). c.kind) cs) es

pub length-kinds_of : (es : List ConfigEntry) (cs : List ChoiceEntry) → length (kinds_of es cs) ≡ length cs
length-kinds_of es cs = length-typed_by_all (types_of es) (map (λ (c : ChoiceEntry). c.kind) cs) es ∙ length-map cs (λ (c : ChoiceEntry). c.kind)

pub choices_are : (es : List ConfigEntry) (cs : List ChoiceEntry) → with_members (bare_choices (kinds_of es cs) cs) 0 (symbols_of es) ≡ choices_from es 0 cs
choices_are es cs = ext_get_or no_choice _ _ lengths each
  where
    count : length (bare_choices (kinds_of es cs) cs) ≡ length cs
    count = length-bare (kinds_of es cs) cs (length-kinds_of es cs)

    lengths : length (with_members (bare_choices (kinds_of es cs) cs) 0 (symbols_of es)) ≡ length (choices_from es 0 cs)
    lengths = length-with_members (bare_choices (kinds_of es cs) cs) 0 (symbols_of es) ∙ (count ∙ sym (length-choices es 0 cs))

    each : (i : ℕ) → i < length (with_members (bare_choices (kinds_of es cs) cs) 0 (symbols_of es)) → get_or (with_members (bare_choices (kinds_of es cs) cs) 0 (symbols_of es)) i no_choice ≡ get_or (choices_from es 0 cs) i no_choice
    each i l =
        let here : i < length cs = subst (λ n. i < n) (length-with_members (bare_choices (kinds_of es cs) cs) 0 (symbols_of es) ∙ count) l in
        let own : i < length (map (λ (c : ChoiceEntry). c.kind) cs) = subst (λ n. i < n) (sym (length-map cs (λ (c : ChoiceEntry). c.kind))) here in
        let k = ap else_bool (kind_at es i es (map (λ (c : ChoiceEntry). c.kind) cs) own (all_declared [] es)) ∙ (ap (λ (x : Kind). else_bool (first_by x (first_untyped es (filter (types_choice es i) es)))) (own_at cs i) ∙ kind_is es i (get_or cs i no_entry).kind) in
        let zeroed : 0 + i ≡ i = omega arith in
        members_at i 0 (bare_choices (kinds_of es cs) cs) (symbols_of es) (subst (λ n. i < n) (sym count) here)
        ∙ (ap (λ (c : Choice). record c { members = c.members ++ places_from 0 (is_member_of i) (symbols_of es) }) (bare_at (kinds_of es cs) cs i (length-kinds_of es cs) here)
        ∙ ((λ j. record { kind = k j; members = places_from 0 (is_member_of i) (symbols_of es); prompts = (get_or cs i no_entry).prompts; defaults = (get_or cs i no_entry).defaults; optional = (get_or cs i no_entry).optional })
        ∙ sym (choices_at es 0 cs i here ∙ ap (λ m. choice_of es m (get_or cs i no_entry)) zeroed)))
