-- The tree of entries of the first form shows their graph.
use Rattle.std.proofs.Common.{◌≡◌, ℕ, ◌<◌, ◌+◌, zero, suc, Bool, true, false, not, ◌||◌, cond, refl, ap, sym, subst, ◌∙◌, arith, rules, List, [], ◌∷◌, ◌++◌, length, map, filter, get_or, position, Some, max, inl, inr, nat_lt}
use Rattle.std.proofs.lemmas.Bool.Decides.{nat_tests}
use Rattle.std.proofs.lemmas.Cmp.{nat_list_eq_equiv}
use Rattle.std.proofs.lemmas.List.{length-map}
use Rattle.std.proofs.lemmas.List.Folds.{list_any-append}
use Rattle.std.specs.Option.{is_some}
use Rattle.std.proofs.lemmas.List.Quantifiers.{position-Some}
use Rattle.std.specs.List.{list_any, list_all, flat_map, prefix_len, position_or_len}
use Rattle.ut_text.specs.Text.{text_eq}
use Rattle.ut_logic.specs.declared.trit.Trit.TheVariants.{Y}
use Rattle.kconf_entries.specs.declared.expr.Expr.{Expr, out-Expr}
use Rattle.kconf_entries.specs.declared.expr.Expr.TheOpen.{Expr-F}
use Rattle.kconf_entries.specs.declared.expr.Expr.TheVariants.{Const, Name, And}
use Rattle.kconf_entries.specs.declared.expr.Expr.TheFolds.{fold_out-Expr, map-Expr}
use Rattle.kconf_entries.specs.declared.expr.Expr.TheViews.{the_lemmas}
use Rattle.kconf_entries.specs.declared.entries.ConfigEntry.{ConfigEntry}
use Rattle.kconf_entries.specs.declared.entries.Entries.{Entries}
use Rattle.kconf_entries.specs.BoolEntries.{bool_entry}
use Rattle.undertaker.specs.FirstKconfig.Form.{is_declared}
use Rattle.kconf_entries.specs.Joined.{all_of_names}
use Rattle.kconf_tree.specs.declared.shape.Symbol.{Symbol}
use Rattle.kconf_tree.specs.declared.shape.Counts.TheVariants as counts
use Rattle.kconf_tree.specs.Shape.{Shape, symbol_at, no_symbol, number_of, counts_as, counts_with, is_member, is_the, selects_from, implies_from}
use Rattle.kconf_tree.specs.Gathered.{once, entries_named, symbol_of, symbols_of, choices_from, gathered}
use Rattle.kconf_tree.specs.declared.place.Place.TheVariants.{Condition}
use Rattle.kconf_tree.specs.Value.{Configuration, value_of, value_step, least, greatest, stands_for, named, name_value, is_text_or_number}
use Rattle.kconf_tree.specs.Properties.{visibility_of, reverse_of, direct_of, weakened, default_of, selected_by, first_default}
use Rattle.undertaker.specs.Dependencies.{Graph, needs_at, names_in, name_at, numbers_of, declared_in, graph_of}
use Rattle.undertaker.specs.FirstEntries.{AreFirst}
use Rattle.undertaker.specs.Wishes.{Among}
use Rattle.undertaker.specs.FirstTrees.{Shows, joined_value}
use Rattle.undertaker.proofs.Bools.{and_left, and_right, and_both, or_left_false, or_right_false, any_among}

text_back : (x y : List ℕ) → text_eq x y ≡ text_eq y x
text_back x y = nat_list_eq_equiv.symm x y

-- ---- names of entries are apart

among_front : {A : Type 0} (x : A) (xs ys : List A) → Among x xs → Among x (xs ++ ys)
among_front x [] ys m = absurd m
among_front x (z ∷ xs) ys (inl e) = inl e
among_front x (z ∷ xs) ys (inr m) = inr (among_front x xs ys m)

among_last : {A : Type 0} (x : A) (xs : List A) → Among x (xs ++ x ∷ [])
among_last x [] = inl refl
among_last x (z ∷ xs) = inr (among_last x xs)

later_apart : (es : List ConfigEntry) (before : List (List ℕ)) → AreFirst before es → (n : List ℕ) → Among n before → list_any (text_eq n) (declared_in es) ≡ false
later_apart [] before f n m = refl
later_apart (e ∷ es) before f n m = rw (text_back n e.name, any_among (text_eq e.name) before n f.3 m) (later_apart es (before ++ e.name ∷ []) f.4 n (among_front n before (e.name ∷ []) m))

own_apart : (e : ConfigEntry) (es : List ConfigEntry) (before : List (List ℕ)) → AreFirst before (e ∷ es) → list_any (text_eq e.name) (declared_in es) ≡ false
own_apart e es before f = later_apart es (before ++ e.name ∷ []) f.4 e.name (among_last e.name before)

keep_all : (x : List ℕ) (ys : List (List ℕ)) → list_any (text_eq x) ys ≡ false → filter (λ y. not (text_eq x y)) ys ≡ ys
keep_all x [] h = refl
keep_all x (y ∷ ys) h = rw (or_left_false (text_eq x y) (list_any (text_eq x) ys) h) (ap (λ zs. y ∷ zs) (keep_all x ys (or_right_false (text_eq x y) (list_any (text_eq x) ys) h)))

once_all : (es : List ConfigEntry) (before : List (List ℕ)) → AreFirst before es → once (declared_in es) ≡ declared_in es
once_all [] before f = refl
once_all (e ∷ es) before f = rw (once_all es (before ++ e.name ∷ []) f.4) (ap (λ ns. e.name ∷ ns) (keep_all e.name (declared_in es) (own_apart e es before f)))

none_named : (es : List ConfigEntry) (n : List ℕ) → list_any (text_eq n) (declared_in es) ≡ false → entries_named es n ≡ []
none_named [] n h = refl
none_named (e ∷ es) n h = rw (text_back e.name n, or_left_false (text_eq n e.name) (list_any (text_eq n) (declared_in es)) h) (none_named es n (or_right_false (text_eq n e.name) (list_any (text_eq n) (declared_in es)) h))

among_names : (es : List ConfigEntry) (e : ConfigEntry) → Among e es → Among e.name (declared_in es)
among_names [] e m = absurd m
among_names (f ∷ es) e (inl h) = inl (ap (λ (x : ConfigEntry). x.name) h)
among_names (f ∷ es) e (inr m) = inr (among_names es e m)

one_named : (es : List ConfigEntry) (before : List (List ℕ)) → AreFirst before es → (e : ConfigEntry) → Among e es → entries_named es e.name ≡ e ∷ []
one_named [] before f e m = absurd m
one_named (g ∷ es) before f e (inl h) = subst (λ (x : ConfigEntry). entries_named (g ∷ es) x.name ≡ x ∷ []) (sym h)
    (rw (nat_list_eq_equiv.refl g.name) (ap (λ rest. g ∷ rest) (none_named es g.name (own_apart g es before f))))
one_named (g ∷ es) before f e (inr m) = rw (any_among (text_eq g.name) (declared_in es) e.name (own_apart g es before f) (among_names es e m)) (one_named es (before ++ g.name ∷ []) f.4 e m)

-- ---- the symbols

abbrev alone : ConfigEntry → Symbol
alone e = symbol_of (e ∷ []) e.name

each_alone : (all es : List ConfigEntry) → ((e : ConfigEntry) → Among e es → entries_named all e.name ≡ e ∷ []) → map (λ name. symbol_of (entries_named all name) name) (declared_in es) ≡ map alone es
each_alone all [] h = refl
each_alone all (e ∷ es) h = rw (h e (inl refl), each_alone all es (λ x m. h x (inr m))) refl

pub symbols_are : (es : List ConfigEntry) → AreFirst [] es → symbols_of es ≡ map alone es
symbols_are es f = rw (once_all es [] f) (each_alone es es (one_named es [] f))

nth : (es : List ConfigEntry) (k : ℕ) → k < length es → (e : ConfigEntry) × Among e es × (get_or (map alone es) k no_symbol ≡ alone e)
    × ((row : ConfigEntry → List ℕ) → get_or (map row es) k [] ≡ row e)
nth [] k lt = absurd (omega arith)
nth (e ∷ es) zero lt = (e, inl refl, refl, λ row. refl)
nth (e ∷ es) (suc k) lt = let r = nth es k (omega arith) in (r.0, inr r.1, r.2, r.3)

first_among : (es : List ConfigEntry) (before : List (List ℕ)) → AreFirst before es → (e : ConfigEntry) → Among e es
    → (needs : List (List ℕ)) × (e ≡ bool_entry e.name needs) × ((d : List (List ℕ)) → ((n : List ℕ) → list_any (text_eq n) before ≡ true → list_any (text_eq n) d ≡ true) → ((n : List ℕ) → list_any (text_eq n) (declared_in es) ≡ true → list_any (text_eq n) d ≡ true) → list_all (is_declared d) needs ≡ true)
first_among [] before f e m = absurd m
first_among (g ∷ es) before f e (inl h) = (f.0, subst (λ (x : ConfigEntry). x ≡ bool_entry x.name f.0) (sym h) f.1, λ d old new. wider d old f.0 f.2)
  where
    wider : (d : List (List ℕ)) → ((n : List ℕ) → list_any (text_eq n) before ≡ true → list_any (text_eq n) d ≡ true) → (ns : List (List ℕ)) → list_all (is_declared before) ns ≡ true → list_all (is_declared d) ns ≡ true
    wider d old [] i = refl
    wider d old (n ∷ ns) i = and_both _ _ (old n (and_left (is_declared before n) (list_all (is_declared before) ns) i)) (wider d old ns (and_right (is_declared before n) (list_all (is_declared before) ns) i))
first_among (g ∷ es) before f e (inr m) = let r = first_among es (before ++ g.name ∷ []) f.4 e m in
    (r.0, r.1, λ d old new. r.2 d (λ n i. in_front d old new n i) (λ n i. new n (rw i (on (text_eq n g.name)))))
  where
    on : (b : Bool) → (b || true) ≡ true
    on true = refl
    on false = refl

    in_front : (d : List (List ℕ)) → ((n : List ℕ) → list_any (text_eq n) before ≡ true → list_any (text_eq n) d ≡ true) → ((n : List ℕ) → list_any (text_eq n) (declared_in (g ∷ es)) ≡ true → list_any (text_eq n) d ≡ true)
        → (n : List ℕ) → list_any (text_eq n) (before ++ g.name ∷ []) ≡ true → list_any (text_eq n) d ≡ true
    in_front d old new n i = by (list_any (text_eq n) before) refl (sym (list_any-append (text_eq n) before (g.name ∷ [])) ∙ i)
      where
        by : (b : Bool) → list_any (text_eq n) before ≡ b → (b || (text_eq n g.name || false)) ≡ true → list_any (text_eq n) d ≡ true
        by true e j = old n e
        by false e j = new n (here (text_eq n g.name) j)
          where
            here : (b : Bool) → (b || false) ≡ true → (b || list_any (text_eq n) (declared_in es)) ≡ true
            here true k = refl
            here false k = absurd (cc)

-- ---- the names of a joined condition

out_name : (n : List ℕ) → out-Expr (Name n) ≡ Expr-F.Name n
out_name n = search (rules, the_lemmas)

out_and : (es : List Expr) → out-Expr (And es) ≡ Expr-F.And es
out_and es = search (rules, the_lemmas)

out_y : out-Expr (Const Y) ≡ Expr-F.Const Y
out_y = search (rules, the_lemmas)

names_of_names : (ns : List (List ℕ)) → flat_map (λ (f : Expr). name_at (out-Expr f)) (map (λ n. Name n) ns) ≡ ns
names_of_names [] = refl
names_of_names (n ∷ ns) = rw (out_name n, names_of_names ns) refl

names_joined : (ns : List (List ℕ)) → names_in (all_of_names ns) ≡ ns
names_joined [] = rw (out_y) (rw (out_y) refl)
names_joined (n ∷ []) = rw (out_name n) (rw (out_name n) refl)
names_joined (n ∷ m ∷ ns) = rw (out_and (Name n ∷ Name m ∷ map (λ n. Name n) ns)) (names_of_names (n ∷ m ∷ ns))

-- ---- the value of a joined condition

module _ (t : Shape) (c : Configuration) where
  value_out : (e : Expr) → value_of t c e ≡ value_step t c Condition (map-Expr Expr ℕ (value_of t c) (out-Expr e))
  value_out e = fold_out-Expr ℕ (value_step t c Condition) e

  value_name : (n : List ℕ) → value_of t c (Name n) ≡ name_value t c n
  value_name n = value_out (Name n) ∙ ap (λ (x : Expr-F Expr). value_step t c Condition (map-Expr Expr ℕ (value_of t c) x)) (out_name n)

  value_and : (es : List Expr) → value_of t c (And es) ≡ least (map (value_of t c) es)
  value_and es = value_out (And es) ∙ ap (λ (x : Expr-F Expr). value_step t c Condition (map-Expr Expr ℕ (value_of t c) x)) (out_and es)

  value_y : value_of t c (Const Y) ≡ 2
  value_y = value_out (Const Y) ∙ ap (λ (x : Expr-F Expr). value_step t c Condition (map-Expr Expr ℕ (value_of t c) x)) out_y

  -- the names have these numbers, whose values are those of the symbols
  module _ (declared : List (List ℕ)) (own : (n : List ℕ) (k : ℕ) → position (λ m. text_eq m n) declared ≡ Some k → name_value t c n ≡ c.value k) where
    numbered : (n : List ℕ) → list_any (text_eq n) declared ≡ true → (k : ℕ) × (position (λ m. text_eq m n) declared ≡ Some k)
    numbered n h = (position_or_len (λ m. text_eq m n) declared, rw (within declared h) refl)
      where
        within : (ds : List (List ℕ)) → list_any (text_eq n) ds ≡ true → nat_lt (position_or_len (λ m. text_eq m n) ds) (length ds) ≡ true
        within [] g = absurd (cc)
        within (d ∷ ds) g = by (text_eq d n) refl (subst (λ b. (b || list_any (text_eq n) ds) ≡ true) (text_back n d) g) (within ds)
          where
            more : (i j : ℕ) → nat_lt i j ≡ true → nat_lt (1 + i) (suc j) ≡ true
            more i j k = grind (arith, nat_tests)

            zero_less : (j : ℕ) → nat_lt 0 (suc j) ≡ true
            zero_less j = grind (arith, nat_tests)

            by : (b : Bool) → text_eq d n ≡ b → (b || list_any (text_eq n) ds) ≡ true → (list_any (text_eq n) ds ≡ true → nat_lt (position_or_len (λ m. text_eq m n) ds) (length ds) ≡ true)
                → nat_lt (cond (not (text_eq d n)) (1 + position_or_len (λ m. text_eq m n) ds) 0) (suc (length ds)) ≡ true
            by true e i rest = rw e (zero_less (length ds))
            by false e i rest = rw e (more (position_or_len (λ m. text_eq m n) ds) (length ds) (rest i))

    numbers_cons : (n : List ℕ) (ns : List (List ℕ)) (h : list_any (text_eq n) declared ≡ true) → numbers_of declared (n ∷ ns) ≡ (numbered n h).0 ∷ numbers_of declared ns
    numbers_cons n ns h = rw (numbered n h).1 refl

    values_are : (ns : List (List ℕ)) → list_all (is_declared declared) ns ≡ true → map (value_of t c) (map (λ n. Name n) ns) ≡ map c.value (numbers_of declared ns)
    values_are [] h = refl
    values_are (n ∷ ns) h = let first = and_left (is_declared declared n) (list_all (is_declared declared) ns) h in
        rw (numbers_cons n ns first, values_are ns (and_right (is_declared declared n) (list_all (is_declared declared) ns) h), value_name n, own n (numbered n first).0 (numbered n first).1) refl

    joined_is : (ns : List (List ℕ)) → list_all (is_declared declared) ns ≡ true → value_of t c (all_of_names ns) ≡ joined_value c.value (numbers_of declared ns)
    joined_is [] h = value_y
    joined_is (n ∷ []) h = let first = and_left (is_declared declared n) true h in rw (numbers_cons n [] first, value_name n, own n (numbered n first).0 (numbered n first).1) refl
    joined_is (n ∷ m ∷ ns) h = let first = and_left (is_declared declared n) (list_all (is_declared declared) (m ∷ ns)) h in
        let second = and_left (is_declared declared m) (list_all (is_declared declared) ns) (and_right (is_declared declared n) (list_all (is_declared declared) (m ∷ ns)) h) in
        value_and (Name n ∷ Name m ∷ map (λ n. Name n) ns) ∙ (ap least (values_are (n ∷ m ∷ ns) h) ∙ two_or_more (numbers_of declared (n ∷ m ∷ ns)) (numbered n first).0 (numbered m second).0 (numbers_of declared ns)
        (numbers_cons n (m ∷ ns) first ∙ ap (λ (ks : List ℕ). (numbered n first).0 ∷ ks) (numbers_cons m ns second)))
      where
        two_or_more : (all : List ℕ) (i j : ℕ) (ks : List ℕ) → all ≡ i ∷ j ∷ ks → least (map c.value all) ≡ joined_value c.value all
        two_or_more all i j ks e = rw e refl

-- ---- the tree

get_or-alone : (P : Symbol → Type 0) → P no_symbol → (es : List ConfigEntry) → ((e : ConfigEntry) → Among e es → P (alone e)) → (k : ℕ) → P (get_or (map alone es) k no_symbol)
get_or-alone P d [] h k = d
get_or-alone P d (e ∷ es) h zero = h e (inl refl)
get_or-alone P d (e ∷ es) h (suc k) = get_or-alone P d es (λ x m. h x (inr m)) k

prefix_len-map : {A B : Type 0} (f : A → B) (p : B → Bool) (xs : List A) → prefix_len p (map f xs) ≡ prefix_len (λ x. p (f x)) xs
prefix_len-map f p [] = refl
prefix_len-map f p (x ∷ xs) = ap (λ n. cond (p (f x)) (1 + n) 0) (prefix_len-map f p xs)

position-map : {A B : Type 0} (f : A → B) (p : B → Bool) (xs : List A) → position p (map f xs) ≡ position (λ x. p (f x)) xs
position-map f p xs = rw (prefix_len-map f (λ x. not (p x)) xs, length-map xs f) refl

no_selects : (name : List ℕ) (es : List ConfigEntry) → ((e : ConfigEntry) → Among e es → (alone e).selects ≡ []) → (j : ℕ) → selects_from name j (map alone es) ≡ []
no_selects name [] h j = refl
no_selects name (e ∷ es) h j = rw (h e (inl refl)) (no_selects name es (λ x m. h x (inr m)) (suc j))

no_implies : (name : List ℕ) (es : List ConfigEntry) → ((e : ConfigEntry) → Among e es → (alone e).implies ≡ []) → (j : ℕ) → implies_from name j (map alone es) ≡ []
no_implies name [] h j = refl
no_implies name (e ∷ es) h j = rw (h e (inl refl)) (no_implies name es (λ x m. h x (inr m)) (suc j))

module _ (x : Entries) (first : AreFirst [] x.configs) (no_choices : x.choices ≡ []) where
  abbrev es : List ConfigEntry
  es = x.configs

  abbrev t : Shape
  t = gathered x

  abbrev g : Graph
  g = graph_of es

  symbols : t.symbols ≡ map alone es
  symbols = symbols_are es first

  -- each entry is one of the form, and what it needs is declared
  needs_of : (e : ConfigEntry) → Among e es → (needs : List (List ℕ)) × (e ≡ bool_entry e.name needs) × (list_all (is_declared (declared_in es)) needs ≡ true)
  needs_of e m = let r = first_among es [] first e m in (r.0, r.1, r.2 (declared_in es) (λ n h. absurd (none h)) (λ n h. h))
    where
      none : false ≡ true → ⊥
      none h = absurd (cc)

  at_symbol : (P : Symbol → Type 0) → P no_symbol → ((e : ConfigEntry) → Among e es → P (alone e)) → (k : ℕ) → P (symbol_at t k)
  at_symbol P d h k = subst (λ (ss : List Symbol). P (get_or ss k no_symbol)) (sym symbols) (get_or-alone P d es h k)

  as_entry : (P : ConfigEntry → Type 0) → ((name : List ℕ) (needs : List (List ℕ)) → P (bool_entry name needs)) → (e : ConfigEntry) → Among e es → P e
  as_entry P h e m = let r = needs_of e m in subst P (sym r.1) (h e.name r.0)

  number : (name : List ℕ) → number_of t name ≡ position (λ n. text_eq n name) (declared_in es)
  number name = ap (position (λ s. text_eq s.name name)) symbols
      ∙ (position-map alone (λ s. text_eq s.name name) es ∙ sym (position-map (λ (e : ConfigEntry). e.name) (λ n. text_eq n name) es))

  no_member : (k : ℕ) → is_member t k ≡ false
  no_member k = at_symbol (λ s. is_some s.member_of ≡ false) refl (as_entry (λ e. is_some (alone e).member_of ≡ false) (λ name needs. refl)) k

  no_text : (k : ℕ) → is_text_or_number (symbol_at t k).kind ≡ false
  no_text k = at_symbol (λ s. is_text_or_number s.kind ≡ false) refl (as_entry (λ e. is_text_or_number (alone e).kind ≡ false) (λ name needs. refl)) k

  in_names : (k : ℕ) → k < length (declared_in es) → k < length es
  in_names k lt = rw (sym (length-map es (λ (e : ConfigEntry). e.name))) lt

  -- the symbol with a number is that of its entry
  symbol_is : (k : ℕ) (lt : k < length (declared_in es)) → symbol_at t k ≡ alone (nth es k (in_names k lt)).0
  symbol_is k lt = ap (λ (ss : List Symbol). get_or ss k no_symbol) symbols ∙ (nth es k (in_names k lt)).2

  bool : (k : ℕ) → k < length g.names → counts_as t k ≡ counts.Bool
  bool k lt = by (is_the t.modules k)
    where
      own : counts_with t (symbol_at t k).kind (symbol_at t k).member_of ≡ counts.Bool
      own = rw (symbol_is k lt) (as_entry (λ e. counts_with t (alone e).kind (alone e).member_of ≡ counts.Bool) (λ name needs. refl) (nth es k (in_names k lt)).0 (nth es k (in_names k lt)).1)

      by : (b : Bool) → cond b counts.Bool (counts_with t (symbol_at t k).kind (symbol_at t k).member_of) ≡ counts.Bool
      by true = refl
      by false = own

  own_is : (c : Configuration) (n : List ℕ) (k : ℕ) → position (λ m. text_eq m n) (declared_in es) ≡ Some k → name_value t c n ≡ c.value k
  own_is c n k h = ap (named t c n) (number n ∙ h) ∙ ap (λ kind. stands_for kind (c.value k)) (bool k (position-Some (λ m. text_eq m n) (declared_in es) k [] h).0)

  needs_row : (k : ℕ) (lt : k < length (declared_in es)) → needs_at g k ≡ numbers_of (declared_in es) (names_in (nth es k (in_names k lt)).0.depends)
  needs_row k lt = (nth es k (in_names k lt)).3 (λ (e : ConfigEntry). numbers_of (declared_in es) (names_in e.depends))

  of_entry : (c : Configuration) (e : ConfigEntry) → Among e es → greatest (map (value_of t c) (alone e).prompts) ≡ joined_value c.value (numbers_of (declared_in es) (names_in e.depends))
  of_entry c e m = let r = needs_of e m in subst (λ (d : ConfigEntry). greatest (map (value_of t c) (alone d).prompts) ≡ joined_value c.value (numbers_of (declared_in es) (names_in d.depends))) (sym r.1)
      (one (value_of t c (all_of_names r.0)) ∙ (joined_is t c (declared_in es) (own_is c) r.0 r.2 ∙ ap (λ ns. joined_value c.value (numbers_of (declared_in es) ns)) (sym (names_joined r.0))))
    where
      one : (v : ℕ) → max v 0 ≡ v
      one v = omega arith

  visibility : (c : Configuration) (k : ℕ) → k < length g.names → visibility_of t c k ≡ joined_value c.value (needs_at g k)
  visibility c k lt = ap (λ (s : Symbol). greatest (map (value_of t c) s.prompts)) (symbol_is k lt)
      ∙ (of_entry c (nth es k (in_names k lt)).0 (nth es k (in_names k lt)).1 ∙ ap (joined_value c.value) (sym (needs_row k lt)))

  reverse : (c : Configuration) (k : ℕ) → k < length g.names → reverse_of t c k ≡ 0
  reverse c k lt = ap (λ ss. greatest (map (selected_by t c) (selects_from (symbol_at t k).name 0 ss))) symbols
      ∙ ap (λ ss. greatest (map (selected_by t c) ss)) (no_selects (symbol_at t k).name es (as_entry (λ e. (alone e).selects ≡ []) (λ name needs. refl)) 0)

  default : (c : Configuration) (k : ℕ) → k < length g.names → default_of t c k ≡ 0
  default c k lt = let implied = ap (λ ss. greatest (map (selected_by t c) (implies_from (symbol_at t k).name 0 ss))) symbols
      ∙ ap (λ ss. greatest (map (selected_by t c) ss)) (no_implies (symbol_at t k).name es (as_entry (λ e. (alone e).implies ≡ []) (λ name needs. refl)) 0) in
      let own : first_default t c (symbol_at t k).defaults ≡ 0 = at_symbol (λ s. first_default t c s.defaults ≡ 0) refl (as_entry (λ e. first_default t c (alone e).defaults ≡ 0) (λ name needs. refl)) k in
      λ z. weakened (implied z) (direct_of t c k) (own z)

  pub tree_shows : Shows t g
  tree_shows = record {
    count = ap length symbols ∙ (length-map es alone ∙ sym (length-map es (λ (e : ConfigEntry). e.name)));
    rows = length-map es _ ∙ sym (length-map es (λ (e : ConfigEntry). e.name));
    number = number;
    no_choice = ap (λ cs. choices_from es 0 cs) no_choices;
    no_member = no_member;
    no_text = no_text;
    bool = bool;
    visibility = visibility;
    reverse = reverse;
    default = default;
  }
