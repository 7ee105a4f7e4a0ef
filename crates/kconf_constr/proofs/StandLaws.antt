-- Truths of items and configurations: what a configuration's own truths meet, and what truths that meet facts stand for.
use Rattle.std.proofs.Common.{◌≡◌, ℕ, zero, suc, ◌<◌, ◌≤◌, ◌==◌, Bool, true, false, not, ◌&&◌, cond, Option, None, Some, List, [], ◌∷◌, map, length, get_or, All, is_some, refl, ap, sym, subst, ◌∙◌, arith, ◌⊎◌, inl, inr, position}
use Rattle.std.proofs.lemmas.Bool.{false≢true}
use Rattle.std.proofs.lemmas.Bool.Decides.{nat_tests}
use Rattle.std.specs.List.{list_any, Contains, AllByRecursion}
use Rattle.std.specs.Ordering.{is_eq}
use Rattle.std.specs.declared.cmp.Ordering.{Ordering}
use Rattle.std.specs.declared.cmp.Ordering.TheVariants.{Less, Equal, Greater}
use Rattle.std.proofs.lemmas.List.Elements.{All-contains, All-contains_itself, All-from_recursion, recursion_from_All}
use Rattle.std.proofs.lemmas.List.Quantifiers.{position-Some}
use Rattle.ut_text.specs.Text.{text_eq, text_eq-exact, text_equiv, text_ties, text_cmp}
use Rattle.ut_logic.specs.declared.item.Item.{Item}
use Rattle.ut_logic.specs.declared.item.Item.TheVariants.{SymY, SymM, ModeY, ModeM}
use Rattle.ut_logic.specs.declared.node.Node.{Node}
use Rattle.ut_logic.specs.declared.node.Node.TheVariants.{Sym, Choice, Block, State}
use Rattle.ut_logic.specs.Node.{node_eq}
use Rattle.ut_logic.specs.NodeIdentity.{node_eq-Decides}
use Rattle.ut_logic.specs.Facts.{MeetsAll}
use Rattle.kconf_tree.specs.declared.shape.Counts.{Counts}
use Rattle.kconf_tree.specs.declared.shape.Counts.TheVariants as counts
use Rattle.kconf_tree.specs.Shape.{symbol_at, choice_at, counts_as}
use Rattle.kconf_tree.specs.Value.{Configuration, has_modules}
use Rattle.kconf_tree.specs.Properties.{visibility_of, choice_visibility_of}
use Rattle.kconf_tree.specs.Valid.{promoted, lets_m, choice_counts, allows_mode, KeepsMode, KeepsRules}
use Rattle.kconf_tree.specs.Undeclared.{undeclared_of}
use Rattle.kconf_tree.specs.References.{node_by, node_of, references_of, symbol_references, choice_references}
use Rattle.kconf_tree.specs.WellMade.{IsWellMade, IsNodeOf}
use Rattle.kconf_tree.specs.Looks.{AreSameIn}
use Rattle.kconf_tree.specs.Parts.{Holds, part_of_nodes, IsClosedPart}
use Rattle.kconf_tree.proofs.Small.{or_left, or_right}
use Rattle.kconf_tree.proofs.GraphOrders.{any_contains}
use Rattle.kconf_tree.proofs.ReferenceLaws.{choice_within}
use Rattle.kconf_tree.proofs.RightChoices.{mode_small}
use Rattle.kconf_tree.proofs.SameIn.{rules_same}
use Rattle.kconf_constr.specs.Scope.{Scope, IsRising, number_among}
use Rattle.kconf_constr.specs.Stands.{truths_of, value_as, mode_as, undeclared_truth, read_off, has_one_as, has_one_value, has_one_mode_as}
use Rattle.kconf_constr.specs.FactsOf.{own_items, mode_items, choice_of, names_by, choice_names, symbol_fact, choice_fact, facts_of}
use Rattle.kconf_constr.specs.Meaning.{SymbolIsRight, ChoiceIsRight, HaveOneValue}
use Rattle.kconf_constr.specs.Standing.{items_of, IsCovered, AreClosed, MeetsOn, SomeConfiguration}
use Rattle.kconf_constr.proofs.EachFact.{of_symbol, of_choice}
use Rattle.kconf_constr.proofs.Lists.{front, back, unmapped}
use Rattle.kconf_constr.proofs.Searching.{found_at}
use Rattle.kconf_constr.specs.Closed.{IsTrit}
use Rattle.kconf_tree.proofs.Places.{position_found}
use Rattle.kconf_constr.proofs.ValidLaws.{small, among_each, members_trit, says_symbol, says_choice, keeps_law}

-- ---- values of the two kinds of items

-- a value that is a bool's, or that of what counts as this, is read off its own truths
abbrev IsValueOf : Counts → ℕ → Type 0
IsValueOf counts.Bool x = (x ≡ 0) ⊎ (x ≡ 2)
IsValueOf counts.Tristate x = x ≤ 2
IsValueOf counts.Neither x = x ≡ 0

two_read : (x : ℕ) → (x ≡ 0) ⊎ (x ≡ 2) → x ≡ cond (x == 2) 2 0
two_read x (inl e) = e ∙ sym (ap (λ (y : ℕ). cond (y == 2) 2 0) e)
two_read x (inr e) = e ∙ sym (ap (λ (y : ℕ). cond (y == 2) 2 0) e)

three_read : (x : ℕ) → x ≤ 2 → x ≡ cond (x == 2) 2 (cond (x == 1) 1 0)
three_read zero h = refl
three_read (suc zero) h = refl
three_read (suc (suc zero)) h = refl
three_read (suc (suc (suc x))) h = absurd (omega arith)

value_read : (s : Scope) (c : Configuration) (kind : Counts) (k : ℕ) → IsValueOf kind (c.value k) → c.value k ≡ value_as kind (truths_of s c) k
value_read s c counts.Bool k h = two_read (c.value k) h
value_read s c counts.Tristate k h = three_read (c.value k) h
value_read s c counts.Neither k h = h

mode_read : (s : Scope) (c : Configuration) (kind : Counts) (i : ℕ) → c.mode i ≤ 2 → (c.mode i ≡ 1 → kind ≡ counts.Tristate) → c.mode i ≡ mode_as kind (truths_of s c) i
mode_read s c counts.Bool i h f = by (c.mode i) refl
  where
    by : (x : ℕ) → c.mode i ≡ x → c.mode i ≡ cond (c.mode i == 2) 2 0
    by zero e = two_read (c.mode i) (inl e)
    by (suc zero) e = absurd (let g = f e in cc)
    by (suc (suc zero)) e = two_read (c.mode i) (inr e)
    by (suc (suc (suc x))) e = absurd (omega (arith, h, e))
mode_read s c counts.Tristate i h f = three_read (c.mode i) h
mode_read s c counts.Neither i h f = by (c.mode i) refl
  where
    by : (x : ℕ) → c.mode i ≡ x → c.mode i ≡ cond (c.mode i == 2) 2 0
    by zero e = two_read (c.mode i) (inl e)
    by (suc zero) e = absurd (let g = f e in cc)
    by (suc (suc zero)) e = two_read (c.mode i) (inr e)
    by (suc (suc (suc x))) e = absurd (omega (arith, h, e))

never_both : (x : ℕ) → not ((x == 2) && (x == 1)) ≡ true
never_both x = grind (arith, nat_tests)

bool_value : (n x : ℕ) → cond (n == 0) 0 2 ≡ x → (x ≡ 0) ⊎ (x ≡ 2)
bool_value n x h = by (n == 0) h
  where
    by : (b : Bool) → cond b 0 2 ≡ x → (x ≡ 0) ⊎ (x ≡ 2)
    by true g = inl (sym g)
    by false g = inr (sym g)

calculated_value : (kind : Counts) (on : Bool) (n x : ℕ) → x ≤ 2 → promoted kind on n ≡ x → IsValueOf kind x
calculated_value counts.Bool on n x s h = bool_value n x h
calculated_value counts.Tristate on n x s h = s
calculated_value counts.Neither on n x s h = sym h

contains_any : {A : Type 0} (p : A → Bool) (xs : List A) (x : A) → Contains xs x → p x ≡ true → list_any p xs ≡ true
contains_any p [] x h g = absurd (omega (arith, h.1))
contains_any p (y ∷ ys) x (zero, l, e) g = or_left (p y) (list_any p ys) (ap p e ∙ g)
contains_any p (y ∷ ys) x (suc k, l, e) g = or_right (p y) (list_any p ys) (contains_any p ys x (k, omega arith, e) g)

position_some : {A : Type 0} (p : A → Bool) (xs : List A) → list_any p xs ≡ true → position p xs ≡ None → ⊥
position_some p xs h e = let found = position_found p xs h in cc

-- a name without a number isn't listed
none_listed : (names : List (List ℕ)) (name : List ℕ) → number_among names name ≡ None → Contains names name → ⊥
none_listed names name e h = let some = contains_any (λ n. text_eq n name) names name h (text_equiv.refl name) in absurd (position_some (λ n. text_eq n name) names some e)

-- ---- a configuration that keeps the rules

module _ (s : Scope) (made : IsWellMade s.shape) (c : Configuration) (covered : IsCovered s c) (rules : KeepsRules s.shape c) where
  -- a member's value is one of what it counts as
  member_value : (kind : Counts) → IsTrit kind → (mode j : ℕ) → counts_as s.shape j ≡ kind → KeepsMode s.shape c mode j → IsValueOf kind (c.value j)
  member_value counts.Bool t mode j e (inl n) = inl n
  member_value counts.Bool t mode j e (inr (inl y)) = inr y.0
  member_value counts.Bool t mode j e (inr (inr m)) = absurd (false≢true (sym (ap (λ kind. lets_m kind (visibility_of s.shape c j)) e) ∙ m.2))
  member_value counts.Tristate t mode j e (inl n) = omega (arith, n)
  member_value counts.Tristate t mode j e (inr (inl y)) = let h : c.value j ≡ 2 = y.0 in omega (arith, h)
  member_value counts.Tristate t mode j e (inr (inr m)) = let h : c.value j ≡ 1 = m.0 in omega (arith, h)
  member_value counts.Neither t mode j e k = absurd t

  value_is : (k : ℕ) → k < length s.shape.symbols → IsValueOf (counts_as s.shape k) (c.value k)
  value_is k lt = by (symbol_at s.shape k).member_of refl
    where
      by : (o : Option ℕ) → (symbol_at s.shape k).member_of ≡ o → IsValueOf (counts_as s.shape k) (c.value k)
      by None e = let given = rules.calculated.gives k lt (ap is_some e) in calculated_value (counts_as s.shape k) (has_modules s.shape c) _ (c.value k) (rules.values k lt) given.1
      by (Some i) e = let there = made.listed i k e in
          member_value (counts_as s.shape k) (among_each (λ j. IsTrit (counts_as s.shape j)) (choice_at s.shape i).members (members_trit s made i) k there) (c.mode i) k refl
          (among_each (KeepsMode s.shape c (c.mode i)) (choice_at s.shape i).members (recursion_from_All (KeepsMode s.shape c (c.mode i)) (choice_at s.shape i).members (rules.choices i (choice_within s.shape made i k e)).members) k there)

  mode_kind : (kind : Counts) (on optional : Bool) (vis mode : ℕ) → allows_mode kind on optional vis mode ≡ true → mode ≡ 1 → kind ≡ counts.Tristate
  mode_kind counts.Tristate on optional vis mode h e = refl
  mode_kind counts.Bool on optional vis mode h e = absurd (no on (sym (ap (λ (x : ℕ). allows_mode counts.Bool on optional vis x) e) ∙ h))
    where
      no : (b : Bool) → (b && false) ≡ true → ⊥
      no true g = false≢true g
      no false g = false≢true g
  mode_kind counts.Neither on optional vis mode h e = absurd (no on (sym (ap (λ (x : ℕ). allows_mode counts.Neither on optional vis x) e) ∙ h))
    where
      no : (b : Bool) → (b && false) ≡ true → ⊥
      no true g = false≢true g
      no false g = false≢true g

  name_is : (name : List ℕ) → Contains (undeclared_of s.shape) name → c.undeclared name ≡ undeclared_truth (truths_of s c) (number_among s.undeclared name)
  name_is name there = by (number_among s.undeclared name) refl
    where
      by : (o : Option ℕ) → number_among s.undeclared name ≡ o → c.undeclared name ≡ undeclared_truth (truths_of s c) o
      by (Some k) e = ap c.undeclared (sym (text_eq-exact (get_or s.undeclared k []) name (position-Some (λ n. text_eq n name) s.undeclared k [] e).1))
      by None e = off (c.undeclared name) refl
        where
          off : (b : Bool) → c.undeclared name ≡ b → c.undeclared name ≡ false
          off false h = h
          off true h = absurd (none_listed s.undeclared name e (covered name there h))

  pub same : AreSameIn s.shape c (read_off s (truths_of s c))
  same = record {
    values = λ k lt. value_read s c (counts_as s.shape k) k (value_is k lt);
    modes = λ i lt. mode_read s c (choice_counts s.shape i) i (mode_small s.shape c i (rules.choices i lt))
        (mode_kind (choice_counts s.shape i) (has_modules s.shape c) (choice_at s.shape i).optional (choice_visibility_of s.shape c i) (c.mode i) (rules.choices i lt).mode);
    outers = λ k lt. refl;
    undeclared = name_is;
  }

  one_value : HaveOneValue s.shape (truths_of s c)
  one_value = record { values = λ k lt. value_one (counts_as s.shape k) k; modes = λ i lt. mode_one (choice_counts s.shape i) i }
    where
      value_one : (kind : Counts) (k : ℕ) → has_one_as kind (truths_of s c) k ≡ true
      value_one counts.Bool k = refl
      value_one counts.Tristate k = never_both (c.value k)
      value_one counts.Neither k = refl

      mode_one : (kind : Counts) (i : ℕ) → has_one_mode_as kind (truths_of s c) i ≡ true
      mode_one counts.Bool i = refl
      mode_one counts.Tristate i = never_both (c.mode i)
      mode_one counts.Neither i = refl

  -- its own truths meet every fact
  pub rules_meet : MeetsAll (truths_of s c) (facts_of s)
  rules_meet = (keeps_law s made (truths_of s c)).1 (one_value, rules_same s.shape made c (read_off s (truths_of s c)) same rules)

-- ---- closed sets of nodes

among_nodes : (nodes : List Node) (n : Node) → list_any (node_eq n) nodes ≡ true → Contains nodes n
among_nodes nodes n h = let r = any_contains nodes (node_eq n) h in subst (λ (m : Node). Contains nodes m) (sym ((node_eq-Decides n r.0).0 r.2)) r.1

nodes_among : (nodes : List Node) (n : Node) → Contains nodes n → list_any (node_eq n) nodes ≡ true
nodes_among nodes n h = contains_any (node_eq n) nodes n h ((node_eq-Decides n n).1 refl)

both_ways : (a b : Bool) → (a ≡ true → b ≡ true) → (b ≡ true → a ≡ true) → a ≡ b
both_ways true b f g = sym (f refl)
both_ways false true f g = g refl
both_ways false false f g = refl

module _ (s : Scope) (made : IsWellMade s.shape) (nodes : List Node) (closed : AreClosed s nodes) where
  abbrev In : Node → Type 0
  In = Contains nodes

  symbol_in : (k : ℕ) → In (Sym k) → k < length s.shape.symbols
  symbol_in k h = All-contains (IsNodeOf s.shape) nodes (Sym k) closed.within h

  choice_in : (i : ℕ) → In (Choice i) → i < length s.shape.choices
  choice_in i h = All-contains (IsNodeOf s.shape) nodes (Choice i) closed.within h

  symbol_has : (k : ℕ) → k < length s.shape.symbols → Contains (facts_of s) (symbol_fact s k)
  symbol_has k lt = of_symbol s (Contains (facts_of s)) (All-contains_itself (facts_of s)) k lt

  choice_has : (i : ℕ) → i < length s.shape.choices → Contains (facts_of s) (choice_fact s i)
  choice_has i lt = of_choice s (Contains (facts_of s)) (All-contains_itself (facts_of s)) i lt

  choice_named : (i : ℕ) → In (Choice i) → AllByRecursion In (choice_names s.shape i)
  choice_named i h = recursion_from_All In (choice_names s.shape i) (closed.names (choice_fact s i) (choice_has i (choice_in i h)) h)

  symbol_named : (k : ℕ) (o : Option ℕ) → choice_of s.shape k ≡ o → In (Sym k) → AllByRecursion In (names_by s.shape k o)
  symbol_named k o e h = subst (λ (x : Option ℕ). AllByRecursion In (names_by s.shape k x)) e
      (recursion_from_All In (names_by s.shape k (choice_of s.shape k)) (closed.names (symbol_fact s k) (symbol_has k (symbol_in k h)) h))

  -- a choice and its members are in together
  members_in : (i j : ℕ) → (symbol_at s.shape j).member_of ≡ Some i → In (Choice i) → In (Sym j)
  members_in i j e h = among_each (λ k. In (Sym k)) (choice_at s.shape i).members
      (unmapped In (λ k. Sym k) (choice_at s.shape i).members (front In (map (λ k. Sym k) (choice_at s.shape i).members) (references_of s.shape (Choice i)) (choice_named i h))) j (made.listed i j e)

  its_choice : (i j : ℕ) → (symbol_at s.shape j).member_of ≡ Some i → In (Sym j) → In (Choice i)
  its_choice i j e h = (symbol_named j (Some i) e h).0

  node_in : (j : ℕ) → In (node_of s.shape j) → In (Sym j)
  node_in j h = by (symbol_at s.shape j).member_of refl h
    where
      by : (o : Option ℕ) → (symbol_at s.shape j).member_of ≡ o → In (node_by j o) → In (Sym j)
      by None e g = g
      by (Some i) e g = members_in i j e g

  held : (js : List ℕ) → AllByRecursion In (map (node_of s.shape) js) → AllByRecursion (λ j. list_any (node_eq (Sym j)) nodes ≡ true) js
  held [] h = tt
  held (j ∷ js) h = (nodes_among nodes (Sym j) (node_in j h.0), held js h.1)

  holds : (js : List ℕ) → AllByRecursion In (map (node_of s.shape) js) → Holds (part_of_nodes nodes) js
  holds js h = All-from_recursion (λ j. list_any (node_eq (Sym j)) nodes ≡ true) js (held js h)

  none_of : (o : Option ℕ) → is_some o ≡ false → o ≡ None
  none_of None h = refl
  none_of (Some i) h = absurd (cc)

  pub closed_part : IsClosedPart s.shape (part_of_nodes nodes)
  closed_part = record {
    symbols = λ k own h. holds (symbol_references s.shape k) (symbol_named k None (none_of (choice_of s.shape k) own) (among_nodes nodes (Sym k) h));
    choices = λ i h. holds (choice_references s.shape i) (back In (map (λ j. Sym j) (choice_at s.shape i).members) (references_of s.shape (Choice i)) (choice_named i (among_nodes nodes (Choice i) h)));
    together = λ i j e. both_ways (list_any (node_eq (Sym j)) nodes) (list_any (node_eq (Choice i)) nodes)
        (λ h. nodes_among nodes (Choice i) (its_choice i j e (among_nodes nodes (Sym j) h)))
        (λ h. nodes_among nodes (Sym j) (members_in i j e (among_nodes nodes (Choice i) h)));
  }

  -- ---- truths that meet the facts of the nodes

  module _ (v : Item → Bool) (met : MeetsOn s nodes v) where
    choice_right : (i : ℕ) → In (Choice i) → ChoiceIsRight s v i
    choice_right i h = (says_choice s made v i).0 (met (choice_fact s i) (choice_has i (choice_in i h)) h)

    symbol_right : (k : ℕ) (o : Option ℕ) → choice_of s.shape k ≡ o → In (Sym k) → SymbolIsRight s v k o
    symbol_right k o e h = subst (λ (x : Option ℕ). SymbolIsRight s v k x) e ((says_symbol s made v k).0 (met (symbol_fact s k) (symbol_has k (symbol_in k h)) h))

    one_of : (k : ℕ) → In (Sym k) → has_one_value s.shape v k ≡ true
    one_of k h = by (choice_of s.shape k) refl
      where
        by : (o : Option ℕ) → choice_of s.shape k ≡ o → has_one_value s.shape v k ≡ true
        by None e = (symbol_right k None e h).0
        by (Some i) e = among_each (λ j. has_one_value s.shape v j ≡ true) (choice_at s.shape i).members
            (recursion_from_All (λ j. has_one_value s.shape v j ≡ true) (choice_at s.shape i).members (choice_right i (its_choice i k e h)).one_value) k (made.listed i k e)

    -- what is read off gives the same truths back
    y_back : (y m : Bool) → y ≡ (cond y 2 (cond m 1 0) == 2)
    y_back true m = refl
    y_back false true = refl
    y_back false false = refl

    m_back : (y m : Bool) → not (y && m) ≡ true → m ≡ (cond y 2 (cond m 1 0) == 1)
    m_back true true h = absurd (false≢true h)
    m_back true false h = refl
    m_back false true h = refl
    m_back false false h = refl

    bit : (b : Bool) → b ≡ (cond b 2 0 == 2)
    bit true = refl
    bit false = refl

    symbol_items : (k : ℕ) (kind : Counts) → counts_as s.shape k ≡ kind → has_one_as kind v k ≡ true → AllByRecursion (λ i. v i ≡ truths_of s (read_off s v) i) (own_items kind k)
    symbol_items k counts.Bool e one = (bit (v (SymY k)) ∙ sym (ap (λ kind. value_as kind v k == 2) e), tt)
    symbol_items k counts.Tristate e one = (y_back (v (SymY k)) (v (SymM k)) ∙ sym (ap (λ kind. value_as kind v k == 2) e), (m_back (v (SymY k)) (v (SymM k)) one ∙ sym (ap (λ kind. value_as kind v k == 1) e), tt))
    symbol_items k counts.Neither e one = tt

    choice_items : (i : ℕ) (kind : Counts) → choice_counts s.shape i ≡ kind → has_one_mode_as kind v i ≡ true → AllByRecursion (λ x. v x ≡ truths_of s (read_off s v) x) (mode_items kind i)
    choice_items i counts.Bool e one = (bit (v (ModeY i)) ∙ sym (ap (λ kind. mode_as kind v i == 2) e), tt)
    choice_items i counts.Tristate e one = (y_back (v (ModeY i)) (v (ModeM i)) ∙ sym (ap (λ kind. mode_as kind v i == 2) e), (m_back (v (ModeY i)) (v (ModeM i)) one ∙ sym (ap (λ kind. mode_as kind v i == 1) e), tt))
    choice_items i counts.Neither e one = (bit (v (ModeY i)) ∙ sym (ap (λ kind. mode_as kind v i == 2) e), tt)

    items_back : (n : Node) → In n → All (λ i. v i ≡ truths_of s (read_off s v) i) (items_of s n)
    items_back (Sym k) h = All-from_recursion (λ i. v i ≡ truths_of s (read_off s v) i) (items_of s (Sym k)) (symbol_items k (counts_as s.shape k) refl (one_of k h))
    items_back (Choice i) h = All-from_recursion (λ x. v x ≡ truths_of s (read_off s v) x) (items_of s (Choice i)) (choice_items i (choice_counts s.shape i) refl (choice_right i h).one_mode)
    items_back (Block f b) h = All-from_recursion (λ i. v i ≡ truths_of s (read_off s v) i) [] tt
    items_back (State f n u) h = All-from_recursion (λ i. v i ≡ truths_of s (read_off s v) i) [] tt

    equal_self : (name : List ℕ) → text_cmp name name ≡ Equal
    equal_self name = by (text_cmp name name) (sym (text_ties name name) ∙ text_equiv.refl name)
      where
        by : (o : Ordering) → is_eq o ≡ true → o ≡ Equal
        by Equal h = refl
        by Less h = absurd (false≢true h)
        by Greater h = absurd (false≢true h)

    pub some_configuration : IsRising s.undeclared → SomeConfiguration s nodes v
    some_configuration up = record {
      configuration = read_off s v;
      read = refl;
      values = λ k. small s made v (counts_as s.shape k) k;
      stands = record {
        items = items_back;
        undeclared = λ k lt. ap (undeclared_truth v) (found_at s.undeclared (get_or s.undeclared k []) k [] up lt (equal_self (get_or s.undeclared k [])));
        outers = λ k lt. refl;
      };
      right = record {
        symbols = λ k own h. (symbol_right k None (none_of (choice_of s.shape k) own) (among_nodes nodes (Sym k) h)).1;
        choices = λ i h. (choice_right i (among_nodes nodes (Choice i) h)).right;
      };
    }
