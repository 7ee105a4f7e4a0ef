-- Each fact's formulas mention items of its own node and of those that it names, and loose items that it lists.
use Rattle.std.proofs.Common.{◌≡◌, ℕ, ◌<◌, Bool, true, false, ◌||◌, cond, List, [], ◌∷◌, ◌++◌, map, length, filter, All, is_some, refl, ap, sym, subst, ◌∙◌, Option, None, Some, ◌⊎◌, inl, inr}
use Rattle.std.proofs.lemmas.Bool.{false≢true}
use Rattle.std.specs.List.{Contains, AllByRecursion}
use Rattle.std.proofs.lemmas.List.Folds.{list_any-append}
use Rattle.std.proofs.lemmas.List.Elements.{Contains-append_left, Contains-append_right, All-append, All-map, All-from_recursion, All-contains_itself, recursion_from_All}
use Rattle.ut_logic.specs.declared.item.Item.{Item}
use Rattle.ut_logic.specs.declared.item.Item.TheVariants as item
use Rattle.ut_logic.specs.declared.node.Node.{Node}
use Rattle.ut_logic.specs.declared.node.Node.TheVariants.{Sym, Choice}
use Rattle.ut_logic.specs.declared.facts.Fact.{Fact}
use Rattle.ut_logic.specs.Item.{item_eq}
use Rattle.ut_logic.specs.ItemIdentity.{item_eq-Decides}
use Rattle.ut_logic.specs.Assign.{is_in}
use Rattle.ut_logic.specs.Truth.{mentioned, together}
use Rattle.kconf_tree.specs.Shape.{symbol_at, choice_at, counts_as}
use Rattle.kconf_tree.specs.Valid.{choice_counts}
use Rattle.kconf_tree.specs.WellMade.{IsWellMade, IsNodeOf}
use Rattle.kconf_tree.specs.References.{numbers_in, node_of, references_of, symbol_references, choice_references}
use Rattle.kconf_tree.proofs.MadeLaws.{member_within}
use Rattle.kconf_tree.proofs.ReferenceLaws.{references_within, choice_within}
use Rattle.kconf_constr.specs.Scope.{Scope}
use Rattle.kconf_constr.specs.SymbolFormulas.{non_member_holds}
use Rattle.kconf_constr.specs.FactsOf.{own_items, mode_items, is_loose, loose_items, names_by, choice_fact, facts_of}
use Rattle.ut_logic.specs.declared.formula.Formula.{Formula}
use Rattle.kconf_entries.specs.declared.expr.Expr.{Expr}
use Rattle.kconf_tree.specs.declared.place.Place.TheVariants.{Condition}
use Rattle.kconf_constr.specs.declared.level.Level.{Level}
use Rattle.kconf_constr.specs.Levels.{levels, at_level}
use Rattle.kconf_constr.specs.Closed.{IsTrit, Fits, Reaches, IsReached, IsClosed, NamesNodes, IsAsked, Mentions}
use Rattle.kconf_constr.proofs.Lists.{weaker, has_mapped}
use Rattle.kconf_constr.proofs.FineLaws.{IsFineItem, BothFine, fine_at, expr_fine}
use Rattle.kconf_constr.proofs.HeldFine.{symbol_fine, choice_fine}
use Rattle.kconf_constr.proofs.EachFact.{each_fact}
use Rattle.kconf_constr.proofs.ValidLaws.{each_among, members_trit}

-- ---- loose items are listed

kept : (xs : List Item) (i : Item) → is_loose i ≡ true → is_in xs i ≡ true → is_in (filter is_loose xs) i ≡ true
kept [] i l h = h
kept (x ∷ xs) i l h = by (is_loose x) refl (item_eq x i) refl (kept xs i l)
  where
    by : (b : Bool) → is_loose x ≡ b → (e : Bool) → item_eq x i ≡ e → (is_in xs i ≡ true → is_in (filter is_loose xs) i ≡ true) → is_in (cond b (x ∷ filter is_loose xs) (filter is_loose xs)) i ≡ true
    by true f true g rest = ap (λ b. b || is_in (filter is_loose xs) i) g
    by true f false g rest = ap (λ b. b || is_in (filter is_loose xs) i) g ∙ rest (sym (ap (λ b. b || is_in xs i) g) ∙ h)
    by false f true g rest = absurd (false≢true (sym f ∙ (ap is_loose ((item_eq-Decides x i).0 g) ∙ l)))
    by false f false g rest = rest (sym (ap (λ b. b || is_in xs i) g) ∙ h)

listed : (own xs : List Item) (i : Item) → is_loose i ≡ true → is_in xs i ≡ true → is_in (own ++ filter is_loose xs) i ≡ true
listed own xs i l h = list_any-append (λ x. item_eq x i) own (filter is_loose xs) ∙ (ap (λ b. is_in own i || b) (kept xs i l h) ∙ second_true (is_in own i))
  where
    second_true : (b : Bool) → (b || true) ≡ true
    second_true true = refl
    second_true false = refl

module _ (s : Scope) (fact : Fact) where
  -- the symbols and choices whose items the fact's formulas may mention
  abbrev IsOwnSymbol : ℕ → Type 0
  IsOwnSymbol j = Reaches fact (Sym j) ⊎ Contains fact.names (node_of s.shape j)

  abbrev IsOwnChoice : ℕ → Type 0
  IsOwnChoice i = fact.node ≡ Choice i

  listed_here : (own : List Item) → fact.items ≡ own ++ loose_items fact.holds → (i : Item) → is_loose i ≡ true → is_in (together (map mentioned fact.holds)) i ≡ true → is_in fact.items i ≡ true
  listed_here own e i l h = ap (λ xs. is_in xs i) e ∙ listed own (together (map mentioned fact.holds)) i l h

  reached : (own : List Item) → fact.items ≡ own ++ loose_items fact.holds → (i : Item) → is_in (together (map mentioned fact.holds)) i ≡ true → IsFineItem s IsOwnSymbol IsOwnChoice i → Fits s i × IsReached s.shape fact i
  reached own e (item.SymY k) h f = f
  reached own e (item.SymM k) h f = f
  reached own e (item.Undeclared k) h f = (f, listed_here own e (item.Undeclared k) refl h)
  reached own e (item.ModeY k) h f = (tt, f)
  reached own e (item.ModeM k) h f = f
  reached own e (item.Outer k) h f = (f, listed_here own e (item.Outer k) refl h)
  reached own e (item.Same sym k) h f = absurd f
  reached own e (item.Below sym k) h f = absurd f
  reached own e (item.StartD file name) h f = absurd f
  reached own e (item.StartT file name) h f = absurd f
  reached own e (item.Truth file name) h f = absurd f
  reached own e (item.Piece file piece) h f = absurd f
  reached own e (item.Line file line) h f = absurd f
  reached own e (item.Block file block) h f = absurd f
  reached own e (item.StateD file name turn) h f = absurd f
  reached own e (item.StateT file name turn) h f = absurd f

both_each : {X : Type 0} (P Q : X → Type 0) (xs : List X) → AllByRecursion P xs → AllByRecursion Q xs → AllByRecursion (λ x. P x × Q x) xs
both_each P Q [] a b = tt
both_each P Q (x ∷ xs) a b = ((a.0, b.0), both_each P Q xs a.1 b.1)

module _ (s : Scope) (made : IsWellMade s.shape) where
  -- the fact of a symbol that is a member of this choice, or of none
  abbrev fact_as : ℕ → Option ℕ → Fact
  fact_as k o = record {
    node = Sym k;
    holds = cond (is_some o) [] (non_member_holds s k);
    defines = [];
    names = names_by s.shape k o;
    items = own_items (counts_as s.shape k) k ++ loose_items (cond (is_some o) [] (non_member_holds s k));
  }

  closed_as : (k : ℕ) (o : Option ℕ) → IsClosed s (fact_as k o)
  closed_as k (Some i) x h = absurd (false≢true h)
  closed_as k None x h = reached s (fact_as k None) (own_items (counts_as s.shape k) k) refl x h
      (symbol_fine (IsOwnSymbol s (fact_as k None)) (IsOwnChoice s (fact_as k None)) s k (inl (inl refl))
      (weaker (λ j. Contains (map (node_of s.shape) (symbol_references s.shape k)) (node_of s.shape j)) (IsOwnSymbol s (fact_as k None)) (λ j c. inr c) (symbol_references s.shape k) (has_mapped (node_of s.shape) (symbol_references s.shape k))) x h)

  choice_closed : (i : ℕ) → IsClosed s (choice_fact s i)
  choice_closed i x h = let fact : Fact = choice_fact s i in let ms : List ℕ = (choice_at s.shape i).members in
      let refs : List ℕ = choice_references s.shape i in
      let members : List Node = map (λ j. Sym j) ms in
      let others : List Node = map (node_of s.shape) refs in
      reached s fact (mode_items (choice_counts s.shape i) i) refl x h
      (choice_fine (IsOwnSymbol s fact) (IsOwnChoice s fact) s i refl
      (both_each (λ j. IsTrit (counts_as s.shape j)) (IsOwnSymbol s fact) ms (members_trit s made i)
      (weaker (λ j. Contains members (Sym j)) (IsOwnSymbol s fact) (λ j c. inl (inr (Contains-append_left members others (Sym j) c))) ms (has_mapped (λ j. Sym j) ms)))
      (weaker (λ j. Contains others (node_of s.shape j)) (IsOwnSymbol s fact) (λ j c. inr (Contains-append_right members others (node_of s.shape j) c)) refs (has_mapped (node_of s.shape) refs)) x h)

  pub each_closed : All (IsClosed s) (facts_of s)
  each_closed = each_fact s (IsClosed s) (λ k lt. closed_as k (symbol_at s.shape k).member_of) (λ i lt. choice_closed i)

  -- ---- named nodes have facts

  members_within : (i : ℕ) → All (IsNodeOf s.shape) (map (λ j. Sym j) (choice_at s.shape i).members)
  members_within i = All-map (IsNodeOf s.shape) (λ j. Sym j) (choice_at s.shape i).members
      (All-from_recursion (λ j. j < length s.shape.symbols) (choice_at s.shape i).members (each_among (λ j. j < length s.shape.symbols) (choice_at s.shape i).members (λ j h. member_within s.shape made i j h)))

  named_as : (k : ℕ) (o : Option ℕ) → (symbol_at s.shape k).member_of ≡ o → All (IsNodeOf s.shape) (names_by s.shape k o)
  named_as k None e = references_within s.shape made (Sym k)
  named_as k (Some i) e = All-from_recursion (IsNodeOf s.shape) (Choice i ∷ []) (choice_within s.shape made i k e, tt)

  pub each_named : All (NamesNodes s.shape) (facts_of s)
  each_named = each_fact s (NamesNodes s.shape) (λ k lt. named_as k (symbol_at s.shape k).member_of refl)
      (λ i lt. All-append (IsNodeOf s.shape) (map (λ j. Sym j) (choice_at s.shape i).members) (references_of s.shape (Choice i)) (members_within i) (references_within s.shape made (Choice i)))

pub closed_of : (s t : Scope) (fs : List Fact) → fs ≡ facts_of s → s ≡ t → IsWellMade t.shape → All (IsClosed t) fs
closed_of s t fs e g made = subst (All (IsClosed t)) (sym (e ∙ ap facts_of g)) (each_closed t made)

pub named_of : (s t : Scope) (fs : List Fact) → fs ≡ facts_of s → s ≡ t → IsWellMade t.shape → All (NamesNodes t.shape) fs
named_of s t fs e g made = subst (All (NamesNodes t.shape)) (sym (e ∙ ap facts_of g)) (each_named t made)

-- ---- conditions

module _ (s : Scope) (e : Expr) where
  abbrev IsNamed : ℕ → Type 0
  IsNamed k = Contains (numbers_in s.shape Condition e) k

  abbrev IsNone : ℕ → Type 0
  IsNone i = ⊥

  asked : (i : Item) → IsFineItem s IsNamed IsNone i → Fits s i × IsAsked s e i
  asked (item.SymY k) f = f
  asked (item.SymM k) f = f
  asked (item.Undeclared k) f = (f, tt)
  asked (item.Outer k) f = (f, tt)
  asked (item.ModeY i) f = absurd f
  asked (item.ModeM i) f = absurd f.1
  asked (item.Same sym k) f = absurd f
  asked (item.Below sym k) f = absurd f
  asked (item.StartD file name) f = absurd f
  asked (item.StartT file name) f = absurd f
  asked (item.Truth file name) f = absurd f
  asked (item.Piece file piece) f = absurd f
  asked (item.Line file line) f = absurd f
  asked (item.Block file block) f = absurd f
  asked (item.StateD file name turn) f = absurd f
  asked (item.StateT file name turn) f = absurd f

  both_asked : BothFine s IsNamed IsNone (levels s Condition e)
  both_asked = expr_fine s IsNamed IsNone Condition e (recursion_from_All IsNamed (numbers_in s.shape Condition e) (All-contains_itself (numbers_in s.shape Condition e)))

  condition_mentions : (h : Level) → Mentions s e (at_level h (levels s Condition e))
  condition_mentions h i there = asked i (fine_at s IsNamed IsNone h (levels s Condition e) both_asked i there)

pub mentions_of : (s t : Scope) (e : Expr) (h : Level) (f : Formula) → f ≡ at_level h (levels s Condition e) → s ≡ t → Mentions t e f
mentions_of s t e h f is g = subst (Mentions t e) (sym (is ∙ ap (λ (r : Scope). at_level h (levels r Condition e)) g)) (condition_mentions t e h)
