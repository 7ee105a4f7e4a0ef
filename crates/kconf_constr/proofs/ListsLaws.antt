-- Each item that a fact lists fits, and is one of its own node or such as no node has.
use Rattle.std.proofs.Common.{◌≡◌, ℕ, Bool, true, false, not, ◌||◌, cond, List, [], ◌∷◌, ◌++◌, map, filter, All, is_some, refl, ap, sym, subst, ◌∙◌, Option, None, Some, ◌⊎◌, inl, inr}
use Rattle.std.proofs.lemmas.Bool.{false≢true}
use Rattle.std.proofs.lemmas.List.Folds.{list_any-append}
use Rattle.ut_logic.specs.declared.item.Item.{Item}
use Rattle.ut_logic.specs.declared.item.Item.TheVariants as item
use Rattle.ut_logic.specs.declared.node.Node.{Node}
use Rattle.ut_logic.specs.declared.node.Node.TheVariants.{Sym, Choice}
use Rattle.ut_logic.specs.declared.facts.Fact.{Fact}
use Rattle.ut_logic.specs.Item.{item_eq}
use Rattle.ut_logic.specs.ItemIdentity.{item_eq-Decides}
use Rattle.ut_logic.specs.Assign.{is_in}
use Rattle.ut_logic.specs.Owners.{owner}
use Rattle.ut_logic.specs.Truth.{mentioned, together}
use Rattle.kconf_tree.specs.declared.shape.Counts.{Counts}
use Rattle.kconf_tree.specs.declared.shape.Counts.TheVariants as counts
use Rattle.kconf_tree.specs.Shape.{counts_as}
use Rattle.kconf_tree.specs.Valid.{choice_counts}
use Rattle.kconf_tree.specs.WellMade.{IsWellMade}
use Rattle.kconf_constr.specs.Scope.{Scope}
use Rattle.kconf_constr.specs.FactsOf.{own_items, mode_items, is_loose, loose_items, symbol_fact, choice_fact, facts_of}
use Rattle.kconf_constr.specs.Closed.{IsTrit, Fits, IsClosed, ListsFitting}
use Rattle.kconf_constr.proofs.ClosedLaws.{each_closed}
use Rattle.kconf_constr.proofs.EachFact.{each_fact, of_symbol, of_choice}

-- ---- members

-- P holds of each item of a list
abbrev Has : (Item → Type 0) → List Item → Type 0
Has P xs = (i : Item) → is_in xs i ≡ true → P i

has_none : (P : Item → Type 0) → Has P []
has_none P i h = absurd (false≢true h)

has_more : (P : Item → Type 0) (x : Item) (xs : List Item) → P x → Has P xs → Has P (x ∷ xs)
has_more P x xs p rest i h = by (item_eq x i) refl h
  where
    by : (b : Bool) → item_eq x i ≡ b → (b || is_in xs i) ≡ true → P i
    by true e g = subst P ((item_eq-Decides x i).0 e) p
    by false e g = rest i g

-- an item that passes a test was there before
before : (p : Item → Bool) (xs : List Item) (i : Item) → is_in (filter p xs) i ≡ true → (p i ≡ true) × (is_in xs i ≡ true)
before p [] i h = absurd (false≢true h)
before p (x ∷ xs) i h = by (p x) refl (item_eq x i) refl h (before p xs i)
  where
    by : (b : Bool) → p x ≡ b → (e : Bool) → item_eq x i ≡ e → is_in (cond b (x ∷ filter p xs) (filter p xs)) i ≡ true → (is_in (filter p xs) i ≡ true → (p i ≡ true) × (is_in xs i ≡ true)) → (p i ≡ true) × ((item_eq x i || is_in xs i) ≡ true)
    by true f true g m rest = (sym (ap p ((item_eq-Decides x i).0 g)) ∙ f, ap (λ b. b || is_in xs i) g)
    by true f false g m rest = let r = rest (sym (ap (λ b. b || is_in (filter p xs) i) g) ∙ m) in (r.0, ap (λ b. b || is_in xs i) g ∙ r.1)
    by false f e g m rest = let r = rest m in (r.0, second (item_eq x i) r.1)
      where
        second : (a : Bool) → is_in xs i ≡ true → (a || is_in xs i) ≡ true
        second true k = refl
        second false k = k

no_owner : (o : Option Node) → not (is_some o) ≡ true → o ≡ None
no_owner None h = refl
no_owner (Some n) h = absurd (false≢true h)

-- ---- facts

module _ (s : Scope) where
  -- an item that fits, of this node
  abbrev IsOwn : Node → Item → Type 0
  IsOwn n i = Fits s i × (owner i ≡ Some n)

  symbol_own : (k : ℕ) (kind : Counts) → counts_as s.shape k ≡ kind → Has (IsOwn (Sym k)) (own_items kind k)
  symbol_own k counts.Bool e = has_more (IsOwn (Sym k)) (item.SymY k) [] (subst IsTrit (sym e) tt, refl) (has_none (IsOwn (Sym k)))
  symbol_own k counts.Tristate e = has_more (IsOwn (Sym k)) (item.SymY k) (item.SymM k ∷ []) (subst IsTrit (sym e) tt, refl) (has_more (IsOwn (Sym k)) (item.SymM k) [] (e, refl) (has_none (IsOwn (Sym k))))
  symbol_own k counts.Neither e = has_none (IsOwn (Sym k))

  choice_own : (i : ℕ) (kind : Counts) → choice_counts s.shape i ≡ kind → Has (IsOwn (Choice i)) (mode_items kind i)
  choice_own i counts.Bool e = has_more (IsOwn (Choice i)) (item.ModeY i) [] (tt, refl) (has_none (IsOwn (Choice i)))
  choice_own i counts.Tristate e = has_more (IsOwn (Choice i)) (item.ModeY i) (item.ModeM i ∷ []) (tt, refl) (has_more (IsOwn (Choice i)) (item.ModeM i) [] (e, refl) (has_none (IsOwn (Choice i))))
  choice_own i counts.Neither e = has_more (IsOwn (Choice i)) (item.ModeY i) [] (tt, refl) (has_none (IsOwn (Choice i)))

  lists : (fact : Fact) (own : List Item) → fact.items ≡ own ++ loose_items fact.holds → Has (IsOwn fact.node) own → IsClosed s fact → ListsFitting s fact
  lists fact own e h closed i m = by (is_in own i) refl (sym (list_any-append (λ x. item_eq x i) own (loose_items fact.holds)) ∙ (sym (ap (λ xs. is_in xs i) e) ∙ m))
    where
      by : (b : Bool) → is_in own i ≡ b → (b || is_in (loose_items fact.holds) i) ≡ true → Fits s i × ((owner i ≡ Some fact.node) ⊎ (owner i ≡ None))
      by true f g = let o = h i f in (o.0, inl o.1)
      by false f g = let b = before is_loose (together (map mentioned fact.holds)) i g in ((closed i b.1).0, inr (no_owner (owner i) b.0))

  pub each_lists : IsWellMade s.shape → All (ListsFitting s) (facts_of s)
  each_lists made = each_fact s (ListsFitting s)
      (λ k lt. lists (symbol_fact s k) (own_items (counts_as s.shape k) k) refl (symbol_own k (counts_as s.shape k) refl) (of_symbol s (IsClosed s) (each_closed s made) k lt))
      (λ i lt. lists (choice_fact s i) (mode_items (choice_counts s.shape i) i) refl (choice_own i (choice_counts s.shape i) refl) (of_choice s (IsClosed s) (each_closed s made) i lt))
