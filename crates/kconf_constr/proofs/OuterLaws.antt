-- A fact lists an outer condition exactly where its formulas mention it.
use Rattle.std.proofs.Common.{◌≡◌, ℕ, Bool, true, false, ◌||◌, cond, List, [], ◌∷◌, ◌++◌, map, filter, All, refl, ap, sym, subst, ◌∙◌}
use Rattle.std.proofs.lemmas.Bool.{false≢true}
use Rattle.std.proofs.lemmas.List.Folds.{list_any-append}
use Rattle.ut_logic.specs.declared.item.Item.{Item}
use Rattle.ut_logic.specs.declared.item.Item.TheVariants as item
use Rattle.ut_logic.specs.declared.facts.Fact.{Fact}
use Rattle.ut_logic.specs.declared.formula.Formula.{Formula}
use Rattle.ut_logic.specs.Item.{item_eq}
use Rattle.ut_logic.specs.ItemIdentity.{item_eq-Decides}
use Rattle.ut_logic.specs.Assign.{is_in}
use Rattle.ut_logic.specs.Truth.{mentioned, together}
use Rattle.kconf_tree.specs.declared.shape.Counts.{Counts}
use Rattle.kconf_tree.specs.declared.shape.Counts.TheVariants as counts
use Rattle.kconf_tree.specs.Shape.{counts_as}
use Rattle.kconf_tree.specs.Valid.{choice_counts}
use Rattle.kconf_tree.proofs.Small.{is_off}
use Rattle.kconf_constr.specs.Scope.{Scope}
use Rattle.kconf_constr.specs.SymbolFormulas.{symbol_holds}
use Rattle.kconf_constr.specs.ChoiceFormulas.{choice_holds}
use Rattle.kconf_constr.specs.FactsOf.{own_items, mode_items, is_loose, loose_items, facts_of}
use Rattle.kconf_constr.specs.Closed.{ListsOuters}
use Rattle.kconf_constr.proofs.EachFact.{each_fact}

-- a loose item is among the loose ones exactly where it is among all
among_loose : (xs : List Item) (i : Item) → is_loose i ≡ true → is_in (filter is_loose xs) i ≡ is_in xs i
among_loose [] i l = refl
among_loose (x ∷ xs) i l = by (is_loose x) refl (item_eq x i) refl (among_loose xs i l)
  where
    by : (b : Bool) → is_loose x ≡ b → (e : Bool) → item_eq x i ≡ e → is_in (filter is_loose xs) i ≡ is_in xs i → is_in (cond b (x ∷ filter is_loose xs) (filter is_loose xs)) i ≡ (item_eq x i || is_in xs i)
    by true f e g more = ap (λ r. item_eq x i || r) more
    by false f true g more = absurd (false≢true (sym f ∙ (ap is_loose ((item_eq-Decides x i).0 g) ∙ l)))
    by false f false g more = more ∙ sym (ap (λ b. b || is_in xs i) g)

-- ---- a node's own items are no outer conditions

apart : (x : Item) (n : ℕ) → ¬ (x ≡ item.Outer n) → (xs : List Item) → is_in xs (item.Outer n) ≡ false → is_in (x ∷ xs) (item.Outer n) ≡ false
apart x n d xs h = ap (λ b. b || is_in xs (item.Outer n)) (is_off (item_eq x (item.Outer n)) (λ e. d ((item_eq-Decides x (item.Outer n)).0 e))) ∙ h

own_none : (kind : Counts) (k n : ℕ) → is_in (own_items kind k) (item.Outer n) ≡ false
own_none counts.Bool k n = apart (item.SymY k) n (λ e. cc) [] refl
own_none counts.Tristate k n = apart (item.SymY k) n (λ e. cc) (item.SymM k ∷ []) (apart (item.SymM k) n (λ e. cc) [] refl)
own_none counts.Neither k n = refl

mode_none : (kind : Counts) (i n : ℕ) → is_in (mode_items kind i) (item.Outer n) ≡ false
mode_none counts.Bool i n = apart (item.ModeY i) n (λ e. cc) [] refl
mode_none counts.Tristate i n = apart (item.ModeY i) n (λ e. cc) (item.ModeM i ∷ []) (apart (item.ModeM i) n (λ e. cc) [] refl)
mode_none counts.Neither i n = apart (item.ModeY i) n (λ e. cc) [] refl

-- ---- all items

listed : (own : List Item) (holds : List Formula) (n : ℕ) → is_in own (item.Outer n) ≡ false → is_in (own ++ loose_items holds) (item.Outer n) ≡ is_in (together (map mentioned holds)) (item.Outer n)
listed own holds n h = list_any-append (λ x. item_eq x (item.Outer n)) own (loose_items holds)
    ∙ (ap (λ b. b || is_in (loose_items holds) (item.Outer n)) h ∙ among_loose (together (map mentioned holds)) (item.Outer n) refl)

pub outers_of : (s : Scope) (facts : List Fact) → facts ≡ facts_of s → All ListsOuters facts
outers_of s facts is = subst (All ListsOuters) (sym is) (each_fact s ListsOuters
    (λ k l n. listed (own_items (counts_as s.shape k) k) (symbol_holds s k) n (own_none (counts_as s.shape k) k n))
    (λ i l n. listed (mode_items (choice_counts s.shape i) i) (choice_holds s i) n (mode_none (choice_counts s.shape i) i n)))
