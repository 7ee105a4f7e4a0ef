-- The formulas of expressions mention the items of the symbols that these ask for, and loose items.
use Rattle.std.proofs.Common.{◌≡◌, ℕ, ◌<◌, Bool, true, false, ◌||◌, List, [], ◌∷◌, ◌++◌, map, length, refl, ap, sym, subst, ◌∙◌, Option, None, Some, inl, inr}
use Rattle.std.proofs.lemmas.Bool.{false≢true}
use Rattle.std.specs.List.{AllByRecursion, flat_map}
use Rattle.std.specs.Option.{option_to_list}
use Rattle.std.proofs.lemmas.List.Folds.{list_any-append}
use Rattle.ut_logic.specs.declared.trit.Trit.{Trit}
use Rattle.ut_logic.specs.declared.trit.Trit.TheVariants.{N, M, Y}
use Rattle.ut_logic.specs.declared.item.Item.{Item}
use Rattle.ut_logic.specs.declared.item.Item.TheVariants as item
use Rattle.ut_logic.specs.declared.formula.Formula.{Formula}
use Rattle.ut_logic.specs.declared.formula.Formula.TheVariants.{Yes, No, Is}
use Rattle.ut_logic.specs.Item.{item_eq}
use Rattle.ut_logic.specs.ItemIdentity.{item_eq-Decides}
use Rattle.ut_logic.specs.Assign.{is_in}
use Rattle.ut_logic.specs.Fold.{all_of, any_of, not_of}
use Rattle.ut_logic.specs.Truth.{mentioned, together}
use Rattle.ut_logic.proofs.MentionLaws.{mentioned-Yes, mentioned-No, mentioned-Is, mentioned-all_of, mentioned-any_of, mentioned-not_of}
use Rattle.kconf_entries.specs.declared.expr.Side.{Side}
use Rattle.kconf_entries.specs.declared.expr.Side.TheVariants as side
use Rattle.kconf_entries.specs.declared.expr.Sign.{Sign}
use Rattle.kconf_entries.specs.declared.expr.Sign.TheVariants as sign
use Rattle.kconf_entries.specs.declared.expr.Expr.{Expr}
use Rattle.kconf_entries.specs.declared.expr.Expr.TheOpen.{Expr-F}
use Rattle.kconf_entries.specs.declared.expr.Expr.TheViews.{roll-Expr}
use Rattle.kconf_entries.specs.declared.expr.Expr.TheFolds.{fold-roll-Expr, map-Expr, ind-Expr}
use Rattle.kconf_tree.specs.declared.shape.Counts.{Counts}
use Rattle.kconf_tree.specs.declared.shape.Counts.TheVariants as counts
use Rattle.kconf_tree.specs.declared.place.Place.{Place}
use Rattle.kconf_tree.specs.declared.place.Place.TheVariants.{Condition, Value}
use Rattle.kconf_tree.specs.Shape.{number_of, outer_at, counts_as}
use Rattle.kconf_tree.specs.Value.{Comparison, OfTrits, OfText, comparison_of}
use Rattle.kconf_tree.specs.Valid.{choice_counts}
use Rattle.ut_text.specs.Text.{text_eq}
use Rattle.std.proofs.lemmas.List.Quantifiers.{position-Some}
use Rattle.kconf_tree.specs.References.{numbers_in, numbers_step, side_numbers, compared_numbers, const_numbers}
use Rattle.kconf_tree.proofs.Small.{or_cases}
use Rattle.kconf_constr.specs.declared.level.Level.{Level}
use Rattle.kconf_constr.specs.declared.level.Level.TheVariants.{NotN, IsY}
use Rattle.kconf_constr.specs.Scope.{Scope, number_among}
use Rattle.kconf_constr.specs.Levels.{Levels, both, levels, levels_step, at_level, value_levels, const_levels, own_levels_as, named_levels, undeclared_formula, outer_formula, modules_formula, side_levels, same, compared, comparison_formula}
use Rattle.kconf_constr.specs.Closed.{IsTrit}
use Rattle.kconf_constr.proofs.ValueLaws.{counts_modules}
use Rattle.kconf_constr.proofs.Lists.{front, back}

-- an item that fits, of a symbol or a choice that passes where it is one of these
abbrev pub IsFineItem : Scope → (ℕ → Type 0) → (ℕ → Type 0) → Item → Type 0
IsFineItem s Q R (item.SymY k) = IsTrit (counts_as s.shape k) × Q k
IsFineItem s Q R (item.SymM k) = (counts_as s.shape k ≡ counts.Tristate) × Q k
IsFineItem s Q R (item.Undeclared k) = k < length s.undeclared
IsFineItem s Q R (item.ModeY i) = R i
IsFineItem s Q R (item.ModeM i) = (choice_counts s.shape i ≡ counts.Tristate) × R i
IsFineItem s Q R (item.Outer k) = k < length s.shape.outers
IsFineItem s Q R (item.Same sym k) = ⊥
IsFineItem s Q R (item.Below sym k) = ⊥
IsFineItem s Q R (item.StartD file name) = ⊥
IsFineItem s Q R (item.StartT file name) = ⊥
IsFineItem s Q R (item.Truth file name) = ⊥
IsFineItem s Q R (item.Piece file piece) = ⊥
IsFineItem s Q R (item.Line file line) = ⊥
IsFineItem s Q R (item.Block file block) = ⊥
IsFineItem s Q R (item.StateD file name turn) = ⊥
IsFineItem s Q R (item.StateT file name turn) = ⊥

second_true : (b : Bool) → (b || true) ≡ true
second_true true = refl
second_true false = refl

module _ (s : Scope) (Q R : ℕ → Type 0) where
  -- the formula mentions such items alone
  abbrev pub Fine : Formula → Type 0
  Fine f = (i : Item) → is_in (mentioned f) i ≡ true → IsFineItem s Q R i

  abbrev pub AllFine : List Formula → Type 0
  AllFine fs = (i : Item) → is_in (together (map mentioned fs)) i ≡ true → IsFineItem s Q R i

  mentions_none : (f : Formula) → mentioned f ≡ [] → Fine f
  mentions_none f e i h = absurd (false≢true (sym (ap (λ xs. is_in xs i) e) ∙ h))

  pub fine_yes : Fine Yes
  fine_yes = mentions_none Yes mentioned-Yes

  pub fine_no : Fine No
  fine_no = mentions_none No mentioned-No

  pub fine_item : (x : Item) → IsFineItem s Q R x → Fine (Is x)
  fine_item x ok i h = subst (IsFineItem s Q R) ((item_eq-Decides x i).0 (alone (item_eq x i) (sym (ap (λ xs. is_in xs i) (mentioned-Is x)) ∙ h))) ok
    where
      alone : (b : Bool) → (b || false) ≡ true → b ≡ true
      alone true h = refl
      alone false h = h

  pub fine_nil : AllFine []
  fine_nil i h = absurd (false≢true h)

  joined_fine : (xs ys : List Item) → ((i : Item) → is_in xs i ≡ true → IsFineItem s Q R i) → ((i : Item) → is_in ys i ≡ true → IsFineItem s Q R i) → (i : Item) → is_in (xs ++ ys) i ≡ true → IsFineItem s Q R i
  joined_fine xs ys a b i h = elim (or_cases (is_in xs i) (is_in ys i) (sym (list_any-append (λ x. item_eq x i) xs ys) ∙ h)) [
    | inl g ↦ a i g
    | inr g ↦ b i g
  ]

  pub fine_cons : (f : Formula) (fs : List Formula) → Fine f → AllFine fs → AllFine (f ∷ fs)
  fine_cons f fs a b = joined_fine (mentioned f) (together (map mentioned fs)) a b

  fine_head : (f : Formula) (fs : List Formula) → AllFine (f ∷ fs) → Fine f
  fine_head f fs a i h = a i (list_any-append (λ x. item_eq x i) (mentioned f) (together (map mentioned fs)) ∙ ap (λ b. b || is_in (together (map mentioned fs)) i) h)

  fine_tail : (f : Formula) (fs : List Formula) → AllFine (f ∷ fs) → AllFine fs
  fine_tail f fs a i h = a i (list_any-append (λ x. item_eq x i) (mentioned f) (together (map mentioned fs)) ∙ (ap (λ b. is_in (mentioned f) i || b) h ∙ second_true (is_in (mentioned f) i)))

  pub fine_append : (fs gs : List Formula) → AllFine fs → AllFine gs → AllFine (fs ++ gs)
  fine_append [] gs a b = b
  fine_append (f ∷ fs) gs a b = fine_cons f (fs ++ gs) (fine_head f fs a) (fine_append fs gs (fine_tail f fs a) b)

  pub fine_all : (fs : List Formula) → AllFine fs → Fine (all_of fs)
  fine_all fs a i h = a i (mentioned-all_of fs i h)

  pub fine_any : (fs : List Formula) → AllFine fs → Fine (any_of fs)
  fine_any fs a i h = a i (mentioned-any_of fs i h)

  pub fine_not : (f : Formula) → Fine f → Fine (not_of f)
  fine_not f a i h = a i (sym (ap (λ xs. is_in xs i) (mentioned-not_of f)) ∙ h)

  pub fine_one : (f : Formula) → Fine f → AllFine (f ∷ [])
  fine_one f a = fine_cons f [] a fine_nil

  pub fine_two : (f g : Formula) → Fine f → Fine g → AllFine (f ∷ g ∷ [])
  fine_two f g a b = fine_cons f (g ∷ []) a (fine_one g b)

  -- both formulas
  pub record BothFine (h : Levels) : Type 0 where
    pub not_n : Fine h.not_n
    pub is_y : Fine h.is_y

  pub fine_at : (h : Level) (a : Levels) → BothFine a → Fine (at_level h a)
  fine_at NotN a b = b.not_n
  fine_at IsY a b = b.is_y

  pub fine_both : (f : Formula) → Fine f → BothFine (both f)
  fine_both f a = record { not_n = a; is_y = a }

  both_no : BothFine (both No)
  both_no = fine_both No fine_no

  both_yes : BothFine (both Yes)
  both_yes = fine_both Yes fine_yes

  -- ---- names and constants

  pub own_fine : (k : ℕ) (kind : Counts) → counts_as s.shape k ≡ kind → Q k → BothFine (own_levels_as kind k)
  own_fine k counts.Bool e q = fine_both (Is (item.SymY k)) (fine_item (item.SymY k) (subst IsTrit (sym e) tt, q))
  own_fine k counts.Tristate e q = record {
    not_n = fine_any (Is (item.SymY k) ∷ Is (item.SymM k) ∷ []) (fine_two (Is (item.SymY k)) (Is (item.SymM k)) (fine_item (item.SymY k) (subst IsTrit (sym e) tt, q)) (fine_item (item.SymM k) (e, q)));
    is_y = fine_item (item.SymY k) (subst IsTrit (sym e) tt, q);
  }
  own_fine k counts.Neither e q = both_no

  undeclared_fine : (name : List ℕ) → Fine (undeclared_formula (number_among s.undeclared name))
  undeclared_fine name = by (number_among s.undeclared name) refl
    where
      by : (o : Option ℕ) → number_among s.undeclared name ≡ o → Fine (undeclared_formula o)
      by None e = fine_no
      by (Some k) e = fine_item (item.Undeclared k) (position-Some (λ n. text_eq n name) s.undeclared k [] e).0

  outer_fine : (text : List ℕ) → Fine (outer_formula (outer_at s.shape text))
  outer_fine text = by (outer_at s.shape text) refl
    where
      by : (o : Option ℕ) → outer_at s.shape text ≡ o → Fine (outer_formula o)
      by None e = fine_no
      by (Some k) e = fine_item (item.Outer k) (position-Some (λ o. text_eq o text) s.shape.outers k [] e).0

  pub modules_fine : AllByRecursion Q (option_to_list s.shape.modules) → Fine (modules_formula s.shape.modules)
  modules_fine h = by s.shape.modules refl h
    where
      by : (o : Option ℕ) → s.shape.modules ≡ o → AllByRecursion Q (option_to_list o) → Fine (modules_formula o)
      by None e g = fine_no
      by (Some k) e g = fine_item (item.SymY k) (subst IsTrit (sym (counts_modules s.shape k e)) tt, g.0)

  value_fine : (x : Trit) → BothFine (value_levels x)
  value_fine N = both_no
  value_fine M = record { not_n = fine_yes; is_y = fine_no }
  value_fine Y = both_yes

  same_fine : (a b : Levels) → BothFine a → BothFine b → Fine (same a b)
  same_fine a b p q = let y : Formula = all_of (a.is_y ∷ b.is_y ∷ []) in let n : Formula = all_of (not_of a.not_n ∷ not_of b.not_n ∷ []) in
      let m : Formula = all_of (a.not_n ∷ not_of a.is_y ∷ b.not_n ∷ not_of b.is_y ∷ []) in
      fine_any (y ∷ n ∷ m ∷ []) (fine_cons y (n ∷ m ∷ []) (fine_all (a.is_y ∷ b.is_y ∷ []) (fine_two a.is_y b.is_y p.is_y q.is_y))
      (fine_two n m (fine_all (not_of a.not_n ∷ not_of b.not_n ∷ []) (fine_two (not_of a.not_n) (not_of b.not_n) (fine_not a.not_n p.not_n) (fine_not b.not_n q.not_n)))
      (fine_all (a.not_n ∷ not_of a.is_y ∷ b.not_n ∷ not_of b.is_y ∷ []) (fine_cons a.not_n (not_of a.is_y ∷ b.not_n ∷ not_of b.is_y ∷ []) p.not_n
      (fine_cons (not_of a.is_y) (b.not_n ∷ not_of b.is_y ∷ []) (fine_not a.is_y p.is_y) (fine_two b.not_n (not_of b.is_y) q.not_n (fine_not b.is_y q.is_y)))))))

  compared_fine : (g : Sign) (f : Formula) → Fine f → Fine (compared g f)
  compared_fine sign.Same f a = a
  compared_fine sign.Differ f a = fine_not f a
  compared_fine sign.Less f a = fine_not f a
  compared_fine sign.More f a = fine_not f a
  compared_fine sign.LessSame f a = fine_not f a
  compared_fine sign.MoreSame f a = fine_not f a

  -- ---- expressions

  name_fine : (name : List ℕ) (o : Option ℕ) → AllByRecursion Q (option_to_list o) → BothFine (named_levels s name o)
  name_fine name None h = fine_both (undeclared_formula (number_among s.undeclared name)) (undeclared_fine name)
  name_fine name (Some k) h = own_fine k (counts_as s.shape k) refl h.0

  const_fine : (p : Place) (x : Trit) → AllByRecursion Q (const_numbers s.shape p x) → BothFine (const_levels s p x)
  const_fine Value x h = value_fine x
  const_fine Condition N h = both_no
  const_fine Condition M h = record { not_n = modules_fine h; is_y = fine_no }
  const_fine Condition Y h = both_yes

  side_fine : (d : Side) → AllByRecursion Q (side_numbers s.shape d) → BothFine (side_levels s d)
  side_fine (side.Const x) h = value_fine x
  side_fine (side.Name name) h = name_fine name (number_of s.shape name) h
  side_fine (side.Literal text) h = both_no
  side_fine (side.Quoted text) h = both_no

  compare_fine : (l r : Side) (g : Sign) (o : Comparison) → AllByRecursion Q (compared_numbers s.shape l r o) → Fine (comparison_formula s l g r o)
  compare_fine l r g OfTrits h = compared_fine g (same (side_levels s l) (side_levels s r)) (same_fine (side_levels s l) (side_levels s r)
      (side_fine l (front Q (side_numbers s.shape l) (side_numbers s.shape r) h)) (side_fine r (back Q (side_numbers s.shape l) (side_numbers s.shape r) h)))
  compare_fine l r g (OfText text) h = outer_fine text

  module _ (p : Place) where
    abbrev pub IsFine : Expr → Type 0
    IsFine e = AllByRecursion Q (numbers_in s.shape p e) → BothFine (levels s p e)

    abbrev Each : Type 0
    Each = (e : Expr) × IsFine e

    lists_fine : (h : Level) (es : List Each) → AllByRecursion Q (flat_map (λ ks. ks) (map (numbers_in s.shape p) (map (λ e. e.0) es))) → AllFine (map (at_level h) (map (levels s p) (map (λ e. e.0) es)))
    lists_fine h [] a = fine_nil
    lists_fine h (e ∷ es) a = fine_cons (at_level h (levels s p e.0)) (map (at_level h) (map (levels s p) (map (λ e. e.0) es)))
        (fine_at h (levels s p e.0) (e.1 (front Q (numbers_in s.shape p e.0) (flat_map (λ ks. ks) (map (numbers_in s.shape p) (map (λ e. e.0) es))) a)))
        (lists_fine h es (back Q (numbers_in s.shape p e.0) (flat_map (λ ks. ks) (map (numbers_in s.shape p) (map (λ e. e.0) es))) a))

    abbrev StepFine : Expr-F Expr → Type 0
    StepFine z = AllByRecursion Q (numbers_step s.shape p (map-Expr Expr (List ℕ) (numbers_in s.shape p) z)) → BothFine (levels_step s p (map-Expr Expr Levels (levels s p) z))

    step : (y : Expr-F Each) → StepFine (map-Expr Each Expr (λ e. e.0) y)
    step (Expr-F.Const x) a = const_fine p x a
    step (Expr-F.Name name) a = name_fine name (number_of s.shape name) a
    step (Expr-F.Outer text) a = fine_both (outer_formula (outer_at s.shape text)) (outer_fine text)
    step (Expr-F.Compare left g right) a = fine_both (comparison_formula s left g right (comparison_of s.shape left g right)) (compare_fine left right g (comparison_of s.shape left g right) a)
    step (Expr-F.Neg e) a = let b = e.1 a in record { not_n = fine_not (levels s p e.0).is_y b.is_y; is_y = fine_not (levels s p e.0).not_n b.not_n }
    step (Expr-F.And es) a = record { not_n = fine_all (map (at_level NotN) (map (levels s p) (map (λ e. e.0) es))) (lists_fine NotN es a); is_y = fine_all (map (at_level IsY) (map (levels s p) (map (λ e. e.0) es))) (lists_fine IsY es a) }
    step (Expr-F.Or es) a = record { not_n = fine_any (map (at_level NotN) (map (levels s p) (map (λ e. e.0) es))) (lists_fine NotN es a); is_y = fine_any (map (at_level IsY) (map (levels s p) (map (λ e. e.0) es))) (lists_fine IsY es a) }

    rolled : (x : Expr-F Expr) → StepFine x → IsFine (roll-Expr x)
    rolled x h = rw (fold-roll-Expr Levels (levels_step s p) x, fold-roll-Expr (List ℕ) (numbers_step s.shape p) x) h

    pub expr_fine : (e : Expr) → IsFine e
    expr_fine = ind-Expr IsFine (λ x y is. rolled x (subst StepFine is (step y)))
