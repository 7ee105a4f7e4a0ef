-- What holds of Yes, No and items, and of what is folded from formulas of which it holds, holds of each formula of a tree.
use Rattle.std.proofs.Common.{ℕ, Bool, true, false, cond, List, [], ◌∷◌, ◌++◌, map, All, subst, Option, None, Some}
use Rattle.std.specs.List.{flat_map, AllByRecursion}
use Rattle.std.proofs.lemmas.List.Elements.{All-from_recursion}
use Rattle.ut_logic.specs.declared.trit.Trit.{Trit}
use Rattle.ut_logic.specs.declared.trit.Trit.TheVariants.{N, M, Y}
use Rattle.ut_logic.specs.declared.item.Item.{Item}
use Rattle.ut_logic.specs.declared.item.Item.TheVariants.{SymY, SymM, ModeY, ModeM, Undeclared, Outer}
use Rattle.ut_logic.specs.declared.formula.Formula.{Formula}
use Rattle.ut_logic.specs.declared.formula.Formula.TheVariants.{Yes, No, Is}
use Rattle.ut_logic.specs.declared.facts.Fact.{Fact}
use Rattle.ut_logic.specs.Fold.{all_of, any_of, not_of}
use Rattle.kconf_entries.specs.declared.expr.Side.{Side}
use Rattle.kconf_entries.specs.declared.expr.Side.TheVariants as side
use Rattle.kconf_entries.specs.declared.expr.Sign.{Sign}
use Rattle.kconf_entries.specs.declared.expr.Sign.TheVariants as sign
use Rattle.kconf_entries.specs.declared.expr.Expr.{Expr}
use Rattle.kconf_entries.specs.declared.expr.Expr.TheOpen.{Expr-F}
use Rattle.kconf_entries.specs.declared.expr.Expr.TheViews.{roll-Expr}
use Rattle.kconf_entries.specs.declared.expr.Expr.TheFolds.{fold-roll-Expr, map-Expr, ind-Expr}
use Rattle.kconf_entries.specs.declared.entries.DefaultOf.{DefaultOf}
use Rattle.kconf_tree.specs.declared.shape.Counts.{Counts}
use Rattle.kconf_tree.specs.declared.shape.Counts.TheVariants as counts
use Rattle.kconf_tree.specs.declared.place.Place.{Place}
use Rattle.kconf_tree.specs.declared.place.Place.TheVariants.{Condition, Value}
use Rattle.kconf_tree.specs.Shape.{Selecting, symbol_at, choice_at, selectors_of, impliers_of, counts_as, is_member, number_of, outer_at}
use Rattle.kconf_tree.specs.Valid.{choice_counts}
use Rattle.kconf_tree.specs.Value.{Comparison, OfTrits, OfText, comparison_of}
use Rattle.kconf_constr.specs.declared.level.Level.{Level}
use Rattle.kconf_constr.specs.declared.level.Level.TheVariants.{NotN, IsY}
use Rattle.kconf_constr.specs.Scope.{Scope, number_among}
use Rattle.kconf_constr.specs.Levels.{Levels, both, levels, levels_step, at_level, value_levels, const_levels, own_levels, own_levels_as, named_levels, undeclared_formula, outer_formula, modules_formula, side_levels, same, both_y, both_n, both_m, compared, comparison_formula}
use Rattle.kconf_constr.specs.PropertyFormulas.{condition_at, greatest_levels, visibility_levels, selected_at, selecting_levels, is_passed, default_parts, first_levels, weakened, default_by}
use Rattle.kconf_constr.specs.SymbolFormulas.{Properties, properties_of, base_holds, one_holds, y_holds, holds_as, symbol_holds}
use Rattle.kconf_constr.specs.ChoiceFormulas.{lets_y_as, can_y, member_y_holds, m_holds_as, not_both, pairs, are_y, some_holds, choice_levels, bool_mode, one_mode, seen_modes, some_mode, tristate_mode, choice_holds_as, choice_holds}
use Rattle.kconf_constr.specs.FactsOf.{facts_of}
use Rattle.kconf_constr.proofs.EachFact.{each_fact}

-- it holds of Yes, No and items, and folding keeps it
pub record IsKept (P : Formula → Type 0) : Type 0 where
  pub yes : P Yes
  pub no : P No
  pub item : (i : Item) → P (Is i)
  pub all : (fs : List Formula) → AllByRecursion P fs → P (all_of fs)
  pub any : (fs : List Formula) → AllByRecursion P fs → P (any_of fs)
  pub neg : (f : Formula) → P f → P (not_of f)

module _ (P : Formula → Type 0) (keeps : IsKept P) where
  abbrev Each : List Formula → Type 0
  Each = AllByRecursion P

  append : (fs gs : List Formula) → Each fs → Each gs → Each (fs ++ gs)
  append [] gs a b = b
  append (f ∷ fs) gs a b = (a.0, append fs gs a.1 b)

  all_two : (f g : Formula) → P f → P g → P (all_of (f ∷ g ∷ []))
  all_two f g a b = keeps.all (f ∷ g ∷ []) (a, (b, tt))

  any_two : (f g : Formula) → P f → P g → P (any_of (f ∷ g ∷ []))
  any_two f g a b = keeps.any (f ∷ g ∷ []) (a, (b, tt))

  any_three : (f g h : Formula) → P f → P g → P h → P (any_of (f ∷ g ∷ h ∷ []))
  any_three f g h a b c = keeps.any (f ∷ g ∷ h ∷ []) (a, (b, (c, tt)))

  -- both formulas
  pub record AreMade (h : Levels) : Type 0 where
    pub not_n : P h.not_n
    pub is_y : P h.is_y

  pub made_at : (h : Level) (a : Levels) → AreMade a → P (at_level h a)
  made_at NotN a b = b.not_n
  made_at IsY a b = b.is_y

  twice : (f : Formula) → P f → AreMade (both f)
  twice f a = record { not_n = a; is_y = a }

  -- ---- names, constants and comparisons

  own_made : (kind : Counts) (j : ℕ) → AreMade (own_levels_as kind j)
  own_made counts.Bool j = twice (Is (SymY j)) (keeps.item (SymY j))
  own_made counts.Tristate j = record { not_n = any_two (Is (SymY j)) (Is (SymM j)) (keeps.item (SymY j)) (keeps.item (SymM j)); is_y = keeps.item (SymY j) }
  own_made counts.Neither j = twice No keeps.no

  undeclared_made : (o : Option ℕ) → P (undeclared_formula o)
  undeclared_made None = keeps.no
  undeclared_made (Some j) = keeps.item (Undeclared j)

  outer_made : (o : Option ℕ) → P (outer_formula o)
  outer_made None = keeps.no
  outer_made (Some j) = keeps.item (Outer j)

  modules_made : (o : Option ℕ) → P (modules_formula o)
  modules_made None = keeps.no
  modules_made (Some j) = keeps.item (SymY j)

  value_made : (x : Trit) → AreMade (value_levels x)
  value_made N = twice No keeps.no
  value_made M = record { not_n = keeps.yes; is_y = keeps.no }
  value_made Y = twice Yes keeps.yes

  module _ (s : Scope) where
    name_made : (name : List ℕ) (o : Option ℕ) → AreMade (named_levels s name o)
    name_made name None = twice (undeclared_formula (number_among s.undeclared name)) (undeclared_made (number_among s.undeclared name))
    name_made name (Some j) = own_made (counts_as s.shape j) j

    const_made : (p : Place) (x : Trit) → AreMade (const_levels s p x)
    const_made Value x = value_made x
    const_made Condition N = twice No keeps.no
    const_made Condition M = record { not_n = modules_made s.shape.modules; is_y = keeps.no }
    const_made Condition Y = twice Yes keeps.yes

    side_made : (d : Side) → AreMade (side_levels s d)
    side_made (side.Const x) = value_made x
    side_made (side.Name name) = name_made name (number_of s.shape name)
    side_made (side.Literal text) = twice No keeps.no
    side_made (side.Quoted text) = twice No keeps.no

    same_made : (a b : Levels) → AreMade a → AreMade b → P (same a b)
    same_made a b p q = any_three (both_y a b) (both_n a b) (both_m a b) (all_two a.is_y b.is_y p.is_y q.is_y)
        (all_two (not_of a.not_n) (not_of b.not_n) (keeps.neg a.not_n p.not_n) (keeps.neg b.not_n q.not_n))
        (keeps.all (a.not_n ∷ not_of a.is_y ∷ b.not_n ∷ not_of b.is_y ∷ []) (p.not_n, (keeps.neg a.is_y p.is_y, (q.not_n, (keeps.neg b.is_y q.is_y, tt)))))

    compared_made : (g : Sign) (f : Formula) → P f → P (compared g f)
    compared_made sign.Same f a = a
    compared_made sign.Differ f a = keeps.neg f a
    compared_made sign.Less f a = keeps.neg f a
    compared_made sign.More f a = keeps.neg f a
    compared_made sign.LessSame f a = keeps.neg f a
    compared_made sign.MoreSame f a = keeps.neg f a

    compare_made : (l r : Side) (g : Sign) (o : Comparison) → P (comparison_formula s l g r o)
    compare_made l r g OfTrits = compared_made g (same (side_levels s l) (side_levels s r)) (same_made (side_levels s l) (side_levels s r) (side_made l) (side_made r))
    compare_made l r g (OfText text) = outer_made (outer_at s.shape text)

    -- ---- expressions

    module _ (p : Place) where
      abbrev IsMade : Expr → Type 0
      IsMade e = AreMade (levels s p e)

      abbrev One : Type 0
      One = (e : Expr) × IsMade e

      lists_made : (h : Level) (es : List One) → Each (map (at_level h) (map (levels s p) (map (λ e. e.0) es)))
      lists_made h [] = tt
      lists_made h (e ∷ es) = (made_at h (levels s p e.0) e.1, lists_made h es)

      abbrev StepMade : Expr-F Expr → Type 0
      StepMade z = AreMade (levels_step s p (map-Expr Expr Levels (levels s p) z))

      step : (y : Expr-F One) → StepMade (map-Expr One Expr (λ e. e.0) y)
      step (Expr-F.Const x) = const_made p x
      step (Expr-F.Name name) = name_made name (number_of s.shape name)
      step (Expr-F.Outer text) = twice (outer_formula (outer_at s.shape text)) (outer_made (outer_at s.shape text))
      step (Expr-F.Compare left g right) = twice (comparison_formula s left g right (comparison_of s.shape left g right)) (compare_made left right g (comparison_of s.shape left g right))
      step (Expr-F.Neg e) = record { not_n = keeps.neg (levels s p e.0).is_y e.1.is_y; is_y = keeps.neg (levels s p e.0).not_n e.1.not_n }
      step (Expr-F.And es) = record { not_n = keeps.all (map (at_level NotN) (map (levels s p) (map (λ e. e.0) es))) (lists_made NotN es); is_y = keeps.all (map (at_level IsY) (map (levels s p) (map (λ e. e.0) es))) (lists_made IsY es) }
      step (Expr-F.Or es) = record { not_n = keeps.any (map (at_level NotN) (map (levels s p) (map (λ e. e.0) es))) (lists_made NotN es); is_y = keeps.any (map (at_level IsY) (map (levels s p) (map (λ e. e.0) es))) (lists_made IsY es) }

      rolled : (x : Expr-F Expr) → StepMade x → IsMade (roll-Expr x)
      rolled x h = rw (fold-roll-Expr Levels (levels_step s p) x) h

      pub expr_made : (e : Expr) → IsMade e
      expr_made = ind-Expr IsMade (λ x y is. rolled x (subst StepMade is (step y)))

    -- ---- properties

    conditions_made : (h : Level) (es : List Expr) → Each (map (at_level h) (map (levels s Condition) es))
    conditions_made h [] = tt
    conditions_made h (e ∷ es) = (made_at h (levels s Condition e) (expr_made Condition e), conditions_made h es)

    greatest_made : (es : List Expr) → AreMade (greatest_levels s es)
    greatest_made es = record { not_n = keeps.any (map (at_level NotN) (map (levels s Condition) es)) (conditions_made NotN es); is_y = keeps.any (map (at_level IsY) (map (levels s Condition) es)) (conditions_made IsY es) }

    condition_made : (h : Level) (e : Expr) → P (condition_at s h e)
    condition_made h e = made_at h (levels s Condition e) (expr_made Condition e)

    selects_made : (h : Level) (xs : List Selecting) → Each (map (selected_at s h) xs)
    selects_made h [] = tt
    selects_made h (x ∷ xs) = (all_two (at_level h (own_levels s x.by)) (condition_at s h x.cond) (made_at h (own_levels s x.by) (own_made (counts_as s.shape x.by) x.by)) (condition_made h x.cond), selects_made h xs)

    selecting_made : (xs : List Selecting) → AreMade (selecting_levels s xs)
    selecting_made xs = record { not_n = keeps.any (map (selected_at s NotN) xs) (selects_made NotN xs); is_y = keeps.any (map (selected_at s IsY) xs) (selects_made IsY xs) }

    parts_made : (h : Level) (passed : List Formula) (ds : List DefaultOf) → Each passed → Each (default_parts s h passed ds)
    parts_made h passed [] p = tt
    parts_made h passed (d ∷ ds) p = (
      keeps.all (passed ++ (condition_at s h d.cond ∷ at_level h (levels s Value d.value) ∷ [])) (append passed (condition_at s h d.cond ∷ at_level h (levels s Value d.value) ∷ []) p (condition_made h d.cond, (made_at h (levels s Value d.value) (expr_made Value d.value), tt))),
      parts_made h (passed ++ (is_passed s d ∷ [])) ds (append passed (is_passed s d ∷ []) p (keeps.neg (condition_at s NotN d.cond) (condition_made NotN d.cond), tt)),
    )

    first_made : (ds : List DefaultOf) → AreMade (first_levels s ds)
    first_made ds = record { not_n = keeps.any (default_parts s NotN [] ds) (parts_made NotN [] ds tt); is_y = keeps.any (default_parts s IsY [] ds) (parts_made IsY [] ds tt) }

    weakened_made : (a b d : Levels) → AreMade a → AreMade b → AreMade d → AreMade (weakened a b d)
    weakened_made a b d i p f = let off = keeps.neg a.not_n i.not_n in record {
      not_n = any_two (all_of (a.not_n ∷ b.not_n ∷ [])) (all_of (not_of a.not_n ∷ d.not_n ∷ [])) (all_two a.not_n b.not_n i.not_n p.not_n) (all_two (not_of a.not_n) d.not_n off f.not_n);
      is_y = any_two (all_of (a.not_n ∷ any_of (d.is_y ∷ a.is_y ∷ []) ∷ b.is_y ∷ [])) (all_of (not_of a.not_n ∷ d.is_y ∷ []))
          (keeps.all (a.not_n ∷ any_of (d.is_y ∷ a.is_y ∷ []) ∷ b.is_y ∷ []) (i.not_n, (any_two d.is_y a.is_y f.is_y i.is_y, (p.is_y, tt)))) (all_two (not_of a.not_n) d.is_y off f.is_y);
    }

    default_made : (k : ℕ) (xs : List Selecting) → AreMade (default_by s k xs)
    default_made k [] = first_made (symbol_at s.shape k).defaults
    default_made k (x ∷ xs) = weakened_made (selecting_levels s (x ∷ xs)) (greatest_levels s (symbol_at s.shape k).places) (first_levels s (symbol_at s.shape k).defaults)
        (selecting_made (x ∷ xs)) (greatest_made (symbol_at s.shape k).places) (first_made (symbol_at s.shape k).defaults)

    -- ---- symbols

    record ArePropertiesMade (l : Properties) : Type 0 where
      of_own : AreMade l.own
      of_vis : AreMade l.vis
      of_rev : AreMade l.rev
      of_def : AreMade l.def

    base_made : (l : Properties) → ArePropertiesMade l → Each (base_holds l)
    base_made l f = (
      any_two (not_of l.rev.not_n) l.own.not_n (keeps.neg l.rev.not_n f.of_rev.not_n) f.of_own.not_n,
      (
        keeps.any (not_of l.own.not_n ∷ l.vis.not_n ∷ l.def.not_n ∷ l.rev.not_n ∷ []) (keeps.neg l.own.not_n f.of_own.not_n, (f.of_vis.not_n, (f.of_def.not_n, (f.of_rev.not_n, tt)))),
        (any_three l.vis.not_n (not_of l.def.not_n) l.own.not_n f.of_vis.not_n (keeps.neg l.def.not_n f.of_def.not_n) f.of_own.not_n, tt),
      ),
    )

    y_made : (on : Formula) (k : ℕ) (l : Properties) → P on → ArePropertiesMade l → Each (y_holds on k l)
    y_made on k l m f = let y = keeps.item (SymY k) in (
      any_two (not_of l.rev.is_y) (Is (SymY k)) (keeps.neg l.rev.is_y f.of_rev.is_y) y,
      (
        keeps.any (not_of (Is (SymY k)) ∷ l.vis.is_y ∷ l.def.is_y ∷ l.rev.is_y ∷ not_of on ∷ []) (keeps.neg (Is (SymY k)) y, (f.of_vis.is_y, (f.of_def.is_y, (f.of_rev.is_y, (keeps.neg on m, tt))))),
        (any_three l.vis.not_n (not_of l.def.is_y) (Is (SymY k)) f.of_vis.not_n (keeps.neg l.def.is_y f.of_def.is_y) y, tt),
      ),
    )

    one_made : (on : Formula) (k : ℕ) → P on → Each (one_holds on k)
    one_made on k m = let not_y = keeps.neg (Is (SymY k)) (keeps.item (SymY k)) in let not_m = keeps.neg (Is (SymM k)) (keeps.item (SymM k)) in
        (any_two (not_of (Is (SymY k))) (not_of (Is (SymM k))) not_y not_m, (any_two (not_of (Is (SymM k))) on not_m m, tt))

    kind_made : (k : ℕ) (kind : Counts) (on : Formula) (l : Properties) → P on → ArePropertiesMade l → Each (holds_as kind on k l)
    kind_made k counts.Bool on l m f = base_made l f
    kind_made k counts.Tristate on l m f = append (one_holds on k ++ base_holds l) (y_holds on k l) (append (one_holds on k) (base_holds l) (one_made on k m) (base_made l f)) (y_made on k l m f)
    kind_made k counts.Neither on l m f = tt

    on_made : P (modules_formula s.shape.modules)
    on_made = modules_made s.shape.modules

    vis_made : (k : ℕ) → AreMade (visibility_levels s k)
    vis_made k = greatest_made (symbol_at s.shape k).prompts

    properties_made : (k : ℕ) → ArePropertiesMade (properties_of s k)
    properties_made k = record { of_own = own_made (counts_as s.shape k) k; of_vis = vis_made k; of_rev = selecting_made (selectors_of s.shape k); of_def = default_made k (impliers_of s.shape k) }

    symbol_made : (k : ℕ) → Each (symbol_holds s k)
    symbol_made k = by (is_member s.shape k) (kind_made k (counts_as s.shape k) (modules_formula s.shape.modules) (properties_of s k) on_made (properties_made k))
      where
        by : (b : Bool) → Each (holds_as (counts_as s.shape k) (modules_formula s.shape.modules) k (properties_of s k)) → Each (cond b [] (holds_as (counts_as s.shape k) (modules_formula s.shape.modules) k (properties_of s k)))
        by true d = tt
        by false d = d

    -- ---- choices

    lets_made : (kind : Counts) (on : Formula) (l : Levels) → P on → AreMade l → P (lets_y_as kind on l)
    lets_made counts.Bool on l m f = f.not_n
    lets_made counts.Tristate on l m f = any_two l.is_y (all_of (not_of on ∷ l.not_n ∷ [])) f.is_y (all_two (not_of on) l.not_n (keeps.neg on m) f.not_n)
    lets_made counts.Neither on l m f = f.not_n

    can_made : (j : ℕ) → P (can_y s j)
    can_made j = lets_made (counts_as s.shape j) (modules_formula s.shape.modules) (visibility_levels s j) on_made (vis_made j)

    not_y_made : (j : ℕ) → P (not_of (Is (SymY j)))
    not_y_made j = keeps.neg (Is (SymY j)) (keeps.item (SymY j))

    pairs_with_made : (j : ℕ) (js : List ℕ) → Each (map (not_both j) js)
    pairs_with_made j [] = tt
    pairs_with_made j (k ∷ js) = (any_two (not_of (Is (SymY j))) (not_of (Is (SymY k))) (not_y_made j) (not_y_made k), pairs_with_made j js)

    pairs_made : (js : List ℕ) → Each (pairs js)
    pairs_made [] = tt
    pairs_made (j ∷ js) = append (map (not_both j) js) (pairs js) (pairs_with_made j js) (pairs_made js)

    are_y_made : (js : List ℕ) → Each (are_y js)
    are_y_made [] = tt
    are_y_made (j ∷ js) = (keeps.item (SymY j), are_y_made js)

    members_y_made : (mode : Formula) (js : List ℕ) → P mode → Each (flat_map (member_y_holds s mode) js)
    members_y_made mode [] m = tt
    members_y_made mode (j ∷ js) m = append (member_y_holds s mode j) (flat_map (member_y_holds s mode) js)
        (any_two (not_of (Is (SymY j))) mode (not_y_made j) m, (any_two (not_of (Is (SymY j))) (can_y s j) (not_y_made j) (can_made j), tt)) (members_y_made mode js m)

    member_m_made : (mode : Formula) (kind : Counts) (j : ℕ) → P mode → Each (m_holds_as s mode kind j)
    member_m_made mode counts.Bool j m = tt
    member_m_made mode counts.Tristate j m = let not_m = keeps.neg (Is (SymM j)) (keeps.item (SymM j)) in
        (any_two (not_of (Is (SymM j))) mode not_m m, (any_two (not_of (Is (SymM j))) (visibility_levels s j).not_n not_m (vis_made j).not_n, tt))
    member_m_made mode counts.Neither j m = tt

    members_m_made : (mode : Formula) (js : List ℕ) → P mode → Each (flat_map (λ j. m_holds_as s mode (counts_as s.shape j) j) js)
    members_m_made mode [] m = tt
    members_m_made mode (j ∷ js) m = append (m_holds_as s mode (counts_as s.shape j) j) (flat_map (λ j. m_holds_as s mode (counts_as s.shape j) j) js) (member_m_made mode (counts_as s.shape j) j m) (members_m_made mode js m)

    some_made : (mode : Formula) (members js : List ℕ) → P mode → Each (map (some_holds s mode members) js)
    some_made mode members [] m = tt
    some_made mode members (j ∷ js) m = (keeps.any (not_of mode ∷ not_of (can_y s j) ∷ are_y members) (keeps.neg mode m, (keeps.neg (can_y s j) (can_made j), are_y_made members)), some_made mode members js m)

    bool_mode_made : (optional : Bool) (y : Formula) (vis : Levels) → P y → AreMade vis → Each (bool_mode optional y vis)
    bool_mode_made true y vis a f = (any_two (not_of y) vis.not_n (keeps.neg y a) f.not_n, tt)
    bool_mode_made false y vis a f = (any_two (not_of y) vis.not_n (keeps.neg y a) f.not_n, (any_two (not_of vis.not_n) y (keeps.neg vis.not_n f.not_n) a, tt))

    some_mode_made : (optional : Bool) (y m : Formula) (vis : Levels) → P y → P m → AreMade vis → Each (some_mode optional y m vis)
    some_mode_made true y m vis a b f = tt
    some_mode_made false y m vis a b f = (any_three (not_of vis.not_n) y m (keeps.neg vis.not_n f.not_n) a b, tt)

    tristate_mode_made : (optional : Bool) (y m on : Formula) (vis : Levels) → P y → P m → P on → AreMade vis → Each (tristate_mode optional y m on vis)
    tristate_mode_made optional y m on vis a b o f = append (one_mode y m on ++ seen_modes y m on vis) (some_mode optional y m vis)
        (append (one_mode y m on) (seen_modes y m on vis)
        (any_two (not_of y) (not_of m) (keeps.neg y a) (keeps.neg m b), (any_two (not_of m) on (keeps.neg m b) o, tt))
        (any_two (not_of y) vis.not_n (keeps.neg y a) f.not_n, (any_three (not_of y) vis.is_y (not_of on) (keeps.neg y a) f.is_y (keeps.neg on o), (any_two (not_of m) vis.not_n (keeps.neg m b) f.not_n, tt))))
        (some_mode_made optional y m vis a b f)

    module _ (i : ℕ) (members : List ℕ) where
      abbrev y : Formula
      y = Is (ModeY i)

      abbrev m : Formula
      m = Is (ModeM i)

      choice_vis : AreMade (choice_levels s i)
      choice_vis = greatest_made (choice_at s.shape i).prompts

      bool_made : Each (choice_holds_as s counts.Bool i members)
      bool_made = let modes : List Formula = bool_mode (choice_at s.shape i).optional y (choice_levels s i) in let of_y : List Formula = flat_map (member_y_holds s y) members in
          append ((modes ++ of_y) ++ pairs members) (map (some_holds s y members) members)
          (append (modes ++ of_y) (pairs members) (append modes of_y (bool_mode_made (choice_at s.shape i).optional y (choice_levels s i) (keeps.item (ModeY i)) choice_vis) (members_y_made y members (keeps.item (ModeY i)))) (pairs_made members))
          (some_made y members members (keeps.item (ModeY i)))

      tristate_made : Each (choice_holds_as s counts.Tristate i members)
      tristate_made = let modes : List Formula = tristate_mode (choice_at s.shape i).optional y m (modules_formula s.shape.modules) (choice_levels s i) in
          let of_y : List Formula = flat_map (member_y_holds s y) members in let of_m : List Formula = flat_map (λ j. m_holds_as s m (counts_as s.shape j) j) members in
          append (((modes ++ of_y) ++ of_m) ++ pairs members) (map (some_holds s y members) members)
          (append ((modes ++ of_y) ++ of_m) (pairs members)
          (append (modes ++ of_y) of_m
          (append modes of_y (tristate_mode_made (choice_at s.shape i).optional y m (modules_formula s.shape.modules) (choice_levels s i) (keeps.item (ModeY i)) (keeps.item (ModeM i)) on_made choice_vis) (members_y_made y members (keeps.item (ModeY i))))
          (members_m_made m members (keeps.item (ModeM i)))) (pairs_made members)) (some_made y members members (keeps.item (ModeY i)))

      kinds_made : (kind : Counts) → Each (choice_holds_as s kind i members)
      kinds_made counts.Bool = bool_made
      kinds_made counts.Tristate = tristate_made
      kinds_made counts.Neither = bool_made

    choice_made : (i : ℕ) → Each (choice_holds s i)
    choice_made i = kinds_made i (choice_at s.shape i).members (choice_counts s.shape i)

    pub facts_made : All (λ (fact : Fact). All P fact.holds) (facts_of s)
    facts_made = each_fact s (λ (fact : Fact). All P fact.holds) (λ k l. All-from_recursion P (symbol_holds s k) (symbol_made k)) (λ i l. All-from_recursion P (choice_holds s i) (choice_made i))
