-- The formulas that hold for a node are at most thirteen deeper than the tree's expressions are nested.
use Rattle.std.proofs.Common.{◌≡◌, ℕ, ◌+◌, ◌≤◌, Bool, true, false, cond, List, [], ◌∷◌, ◌++◌, map, All, subst, sym, ap, ◌∙◌, arith}
use Rattle.std.specs.List.{flat_map, AllByRecursion}
use Rattle.std.proofs.lemmas.List.Elements.{All-from_recursion, recursion_from_All}
use Rattle.ut_logic.specs.declared.item.Item.TheVariants.{SymY, SymM, ModeY, ModeM}
use Rattle.ut_logic.specs.declared.formula.Formula.{Formula}
use Rattle.ut_logic.specs.declared.formula.Formula.TheVariants.{Is}
use Rattle.ut_logic.specs.declared.facts.Fact.{Fact}
use Rattle.ut_logic.specs.Fold.{all_of, any_of, not_of}
use Rattle.kconf_entries.specs.declared.expr.Expr.{Expr}
use Rattle.kconf_entries.specs.declared.entries.DefaultOf.{DefaultOf}
use Rattle.kconf_tree.specs.declared.shape.Counts.{Counts}
use Rattle.kconf_tree.specs.declared.shape.Counts.TheVariants as counts
use Rattle.kconf_tree.specs.declared.place.Place.TheVariants.{Condition, Value}
use Rattle.kconf_tree.specs.Shape.{Selecting, symbol_at, choice_at, selectors_of, impliers_of, counts_as, is_member}
use Rattle.kconf_tree.specs.Valid.{choice_counts}
use Rattle.kconf_tree.specs.Value.{greatest}
use Rattle.kconf_constr.specs.declared.level.Level.{Level}
use Rattle.kconf_constr.specs.declared.level.Level.TheVariants.{NotN, IsY}
use Rattle.kconf_constr.specs.Scope.{Scope}
use Rattle.kconf_constr.specs.Levels.{Levels, levels, at_level, own_levels, modules_formula}
use Rattle.kconf_constr.specs.PropertyFormulas.{condition_at, greatest_levels, visibility_levels, selected_at, selecting_levels, is_passed, default_part, default_parts, first_levels, weakened, default_by}
use Rattle.kconf_constr.specs.SymbolFormulas.{Properties, properties_of, raised, allowed, kept, base_holds, one_holds, y_raised, y_allowed, y_kept, y_holds, holds_as, symbol_holds}
use Rattle.kconf_constr.specs.ChoiceFormulas.{lets_y_as, can_y, member_y_holds, m_holds_as, not_both, pairs, are_y, some_holds, choice_levels, bool_mode, one_mode, seen_modes, some_mode, tristate_mode, choice_holds_as, choice_holds}
use Rattle.kconf_constr.specs.FactsOf.{facts_of}
use Rattle.kconf_constr.specs.Depth.{depth, nesting, IsNested, IsNestedDefault, IsNestedSelecting, AreNested, IsShallowFact, AreShallow}
use Rattle.kconf_constr.proofs.DepthLaws.{AreDeep, depth-Is, all_deep, any_deep, not_deep, deep_at, own_deep, modules_deep, expr_deep}
use Rattle.kconf_constr.proofs.EachFact.{each_fact}

-- the formulas are at most so deep
abbrev AllDeep : ℕ → List Formula → Type 0
AllDeep m fs = greatest (map depth fs) ≤ m

deep_append : (m : ℕ) (fs gs : List Formula) → AllDeep m fs → AllDeep m gs → AllDeep m (fs ++ gs)
deep_append m [] gs a b = b
deep_append m (f ∷ fs) gs a b = omega (arith, a, deep_append m fs gs (omega (arith, a)) b)

each_deep : (m : ℕ) (fs : List Formula) → AllDeep m fs → AllByRecursion (λ f. depth f ≤ m) fs
each_deep m [] a = tt
each_deep m (f ∷ fs) a = (omega (arith, a), each_deep m fs (omega (arith, a)))

wider : (m k : ℕ) (fs : List Formula) → m ≤ k → AllDeep m fs → AllDeep k fs
wider m k fs l a = omega (arith, l, a)

module _ (s : Scope) (n : ℕ) where
  -- ---- properties

  levels_deep : (h : Level) (es : List Expr) → AllByRecursion (IsNested n) es → AllDeep (n + 5) (map (at_level h) (map (levels s Condition) es))
  levels_deep h [] a = omega arith
  levels_deep h (e ∷ es) a = omega (arith, deep_at (nesting e + 5) h (levels s Condition e) (expr_deep s Condition e), a.0, levels_deep h es a.1)

  greatest_deep : (es : List Expr) → AllByRecursion (IsNested n) es → AreDeep (n + 6) (greatest_levels s es)
  greatest_deep es a = record {
    not_n = omega (arith, any_deep (map (at_level NotN) (map (levels s Condition) es)), levels_deep NotN es a);
    is_y = omega (arith, any_deep (map (at_level IsY) (map (levels s Condition) es)), levels_deep IsY es a);
  }

  condition_deep : (h : Level) (e : Expr) → IsNested n e → depth (condition_at s h e) ≤ n + 5
  condition_deep h e a = omega (arith, deep_at (nesting e + 5) h (levels s Condition e) (expr_deep s Condition e), a)

  selects_deep : (h : Level) (xs : List Selecting) → AllByRecursion (IsNestedSelecting n) xs → AllDeep (n + 6) (map (selected_at s h) xs)
  selects_deep h [] a = omega arith
  selects_deep h (x ∷ xs) a = omega (arith, all_deep (at_level h (own_levels s x.by) ∷ condition_at s h x.cond ∷ []), deep_at 1 h (own_levels s x.by) (own_deep (counts_as s.shape x.by) x.by), condition_deep h x.cond a.0, selects_deep h xs a.1)

  selecting_deep : (xs : List Selecting) → AllByRecursion (IsNestedSelecting n) xs → AreDeep (n + 7) (selecting_levels s xs)
  selecting_deep xs a = record {
    not_n = omega (arith, any_deep (map (selected_at s NotN) xs), selects_deep NotN xs a);
    is_y = omega (arith, any_deep (map (selected_at s IsY) xs), selects_deep IsY xs a);
  }

  parts_deep : (h : Level) (passed : List Formula) (ds : List DefaultOf) → AllDeep (n + 6) passed → AllByRecursion (IsNestedDefault n) ds → AllDeep (n + 7) (default_parts s h passed ds)
  parts_deep h passed [] p a = omega arith
  parts_deep h passed (d ∷ ds) p a = omega (arith, here, parts_deep h (passed ++ (is_passed s d ∷ [])) ds (deep_append (n + 6) passed (is_passed s d ∷ []) p (omega (arith, not_deep (condition_at s NotN d.cond), condition_deep NotN d.cond a.0.0))) a.1)
    where
      value : depth (at_level h (levels s Value d.value)) ≤ n + 5
      value = omega (arith, deep_at (nesting d.value + 5) h (levels s Value d.value) (expr_deep s Value d.value), a.0.1)

      both : AllDeep (n + 6) (condition_at s h d.cond ∷ at_level h (levels s Value d.value) ∷ [])
      both = omega (arith, condition_deep h d.cond a.0.0, value)

      here : depth (default_part s h passed d) ≤ n + 7
      here = omega (arith, all_deep (passed ++ (condition_at s h d.cond ∷ at_level h (levels s Value d.value) ∷ [])), deep_append (n + 6) passed (condition_at s h d.cond ∷ at_level h (levels s Value d.value) ∷ []) p both)

  first_deep : (ds : List DefaultOf) → AllByRecursion (IsNestedDefault n) ds → AreDeep (n + 8) (first_levels s ds)
  first_deep ds a = record {
    not_n = omega (arith, any_deep (default_parts s NotN [] ds), parts_deep NotN [] ds (omega arith) a);
    is_y = omega (arith, any_deep (default_parts s IsY [] ds), parts_deep IsY [] ds (omega arith) a);
  }

  weakened_deep : (a b d : Levels) → AreDeep (n + 7) a → AreDeep (n + 6) b → AreDeep (n + 8) d → AreDeep (n + 11) (weakened a b d)
  weakened_deep a b d i p f = record {
    not_n = omega (arith, any_deep (all_of (a.not_n ∷ b.not_n ∷ []) ∷ all_of (not_of a.not_n ∷ d.not_n ∷ []) ∷ []), all_deep (a.not_n ∷ b.not_n ∷ []), all_deep (not_of a.not_n ∷ d.not_n ∷ []), not_deep a.not_n, i.not_n, p.not_n, f.not_n);
    is_y = omega (arith, any_deep (all_of (a.not_n ∷ any_of (d.is_y ∷ a.is_y ∷ []) ∷ b.is_y ∷ []) ∷ all_of (not_of a.not_n ∷ d.is_y ∷ []) ∷ []), all_deep (a.not_n ∷ any_of (d.is_y ∷ a.is_y ∷ []) ∷ b.is_y ∷ []), any_deep (d.is_y ∷ a.is_y ∷ []), all_deep (not_of a.not_n ∷ d.is_y ∷ []), not_deep a.not_n, i.not_n, i.is_y, p.is_y, f.is_y);
  }

  default_deep : (k : ℕ) (xs : List Selecting) → AllByRecursion (IsNestedSelecting n) xs → AllByRecursion (IsNested n) (symbol_at s.shape k).places → AllByRecursion (IsNestedDefault n) (symbol_at s.shape k).defaults → AreDeep (n + 11) (default_by s k xs)
  default_deep k [] a p d = let f = first_deep (symbol_at s.shape k).defaults d in record { not_n = omega (arith, f.not_n); is_y = omega (arith, f.is_y) }
  default_deep k (x ∷ xs) a p d = weakened_deep (selecting_levels s (x ∷ xs)) (greatest_levels s (symbol_at s.shape k).places) (first_levels s (symbol_at s.shape k).defaults)
      (selecting_deep (x ∷ xs) a) (greatest_deep (symbol_at s.shape k).places p) (first_deep (symbol_at s.shape k).defaults d)

  -- ---- symbols

  record ArePropertiesDeep (l : Properties) : Type 0 where
    of_own : AreDeep 1 l.own
    of_vis : AreDeep (n + 6) l.vis
    of_rev : AreDeep (n + 7) l.rev
    of_def : AreDeep (n + 11) l.def

  base_deep : (l : Properties) → ArePropertiesDeep l → AllDeep (n + 13) (base_holds l)
  base_deep l f = omega (arith, of_raised, of_allowed, of_kept)
    where
      of_raised : depth (raised l) ≤ n + 13
      of_raised = omega (arith, any_deep (not_of l.rev.not_n ∷ l.own.not_n ∷ []), not_deep l.rev.not_n, f.of_rev.not_n, f.of_own.not_n)

      of_allowed : depth (allowed l) ≤ n + 13
      of_allowed = omega (arith, any_deep (not_of l.own.not_n ∷ l.vis.not_n ∷ l.def.not_n ∷ l.rev.not_n ∷ []), not_deep l.own.not_n, f.of_own.not_n, f.of_vis.not_n, f.of_def.not_n, f.of_rev.not_n)

      of_kept : depth (kept l) ≤ n + 13
      of_kept = omega (arith, any_deep (l.vis.not_n ∷ not_of l.def.not_n ∷ l.own.not_n ∷ []), not_deep l.def.not_n, f.of_own.not_n, f.of_vis.not_n, f.of_def.not_n)

  y_deep : (on : Formula) (k : ℕ) (l : Properties) → depth on ≤ 1 → ArePropertiesDeep l → AllDeep (n + 13) (y_holds on k l)
  y_deep on k l m f = omega (arith, of_raised, of_allowed, of_kept)
    where
      of_raised : depth (y_raised k l) ≤ n + 13
      of_raised = omega (arith, any_deep (not_of l.rev.is_y ∷ Is (SymY k) ∷ []), not_deep l.rev.is_y, f.of_rev.is_y, depth-Is (SymY k))

      of_allowed : depth (y_allowed on k l) ≤ n + 13
      of_allowed = omega (arith, any_deep (not_of (Is (SymY k)) ∷ l.vis.is_y ∷ l.def.is_y ∷ l.rev.is_y ∷ not_of on ∷ []), not_deep (Is (SymY k)), not_deep on, m, depth-Is (SymY k), f.of_vis.is_y, f.of_def.is_y, f.of_rev.is_y)

      of_kept : depth (y_kept k l) ≤ n + 13
      of_kept = omega (arith, any_deep (l.vis.not_n ∷ not_of l.def.is_y ∷ Is (SymY k) ∷ []), not_deep l.def.is_y, depth-Is (SymY k), f.of_vis.not_n, f.of_def.is_y)

  one_deep : (on : Formula) (k : ℕ) → depth on ≤ 1 → AllDeep (n + 13) (one_holds on k)
  one_deep on k m = omega (arith, any_deep (not_of (Is (SymY k)) ∷ not_of (Is (SymM k)) ∷ []), any_deep (not_of (Is (SymM k)) ∷ on ∷ []), not_deep (Is (SymY k)), not_deep (Is (SymM k)), depth-Is (SymY k), depth-Is (SymM k), m)

  kind_deep : (k : ℕ) (kind : Counts) (on : Formula) (l : Properties) → depth on ≤ 1 → ArePropertiesDeep l → AllDeep (n + 13) (holds_as kind on k l)
  kind_deep k counts.Bool on l m f = base_deep l f
  kind_deep k counts.Tristate on l m f = deep_append (n + 13) (one_holds on k ++ base_holds l) (y_holds on k l) (deep_append (n + 13) (one_holds on k) (base_holds l) (one_deep on k m) (base_deep l f)) (y_deep on k l m f)
  kind_deep k counts.Neither on l m f = omega arith

  -- ---- choices

  lets_deep : (kind : Counts) (on : Formula) (l : Levels) → depth on ≤ 1 → AreDeep (n + 6) l → depth (lets_y_as kind on l) ≤ n + 8
  lets_deep counts.Bool on l m f = omega (arith, f.not_n)
  lets_deep counts.Tristate on l m f = omega (arith, any_deep (l.is_y ∷ all_of (not_of on ∷ l.not_n ∷ []) ∷ []), all_deep (not_of on ∷ l.not_n ∷ []), not_deep on, m, f.not_n, f.is_y)
  lets_deep counts.Neither on l m f = omega (arith, f.not_n)

  pairs_with_deep : (j : ℕ) (js : List ℕ) → AllDeep (n + 13) (map (not_both j) js)
  pairs_with_deep j [] = omega arith
  pairs_with_deep j (k ∷ js) = omega (arith, any_deep (not_of (Is (SymY j)) ∷ not_of (Is (SymY k)) ∷ []), not_deep (Is (SymY j)), not_deep (Is (SymY k)), depth-Is (SymY j), depth-Is (SymY k), pairs_with_deep j js)

  pairs_deep : (js : List ℕ) → AllDeep (n + 13) (pairs js)
  pairs_deep [] = omega arith
  pairs_deep (j ∷ js) = deep_append (n + 13) (map (not_both j) js) (pairs js) (pairs_with_deep j js) (pairs_deep js)

  are_y_deep : (js : List ℕ) → AllDeep 0 (are_y js)
  are_y_deep [] = omega arith
  are_y_deep (j ∷ js) = omega (arith, depth-Is (SymY j), are_y_deep js)

  bool_mode_deep : (optional : Bool) (y : Formula) (vis : Levels) → depth y ≤ 0 → AreDeep (n + 6) vis → AllDeep (n + 13) (bool_mode optional y vis)
  bool_mode_deep true y vis m f = omega (arith, any_deep (not_of y ∷ vis.not_n ∷ []), not_deep y, m, f.not_n)
  bool_mode_deep false y vis m f = omega (arith, any_deep (not_of y ∷ vis.not_n ∷ []), any_deep (not_of vis.not_n ∷ y ∷ []), not_deep y, not_deep vis.not_n, m, f.not_n)

  some_mode_deep : (optional : Bool) (y m : Formula) (vis : Levels) → depth y ≤ 0 → depth m ≤ 0 → AreDeep (n + 6) vis → AllDeep (n + 13) (some_mode optional y m vis)
  some_mode_deep true y m vis a b f = omega arith
  some_mode_deep false y m vis a b f = omega (arith, any_deep (not_of vis.not_n ∷ y ∷ m ∷ []), not_deep vis.not_n, a, b, f.not_n)

  seen_deep : (y m on : Formula) (vis : Levels) → depth y ≤ 0 → depth m ≤ 0 → depth on ≤ 1 → AreDeep (n + 6) vis → AllDeep (n + 13) (seen_modes y m on vis)
  seen_deep y m on vis a b o f = omega (arith, any_deep (not_of y ∷ vis.not_n ∷ []), any_deep (not_of y ∷ vis.is_y ∷ not_of on ∷ []), any_deep (not_of m ∷ vis.not_n ∷ []), not_deep y, not_deep m, not_deep on, a, b, o, f.not_n, f.is_y)

  tristate_mode_deep : (optional : Bool) (y m on : Formula) (vis : Levels) → depth y ≤ 0 → depth m ≤ 0 → depth on ≤ 1 → AreDeep (n + 6) vis → AllDeep (n + 13) (tristate_mode optional y m on vis)
  tristate_mode_deep optional y m on vis a b o f = deep_append (n + 13) (one_mode y m on ++ seen_modes y m on vis) (some_mode optional y m vis)
      (deep_append (n + 13) (one_mode y m on) (seen_modes y m on vis)
      (omega (arith, any_deep (not_of y ∷ not_of m ∷ []), any_deep (not_of m ∷ on ∷ []), not_deep y, not_deep m, a, b, o)) (seen_deep y m on vis a b o f))
      (some_mode_deep optional y m vis a b f)

  -- ---- all of a tree that is nested so deep
  module _ (nested : AreNested s.shape n) where
    on_deep : depth (modules_formula s.shape.modules) ≤ 1
    on_deep = modules_deep s.shape.modules

    vis_deep : (k : ℕ) → AreDeep (n + 6) (visibility_levels s k)
    vis_deep k = greatest_deep (symbol_at s.shape k).prompts (recursion_from_All (IsNested n) (symbol_at s.shape k).prompts (nested.prompts k))

    properties_deep : (k : ℕ) → ArePropertiesDeep (properties_of s k)
    properties_deep k = record {
      of_own = own_deep (counts_as s.shape k) k;
      of_vis = vis_deep k;
      of_rev = selecting_deep (selectors_of s.shape k) (recursion_from_All (IsNestedSelecting n) (selectors_of s.shape k) (nested.selects k));
      of_def = default_deep k (impliers_of s.shape k) (recursion_from_All (IsNestedSelecting n) (impliers_of s.shape k) (nested.implies k)) (recursion_from_All (IsNested n) (symbol_at s.shape k).places (nested.places k))
          (recursion_from_All (IsNestedDefault n) (symbol_at s.shape k).defaults (nested.defaults k));
    }

    symbol_deep : (k : ℕ) → AllDeep (n + 13) (symbol_holds s k)
    symbol_deep k = by (is_member s.shape k) (kind_deep k (counts_as s.shape k) (modules_formula s.shape.modules) (properties_of s k) on_deep (properties_deep k))
      where
        by : (b : Bool) → AllDeep (n + 13) (holds_as (counts_as s.shape k) (modules_formula s.shape.modules) k (properties_of s k)) → AllDeep (n + 13) (cond b [] (holds_as (counts_as s.shape k) (modules_formula s.shape.modules) k (properties_of s k)))
        by true d = omega arith
        by false d = d

    can_deep : (j : ℕ) → depth (can_y s j) ≤ n + 8
    can_deep j = lets_deep (counts_as s.shape j) (modules_formula s.shape.modules) (visibility_levels s j) on_deep (vis_deep j)

    members_y_deep : (mode : Formula) (js : List ℕ) → depth mode ≤ 0 → AllDeep (n + 13) (flat_map (member_y_holds s mode) js)
    members_y_deep mode [] m = omega arith
    members_y_deep mode (j ∷ js) m = deep_append (n + 13) (member_y_holds s mode j) (flat_map (member_y_holds s mode) js)
        (omega (arith, any_deep (not_of (Is (SymY j)) ∷ mode ∷ []), any_deep (not_of (Is (SymY j)) ∷ can_y s j ∷ []), not_deep (Is (SymY j)), depth-Is (SymY j), m, can_deep j)) (members_y_deep mode js m)

    member_m_deep : (mode : Formula) (kind : Counts) (j : ℕ) → depth mode ≤ 0 → AllDeep (n + 13) (m_holds_as s mode kind j)
    member_m_deep mode counts.Bool j m = omega arith
    member_m_deep mode counts.Tristate j m = omega (arith, any_deep (not_of (Is (SymM j)) ∷ mode ∷ []), any_deep (not_of (Is (SymM j)) ∷ (visibility_levels s j).not_n ∷ []), not_deep (Is (SymM j)), depth-Is (SymM j), m, (vis_deep j).not_n)
    member_m_deep mode counts.Neither j m = omega arith

    members_m_deep : (mode : Formula) (js : List ℕ) → depth mode ≤ 0 → AllDeep (n + 13) (flat_map (λ j. m_holds_as s mode (counts_as s.shape j) j) js)
    members_m_deep mode [] m = omega arith
    members_m_deep mode (j ∷ js) m = deep_append (n + 13) (m_holds_as s mode (counts_as s.shape j) j) (flat_map (λ j. m_holds_as s mode (counts_as s.shape j) j) js) (member_m_deep mode (counts_as s.shape j) j m) (members_m_deep mode js m)

    some_deep : (mode : Formula) (members js : List ℕ) → depth mode ≤ 0 → AllDeep (n + 13) (map (some_holds s mode members) js)
    some_deep mode members [] m = omega arith
    some_deep mode members (j ∷ js) m = omega (arith, any_deep (not_of mode ∷ not_of (can_y s j) ∷ are_y members), not_deep mode, not_deep (can_y s j), are_y_deep members, m, can_deep j, some_deep mode members js m)

    choice_vis_deep : (i : ℕ) → AreDeep (n + 6) (choice_levels s i)
    choice_vis_deep i = greatest_deep (choice_at s.shape i).prompts (recursion_from_All (IsNested n) (choice_at s.shape i).prompts (nested.choices i))

    module _ (i : ℕ) (members : List ℕ) where
      abbrev y : Formula
      y = Is (ModeY i)

      abbrev m : Formula
      m = Is (ModeM i)

      y_flat : depth y ≤ 0
      y_flat = omega (arith, depth-Is (ModeY i))

      m_flat : depth m ≤ 0
      m_flat = omega (arith, depth-Is (ModeM i))

      rest_deep : AllDeep (n + 13) (pairs members ++ map (some_holds s y members) members)
      rest_deep = deep_append (n + 13) (pairs members) (map (some_holds s y members) members) (pairs_deep members) (some_deep y members members y_flat)

      bool_deep : AllDeep (n + 13) (choice_holds_as s counts.Bool i members)
      bool_deep = deep_append (n + 13) ((bool_mode (choice_at s.shape i).optional y (choice_levels s i) ++ flat_map (member_y_holds s y) members) ++ pairs members) (map (some_holds s y members) members)
          (deep_append (n + 13) (bool_mode (choice_at s.shape i).optional y (choice_levels s i) ++ flat_map (member_y_holds s y) members) (pairs members)
          (deep_append (n + 13) (bool_mode (choice_at s.shape i).optional y (choice_levels s i)) (flat_map (member_y_holds s y) members) (bool_mode_deep (choice_at s.shape i).optional y (choice_levels s i) y_flat (choice_vis_deep i)) (members_y_deep y members y_flat))
          (pairs_deep members)) (some_deep y members members y_flat)

      tristate_deep : AllDeep (n + 13) (choice_holds_as s counts.Tristate i members)
      tristate_deep = let modes : List Formula = tristate_mode (choice_at s.shape i).optional y m (modules_formula s.shape.modules) (choice_levels s i) in
          let of_y : List Formula = flat_map (member_y_holds s y) members in let of_m : List Formula = flat_map (λ j. m_holds_as s m (counts_as s.shape j) j) members in
          deep_append (n + 13) (((modes ++ of_y) ++ of_m) ++ pairs members) (map (some_holds s y members) members)
          (deep_append (n + 13) ((modes ++ of_y) ++ of_m) (pairs members)
          (deep_append (n + 13) (modes ++ of_y) of_m
          (deep_append (n + 13) modes of_y (tristate_mode_deep (choice_at s.shape i).optional y m (modules_formula s.shape.modules) (choice_levels s i) y_flat m_flat on_deep (choice_vis_deep i)) (members_y_deep y members y_flat))
          (members_m_deep m members m_flat)) (pairs_deep members)) (some_deep y members members y_flat)

      kinds_deep : (kind : Counts) → AllDeep (n + 13) (choice_holds_as s kind i members)
      kinds_deep counts.Bool = bool_deep
      kinds_deep counts.Tristate = tristate_deep
      kinds_deep counts.Neither = bool_deep

    choice_deep : (i : ℕ) → AllDeep (n + 13) (choice_holds s i)
    choice_deep i = kinds_deep i (choice_at s.shape i).members (choice_counts s.shape i)

    pub facts_deep : All (IsShallowFact n) (facts_of s)
    facts_deep = each_fact s (IsShallowFact n)
        (λ k l. All-from_recursion (λ f. depth f ≤ n + 13) (symbol_holds s k) (each_deep (n + 13) (symbol_holds s k) (symbol_deep k)))
        (λ i l. All-from_recursion (λ f. depth f ≤ n + 13) (choice_holds s i) (each_deep (n + 13) (choice_holds s i) (choice_deep i)))

-- ---- facts that are those of a scope

pub shallow_facts : (s t : Scope) (facts : List Fact) → facts ≡ facts_of s → s ≡ t → AreShallow t.shape facts
shallow_facts s t facts is g = subst (AreShallow t.shape) (sym (is ∙ ap facts_of g)) (λ n nested. facts_deep t n nested)
