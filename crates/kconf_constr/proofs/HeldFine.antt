-- The formulas that symbols and choices hold mention the items of what these refer to, and loose items.
use Rattle.std.proofs.Common.{◌≡◌, ℕ, Bool, true, false, List, [], ◌∷◌, ◌++◌, map, refl, sym, subst}
use Rattle.std.specs.List.{AllByRecursion, flat_map}
use Rattle.ut_logic.specs.declared.item.Item.TheVariants as item
use Rattle.ut_logic.specs.declared.formula.Formula.{Formula}
use Rattle.ut_logic.specs.declared.formula.Formula.TheVariants.{Is}
use Rattle.ut_logic.specs.Fold.{all_of, any_of, not_of}
use Rattle.kconf_entries.specs.declared.expr.Expr.{Expr}
use Rattle.kconf_entries.specs.declared.entries.DefaultOf.{DefaultOf}
use Rattle.kconf_tree.specs.declared.shape.Counts.{Counts}
use Rattle.kconf_tree.specs.declared.shape.Counts.TheVariants as counts
use Rattle.kconf_tree.specs.Shape.{Selecting}
use Rattle.kconf_tree.specs.declared.place.Place.TheVariants.{Condition, Value}
use Rattle.kconf_tree.specs.Shape.{symbol_at, choice_at, counts_as, counts_alone, selectors_of, impliers_of}
use Rattle.kconf_tree.specs.References.{numbers_in, in_conditions, of_default, of_selector, of_type, of_implied, own_references, symbol_references, of_choice_default, choice_references}
use Rattle.kconf_constr.specs.declared.level.Level.{Level}
use Rattle.kconf_constr.specs.declared.level.Level.TheVariants.{NotN, IsY}
use Rattle.kconf_constr.specs.Scope.{Scope}
use Rattle.kconf_constr.specs.Levels.{Levels, levels, at_level, own_levels, modules_formula}
use Rattle.kconf_tree.specs.Valid.{choice_counts}
use Rattle.kconf_constr.specs.Closed.{IsTrit}
use Rattle.kconf_constr.specs.PropertyFormulas.{greatest_levels, visibility_levels, condition_at, selected_at, selecting_levels, is_passed, default_part, default_parts, default_at, first_levels, weakened, default_by}
use Rattle.kconf_constr.specs.SymbolFormulas.{Properties, properties_of, raised, allowed, kept, base_holds, one_holds, y_raised, y_allowed, y_kept, y_holds, holds_as, non_member_holds}
use Rattle.kconf_constr.specs.ChoiceFormulas.{lets_y_as, can_y, member_y_holds, m_holds_as, member_m_holds, not_both, pairs, are_y, some_holds, choice_levels, bool_mode, one_mode, seen_modes, some_mode, tristate_mode, bool_choice_holds, tristate_choice_holds, choice_holds_as, choice_holds}
use Rattle.kconf_constr.proofs.Lists.{front, back}
use Rattle.kconf_constr.proofs.FineLaws.{Fine, AllFine, BothFine, fine_item, fine_nil, fine_cons, fine_append, fine_all, fine_any, fine_not, fine_one, fine_two, fine_at, own_fine, modules_fine, expr_fine}

module _ (Q R : ℕ → Type 0) (s : Scope) where
  -- ---- visibility, reverse dependency and default

  levels_fine : (h : Level) (es : List Expr) → AllByRecursion Q (in_conditions s.shape es) → AllFine s Q R (map (at_level h) (map (levels s Condition) es))
  levels_fine h [] a = fine_nil s Q R
  levels_fine h (e ∷ es) a = fine_cons s Q R (at_level h (levels s Condition e)) (map (at_level h) (map (levels s Condition) es))
      (fine_at s Q R h (levels s Condition e) (expr_fine s Q R Condition e (front Q (numbers_in s.shape Condition e) (in_conditions s.shape es) a)))
      (levels_fine h es (back Q (numbers_in s.shape Condition e) (in_conditions s.shape es) a))

  greatest_fine : (es : List Expr) → AllByRecursion Q (in_conditions s.shape es) → BothFine s Q R (greatest_levels s es)
  greatest_fine es a = record {
    not_n = fine_any s Q R (map (at_level NotN) (map (levels s Condition) es)) (levels_fine NotN es a);
    is_y = fine_any s Q R (map (at_level IsY) (map (levels s Condition) es)) (levels_fine IsY es a);
  }

  pub condition_fine : (h : Level) (e : Expr) → AllByRecursion Q (numbers_in s.shape Condition e) → Fine s Q R (condition_at s h e)
  condition_fine h e a = fine_at s Q R h (levels s Condition e) (expr_fine s Q R Condition e a)

  selected_fine : (h : Level) (x : Selecting) → AllByRecursion Q (of_selector s.shape x) → Fine s Q R (selected_at s h x)
  selected_fine h x a = fine_all s Q R (at_level h (own_levels s x.by) ∷ condition_at s h x.cond ∷ [])
      (fine_two s Q R (at_level h (own_levels s x.by)) (condition_at s h x.cond) (fine_at s Q R h (own_levels s x.by) (own_fine s Q R x.by (counts_as s.shape x.by) refl a.0)) (condition_fine h x.cond a.1))

  selects_fine : (h : Level) (xs : List Selecting) → AllByRecursion Q (flat_map (of_selector s.shape) xs) → AllFine s Q R (map (selected_at s h) xs)
  selects_fine h [] a = fine_nil s Q R
  selects_fine h (x ∷ xs) a = fine_cons s Q R (selected_at s h x) (map (selected_at s h) xs)
      (selected_fine h x (front Q (of_selector s.shape x) (flat_map (of_selector s.shape) xs) a)) (selects_fine h xs (back Q (of_selector s.shape x) (flat_map (of_selector s.shape) xs) a))

  parts_fine : (h : Level) (passed : List Formula) (ds : List DefaultOf) → AllFine s Q R passed → AllByRecursion Q (flat_map (of_default s.shape) ds) → AllFine s Q R (default_parts s h passed ds)
  parts_fine h passed [] p a = fine_nil s Q R
  parts_fine h passed (d ∷ ds) p a = let first = front Q (of_default s.shape d) (flat_map (of_default s.shape) ds) a in
      let cond = front Q (numbers_in s.shape Condition d.cond) (numbers_in s.shape Value d.value) first in
      let value = back Q (numbers_in s.shape Condition d.cond) (numbers_in s.shape Value d.value) first in
      fine_cons s Q R (default_part s h passed d) (default_parts s h (passed ++ (is_passed s d ∷ [])) ds)
      (fine_all s Q R (passed ++ (condition_at s h d.cond ∷ at_level h (levels s Value d.value) ∷ [])) (fine_append s Q R passed (condition_at s h d.cond ∷ at_level h (levels s Value d.value) ∷ []) p
      (fine_two s Q R (condition_at s h d.cond) (at_level h (levels s Value d.value)) (condition_fine h d.cond cond) (fine_at s Q R h (levels s Value d.value) (expr_fine s Q R Value d.value value)))))
      (parts_fine h (passed ++ (is_passed s d ∷ [])) ds (fine_append s Q R passed (is_passed s d ∷ []) p (fine_one s Q R (is_passed s d) (fine_not s Q R (condition_at s NotN d.cond) (condition_fine NotN d.cond cond))))
      (back Q (of_default s.shape d) (flat_map (of_default s.shape) ds) a))

  default_fine : (h : Level) (ds : List DefaultOf) → AllByRecursion Q (flat_map (of_default s.shape) ds) → Fine s Q R (default_at s h ds)
  default_fine h ds a = fine_any s Q R (default_parts s h [] ds) (parts_fine h [] ds (fine_nil s Q R) a)

  -- ---- symbols

  record PropertiesFine (l : Properties) : Type 0 where
    of_own : BothFine s Q R l.own
    of_vis : BothFine s Q R l.vis
    of_rev : BothFine s Q R l.rev
    of_def : BothFine s Q R l.def

  base_fine : (l : Properties) → PropertiesFine l → AllFine s Q R (base_holds l)
  base_fine l f = fine_cons s Q R (raised l) (allowed l ∷ kept l ∷ [])
      (fine_any s Q R (not_of l.rev.not_n ∷ l.own.not_n ∷ []) (fine_two s Q R (not_of l.rev.not_n) l.own.not_n (fine_not s Q R l.rev.not_n f.of_rev.not_n) f.of_own.not_n))
      (fine_two s Q R (allowed l) (kept l)
      (fine_any s Q R (not_of l.own.not_n ∷ l.vis.not_n ∷ l.def.not_n ∷ l.rev.not_n ∷ []) (fine_cons s Q R (not_of l.own.not_n) (l.vis.not_n ∷ l.def.not_n ∷ l.rev.not_n ∷ []) (fine_not s Q R l.own.not_n f.of_own.not_n)
      (fine_cons s Q R l.vis.not_n (l.def.not_n ∷ l.rev.not_n ∷ []) f.of_vis.not_n (fine_two s Q R l.def.not_n l.rev.not_n f.of_def.not_n f.of_rev.not_n))))
      (fine_any s Q R (l.vis.not_n ∷ not_of l.def.not_n ∷ l.own.not_n ∷ []) (fine_cons s Q R l.vis.not_n (not_of l.def.not_n ∷ l.own.not_n ∷ []) f.of_vis.not_n (fine_two s Q R (not_of l.def.not_n) l.own.not_n (fine_not s Q R l.def.not_n f.of_def.not_n) f.of_own.not_n))))

  y_fine : (on : Formula) (k : ℕ) (l : Properties) → Fine s Q R on → Fine s Q R (Is (item.SymY k)) → PropertiesFine l → AllFine s Q R (y_holds on k l)
  y_fine on k l m y f = fine_cons s Q R (y_raised k l) (y_allowed on k l ∷ y_kept k l ∷ [])
      (fine_any s Q R (not_of l.rev.is_y ∷ Is (item.SymY k) ∷ []) (fine_two s Q R (not_of l.rev.is_y) (Is (item.SymY k)) (fine_not s Q R l.rev.is_y f.of_rev.is_y) y))
      (fine_two s Q R (y_allowed on k l) (y_kept k l)
      (fine_any s Q R (not_of (Is (item.SymY k)) ∷ l.vis.is_y ∷ l.def.is_y ∷ l.rev.is_y ∷ not_of on ∷ []) (fine_cons s Q R (not_of (Is (item.SymY k))) (l.vis.is_y ∷ l.def.is_y ∷ l.rev.is_y ∷ not_of on ∷ []) (fine_not s Q R (Is (item.SymY k)) y)
      (fine_cons s Q R l.vis.is_y (l.def.is_y ∷ l.rev.is_y ∷ not_of on ∷ []) f.of_vis.is_y (fine_cons s Q R l.def.is_y (l.rev.is_y ∷ not_of on ∷ []) f.of_def.is_y (fine_two s Q R l.rev.is_y (not_of on) f.of_rev.is_y (fine_not s Q R on m))))))
      (fine_any s Q R (l.vis.not_n ∷ not_of l.def.is_y ∷ Is (item.SymY k) ∷ []) (fine_cons s Q R l.vis.not_n (not_of l.def.is_y ∷ Is (item.SymY k) ∷ []) f.of_vis.not_n (fine_two s Q R (not_of l.def.is_y) (Is (item.SymY k)) (fine_not s Q R l.def.is_y f.of_def.is_y) y))))

  one_fine : (on : Formula) (k : ℕ) → Fine s Q R on → Fine s Q R (Is (item.SymY k)) → Fine s Q R (Is (item.SymM k)) → AllFine s Q R (one_holds on k)
  one_fine on k f y m = let not_y = fine_not s Q R (Is (item.SymY k)) y in let not_m = fine_not s Q R (Is (item.SymM k)) m in
      fine_two s Q R (any_of (not_of (Is (item.SymY k)) ∷ not_of (Is (item.SymM k)) ∷ [])) (any_of (not_of (Is (item.SymM k)) ∷ on ∷ []))
      (fine_any s Q R (not_of (Is (item.SymY k)) ∷ not_of (Is (item.SymM k)) ∷ []) (fine_two s Q R (not_of (Is (item.SymY k))) (not_of (Is (item.SymM k))) not_y not_m))
      (fine_any s Q R (not_of (Is (item.SymM k)) ∷ on ∷ []) (fine_two s Q R (not_of (Is (item.SymM k))) on not_m f))

  kind_fine : (k : ℕ) (kind : Counts) → counts_as s.shape k ≡ kind → (l : Properties) → AllByRecursion Q (of_type s.shape kind) → Q k → PropertiesFine l → AllFine s Q R (holds_as kind (modules_formula s.shape.modules) k l)
  kind_fine k counts.Bool e l a q f = base_fine l f
  kind_fine k counts.Tristate e l a q f = let on = modules_formula s.shape.modules in let m = modules_fine s Q R a in
      let y = fine_item s Q R (item.SymY k) (subst IsTrit (sym e) tt, q) in
      fine_append s Q R (one_holds on k ++ base_holds l) (y_holds on k l) (fine_append s Q R (one_holds on k) (base_holds l) (one_fine on k m y (fine_item s Q R (item.SymM k) (e, q))) (base_fine l f)) (y_fine on k l m y f)
  kind_fine k counts.Neither e l a q f = fine_nil s Q R

  -- the parts of a symbol's own references
  module _ (k : ℕ) where
    abbrev in_prompts : List ℕ
    in_prompts = in_conditions s.shape (symbol_at s.shape k).prompts

    abbrev in_defaults : List ℕ
    in_defaults = flat_map (of_default s.shape) (symbol_at s.shape k).defaults

    abbrev in_places : List ℕ
    in_places = of_implied s.shape (impliers_of s.shape k) (symbol_at s.shape k).places

    abbrev in_type : List ℕ
    in_type = of_type s.shape (counts_as s.shape k)

    pub prompts_part : AllByRecursion Q (own_references s.shape k) → AllByRecursion Q in_prompts
    prompts_part a = front Q in_prompts in_defaults (front Q (in_prompts ++ in_defaults) in_places (front Q (in_prompts ++ in_defaults ++ in_places) in_type a))

    pub defaults_part : AllByRecursion Q (own_references s.shape k) → AllByRecursion Q in_defaults
    defaults_part a = back Q in_prompts in_defaults (front Q (in_prompts ++ in_defaults) in_places (front Q (in_prompts ++ in_defaults ++ in_places) in_type a))

    type_part : AllByRecursion Q (own_references s.shape k) → AllByRecursion Q in_type
    type_part a = back Q (in_prompts ++ in_defaults ++ in_places) in_type a

    abbrev selecting : List ℕ
    selecting = flat_map (of_selector s.shape) (selectors_of s.shape k)

    abbrev implying : List ℕ
    implying = flat_map (of_selector s.shape) (impliers_of s.shape k)

    places_part : AllByRecursion Q (own_references s.shape k) → AllByRecursion Q in_places
    places_part a = back Q (in_prompts ++ in_defaults) in_places (front Q (in_prompts ++ in_defaults ++ in_places) in_type a)

    first_fine : (ds : List DefaultOf) → AllByRecursion Q (flat_map (of_default s.shape) ds) → BothFine s Q R (first_levels s ds)
    first_fine ds a = record { not_n = default_fine NotN ds a; is_y = default_fine IsY ds a }

    selecting_fine : (xs : List Selecting) → AllByRecursion Q (flat_map (of_selector s.shape) xs) → BothFine s Q R (selecting_levels s xs)
    selecting_fine xs a = record { not_n = fine_any s Q R (map (selected_at s NotN) xs) (selects_fine NotN xs a); is_y = fine_any s Q R (map (selected_at s IsY) xs) (selects_fine IsY xs a) }

    weak_fine : (a b d : Levels) → BothFine s Q R a → BothFine s Q R b → BothFine s Q R d → BothFine s Q R (weakened a b d)
    weak_fine a b d i p f = let without = fine_not s Q R a.not_n i.not_n in record {
      not_n = fine_any s Q R (all_of (a.not_n ∷ b.not_n ∷ []) ∷ all_of (not_of a.not_n ∷ d.not_n ∷ []) ∷ []) (fine_two s Q R (all_of (a.not_n ∷ b.not_n ∷ [])) (all_of (not_of a.not_n ∷ d.not_n ∷ []))
          (fine_all s Q R (a.not_n ∷ b.not_n ∷ []) (fine_two s Q R a.not_n b.not_n i.not_n p.not_n)) (fine_all s Q R (not_of a.not_n ∷ d.not_n ∷ []) (fine_two s Q R (not_of a.not_n) d.not_n without f.not_n)));
      is_y = fine_any s Q R (all_of (a.not_n ∷ any_of (d.is_y ∷ a.is_y ∷ []) ∷ b.is_y ∷ []) ∷ all_of (not_of a.not_n ∷ d.is_y ∷ []) ∷ []) (fine_two s Q R (all_of (a.not_n ∷ any_of (d.is_y ∷ a.is_y ∷ []) ∷ b.is_y ∷ [])) (all_of (not_of a.not_n ∷ d.is_y ∷ []))
          (fine_all s Q R (a.not_n ∷ any_of (d.is_y ∷ a.is_y ∷ []) ∷ b.is_y ∷ []) (fine_cons s Q R a.not_n (any_of (d.is_y ∷ a.is_y ∷ []) ∷ b.is_y ∷ []) i.not_n
          (fine_two s Q R (any_of (d.is_y ∷ a.is_y ∷ [])) b.is_y (fine_any s Q R (d.is_y ∷ a.is_y ∷ []) (fine_two s Q R d.is_y a.is_y f.is_y i.is_y)) p.is_y)))
          (fine_all s Q R (not_of a.not_n ∷ d.is_y ∷ []) (fine_two s Q R (not_of a.not_n) d.is_y without f.is_y)));
    }

    default_by_fine : (xs : List Selecting) → AllByRecursion Q (flat_map (of_selector s.shape) xs) → AllByRecursion Q (of_implied s.shape xs (symbol_at s.shape k).places) → AllByRecursion Q in_defaults → BothFine s Q R (default_by s k xs)
    default_by_fine [] a p d = first_fine (symbol_at s.shape k).defaults d
    default_by_fine (x ∷ xs) a p d = weak_fine (selecting_levels s (x ∷ xs)) (greatest_levels s (symbol_at s.shape k).places) (first_levels s (symbol_at s.shape k).defaults)
        (selecting_fine (x ∷ xs) a) (greatest_fine (symbol_at s.shape k).places p) (first_fine (symbol_at s.shape k).defaults d)

    pub symbol_fine : Q k → AllByRecursion Q (symbol_references s.shape k) → AllFine s Q R (non_member_holds s k)
    symbol_fine q a = let rest = front Q (own_references s.shape k ++ selecting) implying a in
        let own = front Q (own_references s.shape k) selecting rest in let selects = back Q (own_references s.shape k) selecting rest in
        let implies = back Q (own_references s.shape k ++ selecting) implying a in
        kind_fine k (counts_as s.shape k) refl (properties_of s k) (type_part own) q (record {
          of_own = own_fine s Q R k (counts_as s.shape k) refl q;
          of_vis = greatest_fine (symbol_at s.shape k).prompts (prompts_part own);
          of_rev = selecting_fine (selectors_of s.shape k) selects;
          of_def = default_by_fine (impliers_of s.shape k) implies (places_part own) (defaults_part own);
        })

  -- ---- choices

  -- members count as bool or tristate, and are reached
  abbrev pub IsReachedMember : ℕ → Type 0
  IsReachedMember j = IsTrit (counts_as s.shape j) × Q j

  abbrev Members : List ℕ → Type 0
  Members = AllByRecursion IsReachedMember

  abbrev Owns : List ℕ → Type 0
  Owns js = AllByRecursion Q (flat_map (own_references s.shape) js)

  own_here : (j : ℕ) (js : List ℕ) → Owns (j ∷ js) → AllByRecursion Q (own_references s.shape j)
  own_here j js a = front Q (own_references s.shape j) (flat_map (own_references s.shape) js) a

  own_rest : (j : ℕ) (js : List ℕ) → Owns (j ∷ js) → Owns js
  own_rest j js a = back Q (own_references s.shape j) (flat_map (own_references s.shape) js) a

  seen_fine : (j : ℕ) → AllByRecursion Q (own_references s.shape j) → BothFine s Q R (visibility_levels s j)
  seen_fine j a = greatest_fine (symbol_at s.shape j).prompts (prompts_part j a)

  lets_fine : (kind : Counts) (l : Levels) → AllByRecursion Q (of_type s.shape kind) → BothFine s Q R l → Fine s Q R (lets_y_as kind (modules_formula s.shape.modules) l)
  lets_fine counts.Bool l a f = f.not_n
  lets_fine counts.Tristate l a f = let on = modules_formula s.shape.modules in
      fine_any s Q R (l.is_y ∷ all_of (not_of on ∷ l.not_n ∷ []) ∷ []) (fine_two s Q R l.is_y (all_of (not_of on ∷ l.not_n ∷ [])) f.is_y
      (fine_all s Q R (not_of on ∷ l.not_n ∷ []) (fine_two s Q R (not_of on) l.not_n (fine_not s Q R on (modules_fine s Q R a)) f.not_n)))
  lets_fine counts.Neither l a f = f.not_n

  can_fine : (j : ℕ) → AllByRecursion Q (own_references s.shape j) → Fine s Q R (can_y s j)
  can_fine j a = lets_fine (counts_as s.shape j) (visibility_levels s j) (type_part j a) (seen_fine j a)

  not_y_fine : (j : ℕ) → IsReachedMember j → Fine s Q R (not_of (Is (item.SymY j)))
  not_y_fine j q = fine_not s Q R (Is (item.SymY j)) (fine_item s Q R (item.SymY j) q)

  ys_fine : (mode : Formula) → Fine s Q R mode → (js : List ℕ) → Members js → Owns js → AllFine s Q R (flat_map (member_y_holds s mode) js)
  ys_fine mode m [] q a = fine_nil s Q R
  ys_fine mode m (j ∷ js) q a = fine_append s Q R (member_y_holds s mode j) (flat_map (member_y_holds s mode) js)
      (fine_two s Q R (any_of (not_of (Is (item.SymY j)) ∷ mode ∷ [])) (any_of (not_of (Is (item.SymY j)) ∷ can_y s j ∷ []))
      (fine_any s Q R (not_of (Is (item.SymY j)) ∷ mode ∷ []) (fine_two s Q R (not_of (Is (item.SymY j))) mode (not_y_fine j q.0) m))
      (fine_any s Q R (not_of (Is (item.SymY j)) ∷ can_y s j ∷ []) (fine_two s Q R (not_of (Is (item.SymY j))) (can_y s j) (not_y_fine j q.0) (can_fine j (own_here j js a)))))
      (ys_fine mode m js q.1 (own_rest j js a))

  m_fine : (mode : Formula) → Fine s Q R mode → (j : ℕ) (kind : Counts) → counts_as s.shape j ≡ kind → Q j → AllByRecursion Q (own_references s.shape j) → AllFine s Q R (m_holds_as s mode kind j)
  m_fine mode m j counts.Bool e q a = fine_nil s Q R
  m_fine mode m j counts.Tristate e q a = let not_m = fine_not s Q R (Is (item.SymM j)) (fine_item s Q R (item.SymM j) (e, q)) in
      fine_two s Q R (any_of (not_of (Is (item.SymM j)) ∷ mode ∷ [])) (any_of (not_of (Is (item.SymM j)) ∷ (visibility_levels s j).not_n ∷ []))
      (fine_any s Q R (not_of (Is (item.SymM j)) ∷ mode ∷ []) (fine_two s Q R (not_of (Is (item.SymM j))) mode not_m m))
      (fine_any s Q R (not_of (Is (item.SymM j)) ∷ (visibility_levels s j).not_n ∷ []) (fine_two s Q R (not_of (Is (item.SymM j))) (visibility_levels s j).not_n not_m (seen_fine j a).not_n))
  m_fine mode m j counts.Neither e q a = fine_nil s Q R

  ms_fine : (mode : Formula) → Fine s Q R mode → (js : List ℕ) → Members js → Owns js → AllFine s Q R (flat_map (member_m_holds s mode) js)
  ms_fine mode m [] q a = fine_nil s Q R
  ms_fine mode m (j ∷ js) q a = fine_append s Q R (member_m_holds s mode j) (flat_map (member_m_holds s mode) js)
      (m_fine mode m j (counts_as s.shape j) refl q.0.1 (own_here j js a)) (ms_fine mode m js q.1 (own_rest j js a))

  apart_fine : (j : ℕ) (ks : List ℕ) → IsReachedMember j → Members ks → AllFine s Q R (map (not_both j) ks)
  apart_fine j [] q a = fine_nil s Q R
  apart_fine j (k ∷ ks) q a = fine_cons s Q R (not_both j k) (map (not_both j) ks)
      (fine_any s Q R (not_of (Is (item.SymY j)) ∷ not_of (Is (item.SymY k)) ∷ []) (fine_two s Q R (not_of (Is (item.SymY j))) (not_of (Is (item.SymY k))) (not_y_fine j q) (not_y_fine k a.0))) (apart_fine j ks q a.1)

  pairs_fine : (js : List ℕ) → Members js → AllFine s Q R (pairs js)
  pairs_fine [] a = fine_nil s Q R
  pairs_fine (j ∷ js) a = fine_append s Q R (map (not_both j) js) (pairs js) (apart_fine j js a.0 a.1) (pairs_fine js a.1)

  are_fine : (js : List ℕ) → Members js → AllFine s Q R (are_y js)
  are_fine [] a = fine_nil s Q R
  are_fine (j ∷ js) a = fine_cons s Q R (Is (item.SymY j)) (are_y js) (fine_item s Q R (item.SymY j) a.0) (are_fine js a.1)

  some_fine : (mode : Formula) → Fine s Q R mode → (all : List ℕ) → Members all → (js : List ℕ) → Owns js → AllFine s Q R (map (some_holds s mode all) js)
  some_fine mode m all q [] a = fine_nil s Q R
  some_fine mode m all q (j ∷ js) a = fine_cons s Q R (some_holds s mode all j) (map (some_holds s mode all) js)
      (fine_any s Q R (not_of mode ∷ not_of (can_y s j) ∷ are_y all) (fine_cons s Q R (not_of mode) (not_of (can_y s j) ∷ are_y all) (fine_not s Q R mode m)
      (fine_cons s Q R (not_of (can_y s j)) (are_y all) (fine_not s Q R (can_y s j) (can_fine j (own_here j js a))) (are_fine all q))))
      (some_fine mode m all q js (own_rest j js a))

  bool_mode_fine : (optional : Bool) (mode : Formula) (vis : Levels) → Fine s Q R mode → BothFine s Q R vis → AllFine s Q R (bool_mode optional mode vis)
  bool_mode_fine true mode vis m v = fine_one s Q R (any_of (not_of mode ∷ vis.not_n ∷ [])) (fine_any s Q R (not_of mode ∷ vis.not_n ∷ []) (fine_two s Q R (not_of mode) vis.not_n (fine_not s Q R mode m) v.not_n))
  bool_mode_fine false mode vis m v = fine_two s Q R (any_of (not_of mode ∷ vis.not_n ∷ [])) (any_of (not_of vis.not_n ∷ mode ∷ []))
      (fine_any s Q R (not_of mode ∷ vis.not_n ∷ []) (fine_two s Q R (not_of mode) vis.not_n (fine_not s Q R mode m) v.not_n))
      (fine_any s Q R (not_of vis.not_n ∷ mode ∷ []) (fine_two s Q R (not_of vis.not_n) mode (fine_not s Q R vis.not_n v.not_n) m))

  some_mode_fine : (optional : Bool) (y m : Formula) (vis : Levels) → Fine s Q R y → Fine s Q R m → BothFine s Q R vis → AllFine s Q R (some_mode optional y m vis)
  some_mode_fine true y m vis fy fm v = fine_nil s Q R
  some_mode_fine false y m vis fy fm v = fine_one s Q R (any_of (not_of vis.not_n ∷ y ∷ m ∷ [])) (fine_any s Q R (not_of vis.not_n ∷ y ∷ m ∷ []) (fine_cons s Q R (not_of vis.not_n) (y ∷ m ∷ []) (fine_not s Q R vis.not_n v.not_n) (fine_two s Q R y m fy fm)))

  tristate_mode_fine : (optional : Bool) (y m on : Formula) (vis : Levels) → Fine s Q R y → Fine s Q R m → Fine s Q R on → BothFine s Q R vis → AllFine s Q R (tristate_mode optional y m on vis)
  tristate_mode_fine optional y m on vis fy fm fo v = let not_y = fine_not s Q R y fy in let not_m = fine_not s Q R m fm in
      fine_append s Q R (one_mode y m on ++ seen_modes y m on vis) (some_mode optional y m vis)
      (fine_append s Q R (one_mode y m on) (seen_modes y m on vis)
      (fine_two s Q R (any_of (not_of y ∷ not_of m ∷ [])) (any_of (not_of m ∷ on ∷ []))
      (fine_any s Q R (not_of y ∷ not_of m ∷ []) (fine_two s Q R (not_of y) (not_of m) not_y not_m)) (fine_any s Q R (not_of m ∷ on ∷ []) (fine_two s Q R (not_of m) on not_m fo)))
      (fine_cons s Q R (any_of (not_of y ∷ vis.not_n ∷ [])) (any_of (not_of y ∷ vis.is_y ∷ not_of on ∷ []) ∷ any_of (not_of m ∷ vis.not_n ∷ []) ∷ [])
      (fine_any s Q R (not_of y ∷ vis.not_n ∷ []) (fine_two s Q R (not_of y) vis.not_n not_y v.not_n))
      (fine_two s Q R (any_of (not_of y ∷ vis.is_y ∷ not_of on ∷ [])) (any_of (not_of m ∷ vis.not_n ∷ []))
      (fine_any s Q R (not_of y ∷ vis.is_y ∷ not_of on ∷ []) (fine_cons s Q R (not_of y) (vis.is_y ∷ not_of on ∷ []) not_y (fine_two s Q R vis.is_y (not_of on) v.is_y (fine_not s Q R on fo))))
      (fine_any s Q R (not_of m ∷ vis.not_n ∷ []) (fine_two s Q R (not_of m) vis.not_n not_m v.not_n)))))
      (some_mode_fine optional y m vis fy fm v)

  module _ (i : ℕ) (r : R i) (q : Members (choice_at s.shape i).members) (a : AllByRecursion Q (choice_references s.shape i)) where
    abbrev ms : List ℕ
    ms = (choice_at s.shape i).members

    abbrev asked : List ℕ
    asked = in_conditions s.shape (choice_at s.shape i).prompts

    abbrev picked : List ℕ
    picked = flat_map (of_choice_default s.shape i) (choice_at s.shape i).defaults

    abbrev type : List ℕ
    type = of_type s.shape (counts_alone (choice_at s.shape i).kind)

    abbrev own : List ℕ
    own = flat_map (own_references s.shape) ms

    in_own : Owns ms
    in_own = back Q (asked ++ picked ++ type) own a

    of_vis : BothFine s Q R (choice_levels s i)
    of_vis = greatest_fine (choice_at s.shape i).prompts (front Q asked picked (front Q (asked ++ picked) type (front Q (asked ++ picked ++ type) own a)))

    of_kind : AllByRecursion Q type
    of_kind = back Q (asked ++ picked) type (front Q (asked ++ picked ++ type) own a)

    abbrev mode : Formula
    mode = Is (item.ModeY i)

    of_mode : Fine s Q R mode
    of_mode = fine_item s Q R (item.ModeY i) r

    bool_fine : AllFine s Q R (bool_choice_holds s i ms)
    bool_fine = let first : List Formula = bool_mode (choice_at s.shape i).optional mode (choice_levels s i) in let ys : List Formula = flat_map (member_y_holds s mode) ms in
        fine_append s Q R (first ++ ys ++ pairs ms) (map (some_holds s mode ms) ms)
        (fine_append s Q R (first ++ ys) (pairs ms) (fine_append s Q R first ys (bool_mode_fine (choice_at s.shape i).optional mode (choice_levels s i) of_mode of_vis) (ys_fine mode of_mode ms q in_own)) (pairs_fine ms q))
        (some_fine mode of_mode ms q ms in_own)

    tristate_fine : choice_counts s.shape i ≡ counts.Tristate → AllByRecursion Q (of_type s.shape counts.Tristate) → AllFine s Q R (tristate_choice_holds s i ms)
    tristate_fine e on = let m : Formula = Is (item.ModeM i) in let of_m = fine_item s Q R (item.ModeM i) (e, r) in
        let first : List Formula = tristate_mode (choice_at s.shape i).optional mode m (modules_formula s.shape.modules) (choice_levels s i) in
        let ys : List Formula = flat_map (member_y_holds s mode) ms in let mms : List Formula = flat_map (member_m_holds s m) ms in
        fine_append s Q R (first ++ ys ++ mms ++ pairs ms) (map (some_holds s mode ms) ms)
        (fine_append s Q R (first ++ ys ++ mms) (pairs ms) (fine_append s Q R (first ++ ys) mms (fine_append s Q R first ys
        (tristate_mode_fine (choice_at s.shape i).optional mode m (modules_formula s.shape.modules) (choice_levels s i) of_mode of_m (modules_fine s Q R on) of_vis) (ys_fine mode of_mode ms q in_own)) (ms_fine m of_m ms q in_own)) (pairs_fine ms q))
        (some_fine mode of_mode ms q ms in_own)

    fine_as : (kind : Counts) → choice_counts s.shape i ≡ kind → AllByRecursion Q (of_type s.shape kind) → AllFine s Q R (choice_holds_as s kind i ms)
    fine_as counts.Bool e on = bool_fine
    fine_as counts.Tristate e on = tristate_fine e on
    fine_as counts.Neither e on = bool_fine

    pub choice_fine : AllFine s Q R (choice_holds s i)
    choice_fine = fine_as (choice_counts s.shape i) refl of_kind
