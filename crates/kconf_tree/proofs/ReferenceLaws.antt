-- What a node of a well made tree refers to is a node of the tree.
use Rattle.std.proofs.Common.{◌≡◌, ℕ, zero, suc, ◌+◌, ◌<◌, ◌≤◌, Bool, true, false, cond, List, [], ◌∷◌, ◌++◌, map, length, get_or, All, refl, sym, ap, subst, ◌∙◌, arith, Option, None, Some, inl, inr}
use Rattle.std.specs.List.{flat_map, AllByRecursion}
use Rattle.std.specs.Option.{option_to_list}
use Rattle.std.proofs.lemmas.Bool.{cases_lt, false≢true}
use Rattle.std.proofs.lemmas.List.Elements.{All-from_recursion}
use Rattle.std.proofs.lemmas.List.Quantifiers.{position-Some}
use Rattle.ut_text.specs.Text.{text_eq}
use Rattle.ut_logic.specs.declared.trit.Trit.{Trit}
use Rattle.ut_logic.specs.declared.trit.Trit.TheVariants.{N, M, Y}
use Rattle.ut_logic.specs.declared.node.Node.{Node}
use Rattle.ut_logic.specs.declared.node.Node.TheVariants.{Sym, Choice, Block, State}
use Rattle.kconf_entries.specs.declared.expr.Side.{Side}
use Rattle.kconf_entries.specs.declared.expr.Side.TheVariants as side
use Rattle.kconf_entries.specs.declared.expr.Expr.{Expr}
use Rattle.kconf_entries.specs.declared.expr.Expr.TheOpen.{Expr-F}
use Rattle.kconf_entries.specs.declared.expr.Expr.TheViews.{roll-Expr}
use Rattle.kconf_entries.specs.declared.expr.Expr.TheFolds.{fold-roll-Expr, map-Expr, ind-Expr}
use Rattle.kconf_entries.specs.declared.entries.DefaultOf.{DefaultOf}
use Rattle.kconf_entries.specs.declared.entries.SelectOf.{SelectOf}
use Rattle.kconf_tree.specs.declared.shape.Symbol.{Symbol}
use Rattle.kconf_tree.specs.declared.shape.Choice.{Choice as OneChoice}
use Rattle.kconf_tree.specs.declared.shape.Counts.{Counts}
use Rattle.kconf_tree.specs.declared.shape.Counts.TheVariants as counts
use Rattle.kconf_tree.specs.Shape.{Shape, Selecting, symbol_at, choice_at, no_symbol, no_choice, number_of, counts_alone, counts_as, is_the, selects_at, selects_from, implies_from, selectors_of, impliers_of}
use Rattle.kconf_tree.specs.Value.{Place, Condition, Value, Comparison, OfTrits, OfText, comparison_of}
use Rattle.kconf_tree.specs.References.{numbers_in, numbers_step, side_numbers, named_by, const_numbers, compared_numbers, in_conditions, of_default, of_selector, of_type, of_implied, own_references, symbol_references, picked_outside, of_choice_default, choice_references, node_by, node_of, numbers_of, references_of}
use Rattle.kconf_tree.specs.WellMade.{is_among, IsWellMade, IsNodeOf}
use Rattle.kconf_tree.proofs.MadeLaws.{member_within}
use Rattle.kconf_tree.proofs.Small.{or_left, or_right, number_self}

-- ---- who selects or implies a symbol is a symbol

-- a symbol's own are by it
at_by : (n : ℕ) (name : List ℕ) (j : ℕ) → j < n → (ss : List SelectOf) → AllByRecursion (λ (s : Selecting). s.by < n) (selects_at name j ss)
at_by n name j l [] = tt
at_by n name j l (s ∷ ss) = by (text_eq s.target name) (at_by n name j l ss)
  where
    by : (b : Bool) → AllByRecursion (λ (x : Selecting). x.by < n) (selects_at name j ss) → AllByRecursion (λ (x : Selecting). x.by < n) (cond b (record { by = j; cond = s.cond } ∷ selects_at name j ss) (selects_at name j ss))
    by true h = (l, h)
    by false h = h

each_joined : {X : Type 0} (P : X → Type 0) (xs ys : List X) → AllByRecursion P xs → AllByRecursion P ys → AllByRecursion P (xs ++ ys)
each_joined P [] ys a b = b
each_joined P (x ∷ xs) ys a b = (a.0, each_joined P xs ys a.1 b)

selects_by : (n : ℕ) (name : List ℕ) (j : ℕ) (ss : List Symbol) → j + length ss ≡ n → AllByRecursion (λ (s : Selecting). s.by < n) (selects_from name j ss)
selects_by n name j [] e = tt
selects_by n name j (s ∷ ss) e = each_joined (λ (x : Selecting). x.by < n) (selects_at name j s.selects) (selects_from name (suc j) ss) (at_by n name j (omega arith) s.selects) (selects_by n name (suc j) ss (omega arith))

implies_by : (n : ℕ) (name : List ℕ) (j : ℕ) (ss : List Symbol) → j + length ss ≡ n → AllByRecursion (λ (s : Selecting). s.by < n) (implies_from name j ss)
implies_by n name j [] e = tt
implies_by n name j (s ∷ ss) e = each_joined (λ (x : Selecting). x.by < n) (selects_at name j s.implies) (implies_from name (suc j) ss) (at_by n name j (omega arith) s.implies) (implies_by n name (suc j) ss (omega arith))

choice_past : {X : Type 0} (xs : List X) (i : ℕ) (d : X) → length xs ≤ i → ◌≡◌ {A = X} (get_or xs i d) d
choice_past [] i d l = refl
choice_past (x ∷ xs) zero d l = absurd (omega arith)
choice_past (x ∷ xs) (suc i) d l = choice_past xs i d (omega arith)

module _ (t : Shape) (made : IsWellMade t) where
  abbrev pub Below : ℕ → Type 0
  Below k = k < length t.symbols

  abbrev pub AllBelow : List ℕ → Type 0
  AllBelow = AllByRecursion Below

  joined : (xs ys : List ℕ) → AllBelow xs → AllBelow ys → AllBelow (xs ++ ys)
  joined = each_joined Below

  -- ---- expressions

  name_below : (name : List ℕ) → AllBelow (named_by t name)
  name_below name = by (number_of t name) refl
    where
      by : (o : Option ℕ) → number_of t name ≡ o → AllBelow (option_to_list o)
      by None e = tt
      by (Some k) e = ((position-Some (λ s. text_eq s.name name) t.symbols k no_symbol e).0, tt)

  modules_below : AllBelow (option_to_list t.modules)
  modules_below = by t.modules refl
    where
      by : (o : Option ℕ) → t.modules ≡ o → AllBelow (option_to_list o)
      by None e = tt
      by (Some k) e = (made.modules k e, tt)

  side_below : (s : Side) → AllBelow (side_numbers t s)
  side_below (side.Const x) = tt
  side_below (side.Name name) = name_below name
  side_below (side.Literal text) = tt
  side_below (side.Quoted text) = tt

  const_below : (p : Place) (x : Trit) → AllBelow (const_numbers t p x)
  const_below Condition N = tt
  const_below Condition M = modules_below
  const_below Condition Y = tt
  const_below Value N = tt
  const_below Value M = tt
  const_below Value Y = tt

  compared_below : (l r : Side) (o : Comparison) → AllBelow (compared_numbers t l r o)
  compared_below l r OfTrits = joined (side_numbers t l) (side_numbers t r) (side_below l) (side_below r)
  compared_below l r (OfText text) = tt

  module _ (p : Place) where
    abbrev Each : Type 0
    Each = (e : Expr) × AllBelow (numbers_in t p e)

    lists_below : (es : List Each) → AllBelow (flat_map (λ ks. ks) (map (numbers_in t p) (map (λ e. e.0) es)))
    lists_below [] = tt
    lists_below (e ∷ es) = joined (numbers_in t p e.0) (flat_map (λ ks. ks) (map (numbers_in t p) (map (λ e. e.0) es))) e.1 (lists_below es)

    abbrev StepBelow : Expr-F Expr → Type 0
    StepBelow z = AllBelow (numbers_step t p (map-Expr Expr (List ℕ) (numbers_in t p) z))

    step : (y : Expr-F Each) → StepBelow (map-Expr Each Expr (λ e. e.0) y)
    step (Expr-F.Const x) = const_below p x
    step (Expr-F.Name name) = name_below name
    step (Expr-F.Outer text) = tt
    step (Expr-F.Compare left s right) = compared_below left right (comparison_of t left s right)
    step (Expr-F.Neg e) = e.1
    step (Expr-F.And es) = lists_below es
    step (Expr-F.Or es) = lists_below es

    rolled : (x : Expr-F Expr) → StepBelow x → AllBelow (numbers_in t p (roll-Expr x))
    rolled x h = rw (fold-roll-Expr (List ℕ) (numbers_step t p) x) h

    numbers_below : (e : Expr) → AllBelow (numbers_in t p e)
    numbers_below = ind-Expr (λ e. AllBelow (numbers_in t p e)) (λ x y is. rolled x (subst StepBelow is (step y)))

  -- ---- symbols and choices

  conditions_below : (es : List Expr) → AllBelow (in_conditions t es)
  conditions_below [] = tt
  conditions_below (e ∷ es) = joined (numbers_in t Condition e) (in_conditions t es) (numbers_below Condition e) (conditions_below es)

  defaults_below : (ds : List DefaultOf) → AllBelow (flat_map (of_default t) ds)
  defaults_below [] = tt
  defaults_below (d ∷ ds) = joined (of_default t d) (flat_map (of_default t) ds) (joined (numbers_in t Condition d.cond) (numbers_in t Value d.value) (numbers_below Condition d.cond) (numbers_below Value d.value)) (defaults_below ds)

  selecting_below : (ss : List Selecting) → AllByRecursion (λ (s : Selecting). Below s.by) ss → AllBelow (flat_map (of_selector t) ss)
  selecting_below [] a = tt
  selecting_below (s ∷ ss) a = joined (of_selector t s) (flat_map (of_selector t) ss) (a.0, numbers_below Condition s.cond) (selecting_below ss a.1)

  type_below : (kind : Counts) → AllBelow (of_type t kind)
  type_below counts.Bool = tt
  type_below counts.Tristate = modules_below
  type_below counts.Neither = tt

  implied_below : (ss : List Selecting) (places : List Expr) → AllBelow (of_implied t ss places)
  implied_below [] places = tt
  implied_below (s ∷ ss) places = conditions_below places

  pub own_below : (k : ℕ) → AllBelow (own_references t k)
  own_below k = let prompts : List ℕ = in_conditions t (symbol_at t k).prompts in let defaults : List ℕ = flat_map (of_default t) (symbol_at t k).defaults in
      let places : List ℕ = of_implied t (impliers_of t k) (symbol_at t k).places in
      joined (prompts ++ defaults ++ places) (of_type t (counts_as t k)) (joined (prompts ++ defaults) places (joined prompts defaults (conditions_below (symbol_at t k).prompts) (defaults_below (symbol_at t k).defaults))
      (implied_below (impliers_of t k) (symbol_at t k).places)) (type_below (counts_as t k))

  pub symbol_below : (k : ℕ) → AllBelow (symbol_references t k)
  symbol_below k = let selecting : List ℕ = flat_map (of_selector t) (selectors_of t k) in let implying : List ℕ = flat_map (of_selector t) (impliers_of t k) in
      joined (own_references t k ++ selecting) implying (joined (own_references t k) selecting (own_below k) (selecting_below (selectors_of t k) (selects_by (length t.symbols) (symbol_at t k).name 0 t.symbols (omega arith))))
      (selecting_below (impliers_of t k) (implies_by (length t.symbols) (symbol_at t k).name 0 t.symbols (omega arith)))

  picked_below : (i : ℕ) (d : SelectOf) → AllBelow (picked_outside t i (number_of t d.target))
  picked_below i d = by (number_of t d.target) refl
    where
      within : (k : ℕ) (b : Bool) → Below k → AllBelow (cond b [] (k ∷ []))
      within k true l = tt
      within k false l = (l, tt)

      by : (o : Option ℕ) → number_of t d.target ≡ o → AllBelow (picked_outside t i o)
      by None e = tt
      by (Some k) e = within k (is_the (symbol_at t k).member_of i) (position-Some (λ s. text_eq s.name d.target) t.symbols k no_symbol e).0

  picks_below : (i : ℕ) (ds : List SelectOf) → AllBelow (flat_map (of_choice_default t i) ds)
  picks_below i [] = tt
  picks_below i (d ∷ ds) = joined (of_choice_default t i d) (flat_map (of_choice_default t i) ds) (joined (picked_outside t i (number_of t d.target)) (numbers_in t Condition d.cond) (picked_below i d) (numbers_below Condition d.cond)) (picks_below i ds)

  owns_below : (js : List ℕ) → AllBelow (flat_map (own_references t) js)
  owns_below [] = tt
  owns_below (j ∷ js) = joined (own_references t j) (flat_map (own_references t) js) (own_below j) (owns_below js)

  pub choice_below : (i : ℕ) → AllBelow (choice_references t i)
  choice_below i = let prompts : List ℕ = in_conditions t (choice_at t i).prompts in let defaults : List ℕ = flat_map (of_choice_default t i) (choice_at t i).defaults in
      let type : List ℕ = of_type t (counts_alone (choice_at t i).kind) in
      joined (prompts ++ defaults ++ type) (flat_map (own_references t) (choice_at t i).members)
      (joined (prompts ++ defaults) type (joined prompts defaults (conditions_below (choice_at t i).prompts) (picks_below i (choice_at t i).defaults)) (type_below (counts_alone (choice_at t i).kind)))
      (owns_below (choice_at t i).members)

  -- ---- nodes

  -- a choice that has members is one of the choices
  pub choice_within : (i j : ℕ) → (symbol_at t j).member_of ≡ Some i → i < length t.choices
  choice_within i j e = elim (cases_lt i (length t.choices)) [
    | inl lt ↦ lt
    | inr ge ↦ absurd (false≢true (sym (ap (λ (ch : OneChoice). is_among ch.members j) (choice_past t.choices i no_choice ge)) ∙ made.listed i j e))
  ]

  pub node_within : (k : ℕ) → k < length t.symbols → IsNodeOf t (node_of t k)
  node_within k l = by (symbol_at t k).member_of refl
    where
      by : (o : Option ℕ) → (symbol_at t k).member_of ≡ o → IsNodeOf t (node_by k o)
      by None e = l
      by (Some i) e = choice_within i k e

  nodes_within : (ks : List ℕ) → AllBelow ks → AllByRecursion (IsNodeOf t) (map (node_of t) ks)
  nodes_within [] a = tt
  nodes_within (k ∷ ks) a = (node_within k a.0, nodes_within ks a.1)

  -- what a node refers to is a node of the tree
  pub references_within : (n : Node) → All (IsNodeOf t) (references_of t n)
  references_within (Sym k) = All-from_recursion (IsNodeOf t) (references_of t (Sym k)) (nodes_within (symbol_references t k) (symbol_below k))
  references_within (Choice i) = All-from_recursion (IsNodeOf t) (references_of t (Choice i)) (nodes_within (choice_references t i) (choice_below i))
  references_within (Block f b) = All-from_recursion (IsNodeOf t) [] tt
  references_within (State f n u) = All-from_recursion (IsNodeOf t) [] tt
