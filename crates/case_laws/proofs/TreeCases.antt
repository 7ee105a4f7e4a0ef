-- What a case over a tree says of the values of symbols, where it keeps the tree's rules.
use Rattle.std.proofs.Common.{◌≡◌, ℕ, ◌==◌, ◌<◌, Bool, true, false, not, ◌||◌, cond, List, [], ◌∷◌, length, Some, refl, ap, sym, subst, ◌∙◌, Option, None}
use Rattle.std.specs.List.{Contains, flat_map}
use Rattle.std.specs.Option.{option_and_then}
use Rattle.std.proofs.lemmas.Bool.{false≢true}
use Rattle.std.proofs.lemmas.List.Quantifiers.{position-Some}
use Rattle.std.proofs.lemmas.List.Elements.{Contains-append_left}
use Rattle.ut_text.specs.Text.{text_eq}
use Rattle.ut_logic.specs.declared.item.Item.TheVariants as item
use Rattle.ut_logic.specs.declared.formula.Formula.TheVariants.{Is}
use Rattle.ut_logic.specs.Truth.{truth}
use Rattle.ut_logic.proofs.FoldLaws.{truth-any_of, truth-Is, truth-No}
use Rattle.kconf_tree.specs.declared.shape.Counts.{Counts}
use Rattle.kconf_tree.specs.declared.shape.Counts.TheVariants as counts
use Rattle.kconf_tree.specs.Looks.{AreSameIn}
use Rattle.kconf_tree.specs.Shape.{Shape, counts_as, number_of, no_symbol}
use Rattle.kconf_tree.specs.Valid.{KeepsRules}
use Rattle.kconf_tree.specs.Value.{stands_for}
use Rattle.kconf_tree.specs.WellMade.{IsWellMade}
use Rattle.kconf_constr.specs.Levels.{own_levels_as}
use Rattle.kconf_constr.specs.Scope.{Scope}
use Rattle.kconf_constr.specs.Standing.{IsCovered}
use Rattle.kconf_constr.specs.Stands.{truths_of, value_as, read_off}
use Rattle.ut_case.specs.declared.question.Family.{Family}
use Rattle.ut_case.specs.declared.question.Family.TheVariants as family
use Rattle.ut_case.specs.Cases.{Case, IsCaseOf, Keeps}
use Rattle.ut_case.specs.Items.{item_truth}
use Rattle.ut_case.specs.Numbering.{shared, basis_undeclared, source_undeclared}
use Rattle.ut_case.specs.Posed.{IsPosed, IsBasis, IsMadeTree}
use Rattle.ut_case.specs.Problem.{Basis, OfTree, Problem}
use Rattle.ut_case.specs.StartFormulas.{scope_of}
use Rattle.case_laws.proofs.Lower.{TruthsAreReadBack}

-- ---- values by their tests

-- a value that is y or n
two_not_n : (x : ℕ) (a : Bool) → x ≡ cond a 2 0 → a ≡ not (x == 0)
two_not_n x true h = sym (ap (λ (y : ℕ). not (y == 0)) h)
two_not_n x false h = sym (ap (λ (y : ℕ). not (y == 0)) h)

-- or m
three_not_n : (x : ℕ) (a b : Bool) → x ≡ cond a 2 (cond b 1 0) → (a || (b || false)) ≡ not (x == 0)
three_not_n x true b h = sym (ap (λ (y : ℕ). not (y == 0)) h)
three_not_n x false true h = sym (ap (λ (y : ℕ). not (y == 0)) h)
three_not_n x false false h = sym (ap (λ (y : ℕ). not (y == 0)) h)

-- ---- the tree of a problem

-- the tree is made
pub tree_made : (p : Problem) (t : Shape) → IsPosed p → p.basis ≡ OfTree t → IsMadeTree t
tree_made p t posed e = subst IsBasis e posed.made

pub well_made : (p : Problem) (t : Shape) → IsPosed p → p.basis ≡ OfTree t → IsWellMade t
well_made p t posed e = (tree_made p t posed e).ordered.made

module _ (p : Problem) (t : Shape) (x : Case) (posed : IsPosed p) (is : p.basis ≡ OfTree t) where
  -- a case of families Kconfig and Whole keeps the rules
  pub keeps : (f : Family) → (f ≡ family.Code → ⊥) → IsCaseOf p f x → KeepsRules t x.configuration
  keeps family.Code other belongs = absurd (other refl)
  keeps family.Kconfig other belongs = subst (λ (b : Basis). Keeps b x.configuration) is belongs
  keeps family.Whole other belongs = subst (λ (b : Basis). Keeps b x.configuration) is belongs.0

  -- the undeclared names that it reads as y have numbers
  pub covers : (f : Family) → (f ≡ family.Code → ⊥) → IsCaseOf p f x → IsCovered (scope_of (shared p) f t) x.configuration
  covers family.Code other belongs name there on = absurd (other refl)
  covers family.Kconfig other belongs name there on = (posed.numbered.exact name).1
      (Contains-append_left (basis_undeclared p.basis) (flat_map (source_undeclared p.basis) p.sources) name (subst (λ (b : Basis). Contains (basis_undeclared b) name) (sym is) there))
  covers family.Whole other belongs name there on = absurd (false≢true (sym (belongs.1 name) ∙ on))

  -- it is read off its own truths
  pub reads_back : TruthsAreReadBack → (f : Family) → (f ≡ family.Code → ⊥) → IsCaseOf p f x → AreSameIn t x.configuration (read_off (scope_of (shared p) f t) (truths_of (scope_of (shared p) f t) x.configuration))
  reads_back back f other belongs = back (scope_of (shared p) f t) (well_made p t posed is) x.configuration (covers f other belongs) (keeps f other belongs)

-- ---- a symbol isn't n

module _ (p : Problem) (f : Family) (x : Case) (s : Scope) (same : AreSameIn s.shape x.configuration (read_off s (truths_of s x.configuration))) where
  -- its value by what it counts as
  pub value_is : (k : ℕ) → k < length s.shape.symbols → (kind : Counts) → counts_as s.shape k ≡ kind → x.configuration.value k ≡ value_as kind (truths_of s x.configuration) k
  value_is k lt kind e = same.values k lt ∙ ap (λ (z : Counts). value_as z (truths_of s x.configuration) k) e

  pub own_not_n : (k : ℕ) → k < length s.shape.symbols → (kind : Counts) → counts_as s.shape k ≡ kind
      → truth (item_truth p f x) (own_levels_as kind k).not_n ≡ not (stands_for kind (x.configuration.value k) == 0)
  own_not_n k lt counts.Bool e = truth-Is (item_truth p f x) (item.SymY k) ∙ two_not_n (x.configuration.value k) (x.configuration.value k == 2) (value_is k lt counts.Bool e)
  own_not_n k lt counts.Tristate e = truth-any_of (item_truth p f x) (Is (item.SymY k) ∷ Is (item.SymM k) ∷ [])
      ∙ ((λ i. truth-Is (item_truth p f x) (item.SymY k) i || (truth-Is (item_truth p f x) (item.SymM k) i || false))
      ∙ three_not_n (x.configuration.value k) (x.configuration.value k == 2) (x.configuration.value k == 1) (value_is k lt counts.Tristate e))
  own_not_n k lt counts.Neither e = truth-No (item_truth p f x)

-- a declared name has a number of the tree
pub number_within : (t : Shape) (name : List ℕ) (k : ℕ) → number_of t name ≡ Some k → k < length t.symbols
number_within t name k e = (position-Some (λ s. text_eq s.name name) t.symbols k no_symbol e).0

-- P of `P_MODULE` is a symbol of the tree
pub module_within : (t : Shape) (o : Option (List ℕ)) (k : ℕ) → option_and_then (number_of t) o ≡ Some k → k < length t.symbols
module_within t None k e = absurd (cc)
module_within t (Some name) k e = number_within t name k e
