-- The truths of a case meet the wishes of a question exactly where the case meets the question.
use Rattle.std.proofs.Common.{◌≡◌, ℕ, ◌==◌, Bool, true, false, not, ◌&&◌, ◌||◌, cond, List, [], ◌∷◌, ◌++◌, map, Option, None, Some, refl, ap, sym, ◌∙◌}
use Rattle.std.specs.Prelude.{codes}
use Rattle.std.specs.List.{AllByRecursion, list_all}
use Rattle.std.proofs.lemmas.List.Elements.{recursion_from_All}
use Rattle.ut_logic.specs.declared.item.Item.TheVariants as item
use Rattle.ut_logic.specs.Truth.{truth, truths, all_true}
use Rattle.ut_logic.proofs.FoldLaws.{truth-any_of, truth-Is, truth-No, truth-not_of}
use Rattle.kconf_tree.specs.Shape.{Shape, counts_as, number_of}
use Rattle.kconf_tree.specs.Value.{named}
use Rattle.kconf_constr.specs.Levels.{named_levels}
use Rattle.kconf_constr.specs.Scope.{number_among}
use Rattle.ut_case.specs.declared.question.Family.{Family}
use Rattle.ut_case.specs.declared.question.Family.TheVariants as family
use Rattle.ut_case.specs.declared.wish.Wish.{Wish}
use Rattle.ut_case.specs.declared.wish.Wish.TheVariants as wish
use Rattle.ut_case.specs.Built.{is_enabled, rule_truth}
use Rattle.ut_case.specs.BuiltFormulas.{enabled_formula, rule_formula}
use Rattle.ut_case.specs.Cases.{Case, IsCaseOf}
use Rattle.ut_case.specs.Items.{item_truth}
use Rattle.ut_case.specs.Needs.{formula_of, wish_of}
use Rattle.ut_case.specs.Numbering.{shared}
use Rattle.ut_case.specs.Posed.{IsPosed, IsWishOf, IsAskable}
use Rattle.ut_case.specs.Problem.{Basis, OfTree, OfRules, Problem}
use Rattle.ut_case.specs.Questions.{Question, is_met, meets}
use Rattle.ut_case.specs.StartFormulas.{scope_of}
use Rattle.case_laws.proofs.Lower.{TruthsAreReadBack}
use Rattle.case_laws.proofs.TreeCases.{reads_back, own_not_n, number_within}

-- ---- a symbol isn't n

module _ (back : TruthsAreReadBack) (p : Problem) (x : Case) (posed : IsPosed p) (belongs : IsCaseOf p family.Whole x) where
  -- a name of a tree with this number; an undeclared one is n
  tree_enabled : (t : Shape) → p.basis ≡ OfTree t → (name : List ℕ) (k : Option ℕ) → number_of t name ≡ k
      → truth (item_truth p family.Whole x) (named_levels (scope_of (shared p) family.Whole t) name k).not_n ≡ not (named t x.configuration name k == 0)
  tree_enabled t is name None e = truth-No (item_truth p family.Whole x) ∙ sym (ap (λ b. not (cond b 2 0 == 0)) (belongs.1 name))
  tree_enabled t is name (Some k) e = own_not_n p family.Whole x (scope_of (shared p) family.Whole t) (reads_back p t x posed is back family.Whole other belongs) k (number_within t name k e) (counts_as t k) refl
    where
      other : family.Whole ≡ family.Code → ⊥
      other h = absurd (cc)

  -- a name of a model text with this number
  rule_enabled : (k : Option ℕ) → truth (item_truth p family.Whole x) (rule_formula k) ≡ rule_truth x.configuration k
  rule_enabled None = truth-No (item_truth p family.Whole x)
  rule_enabled (Some k) = truth-Is (item_truth p family.Whole x) (item.SymY k)

  or_none : (a b : Bool) → (a || (b || false)) ≡ (a || b)
  or_none true b = refl
  or_none false true = refl
  or_none false false = refl

  enabled_in : (b : Basis) → p.basis ≡ b → (name : List ℕ) → truth (item_truth p family.Whole x) (enabled_formula (shared p) family.Whole b name) ≡ is_enabled b x.configuration name
  enabled_in (OfTree t) is name = tree_enabled t is name (number_of t name) refl
  enabled_in (OfRules r) is name = let one = number_among r.names (codes "CONFIG_" ++ name) in let other = number_among r.names (codes "CONFIG_" ++ name ++ codes "_MODULE") in
      truth-any_of (item_truth p family.Whole x) (rule_formula one ∷ rule_formula other ∷ [])
      ∙ ((λ i. rule_enabled one i || (rule_enabled other i || false)) ∙ or_none (rule_truth x.configuration one) (rule_truth x.configuration other))

  pub enabled : (name : List ℕ) → truth (item_truth p family.Whole x) (enabled_formula (shared p) family.Whole p.basis name) ≡ is_enabled p.basis x.configuration name
  enabled name = enabled_in p.basis refl name

-- ---- wishes

module _ (back : TruthsAreReadBack) (p : Problem) (q : Question) (askable : IsAskable p q) (x : Case) (belongs : IsCaseOf p q.family x) where
  whole_enabled : (f : Family) → f ≡ family.Whole → IsCaseOf p f x → (name : List ℕ) → truth (item_truth p f x) (enabled_formula (shared p) f p.basis name) ≡ is_enabled p.basis x.configuration name
  whole_enabled family.Code h b name = absurd (cc)
  whole_enabled family.Kconfig h b name = absurd (cc)
  whole_enabled family.Whole h b name = enabled back p x askable.posed b name

  one_wish : (w : Wish) → IsWishOf p q w → truth (item_truth p q.family x) (formula_of p q.family w) ≡ is_met p q.family x w
  one_wish (wish.Block b) h = truth-Is (item_truth p q.family x) (item.Block b.file b.block)
  one_wish (wish.On name) h = whole_enabled q.family h belongs name
  one_wish (wish.Off name) h = truth-not_of (item_truth p q.family x) (enabled_formula (shared p) q.family p.basis name) ∙ ap not (whole_enabled q.family h belongs name)
  one_wish (wish.Holds formula nodes) h = refl

  each_wish : (ws : List Wish) → AllByRecursion (IsWishOf p q) ws → all_true (truths (item_truth p q.family x) (map (formula_of p q.family) ws)) ≡ list_all (is_met p q.family x) ws
  each_wish [] h = refl
  each_wish (w ∷ ws) h = λ i. one_wish w h.0 i && each_wish ws h.1 i

  pub wishes_said : all_true (truths (item_truth p q.family x) (wish_of p q)) ≡ meets p q x
  wishes_said = each_wish q.wishes (recursion_from_All (IsWishOf p q) q.wishes askable.wished)
