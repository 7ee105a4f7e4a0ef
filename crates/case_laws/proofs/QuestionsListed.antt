-- What the facts, the rules and the wishes of a question mention is listed.
use Rattle.std.proofs.Common.{◌≡◌, ℕ, ◌<◌, zero, suc, true, ◌||◌, List, [], ◌∷◌, ◌++◌, map, length, Option, None, Some, refl, ap, sym, subst, ◌⊎◌, inl, inr, arith}
use Rattle.std.specs.Prelude.{codes}
use Rattle.std.specs.List.{Contains, flat_map}
use Rattle.std.specs.Option.{option_to_list}
use Rattle.std.proofs.lemmas.Bool.{false≢true}
use Rattle.std.proofs.lemmas.List.Elements.{All-contains, Contains-append_right}
use Rattle.ut_logic.specs.declared.item.Item.{Item}
use Rattle.ut_logic.specs.declared.item.Item.TheVariants as item
use Rattle.ut_logic.specs.declared.node.Node.{Node}
use Rattle.ut_logic.specs.declared.node.Node.TheVariants as node
use Rattle.ut_logic.specs.declared.facts.Fact.{Fact}
use Rattle.ut_logic.specs.declared.facts.Rules.{Rules}
use Rattle.ut_logic.specs.declared.formula.Formula.{Formula}
use Rattle.ut_logic.specs.declared.formula.Formula.TheVariants.{Is}
use Rattle.ut_logic.specs.Assign.{is_in}
use Rattle.ut_logic.specs.Owners.{owner}
use Rattle.ut_logic.specs.Truth.{mentioned, together}
use Rattle.clausify.specs.Order.{IsWishOver, is_outer, items_of}
use Rattle.model_slice.specs.Named.{AreKnown}
use Rattle.kconf_tree.specs.declared.shape.Counts.{Counts}
use Rattle.kconf_tree.specs.declared.shape.Counts.TheVariants as counts
use Rattle.kconf_tree.specs.Shape.{Shape, counts_as, number_of}
use Rattle.kconf_constr.specs.Closed.{IsTrit}
use Rattle.kconf_constr.specs.Levels.{named_levels, own_levels_as}
use Rattle.kconf_constr.specs.Scope.{number_among}
use Rattle.ut_case.specs.declared.question.Family.{Family}
use Rattle.ut_case.specs.declared.question.Family.TheVariants as family
use Rattle.ut_case.specs.declared.wish.Wish.{Wish}
use Rattle.ut_case.specs.declared.wish.Wish.TheVariants as wish
use Rattle.ut_case.specs.BuiltFormulas.{enabled_formula, enabled_nodes, rule_formula}
use Rattle.ut_case.specs.Facts.{facts_for, nodes_for}
use Rattle.ut_case.specs.Needs.{AreNeeds, formula_of, needed_facts, roots_of, wish_of}
use Rattle.ut_case.specs.Numbering.{shared}
use Rattle.ut_case.specs.Posed.{IsAskable, IsFormulaOver, IsItemOf, IsOuterOf, IsWishOf}
use Rattle.ut_case.specs.Problem.{Basis, OfTree, OfRules, Problem}
use Rattle.ut_case.specs.Questions.{Question}
use Rattle.ut_case.specs.StartFormulas.{scope_of, symbol_nodes}
use Rattle.case_laws.specs.Listed.{QuestionsAreKnown, QuestionsAreListed}
use Rattle.case_laws.proofs.Basics.{or_left, or_right}
use Rattle.case_laws.proofs.Found.{given_by}
use Rattle.case_laws.proofs.ItemKinds.{needed_fact}
use Rattle.case_laws.proofs.Lower.{FactsAreClosed, SourcesAreKnown}
use Rattle.case_laws.proofs.MacroStarts.{contains_flat}
use Rattle.case_laws.proofs.MentionedSources.{MentionLaws, in_either, owned_listed}
use Rattle.case_laws.proofs.MentionedTrees.{facts_listed, name_listed, name_needed, rules_listed}
use Rattle.case_laws.proofs.OwnListed.{OwnFits}
use Rattle.case_laws.proofs.Said.{Says, says_any, says_both, says_is, says_no, says_not}
use Rattle.case_laws.proofs.StartKinds.{number_below}

module _ (laws : MentionLaws) (closed : FactsAreClosed) (sources : SourcesAreKnown) (p : Problem) (q : Question) (askable : IsAskable p q) (nodes : List Node) (needs : AreNeeds p q nodes)
    (known : AreKnown (facts_for p q) (nodes_for q.family p.basis ++ flat_map (roots_of p) q.wishes)) where
  -- listed in the facts, or an outer condition
  abbrev IsOver : Item → Type 0
  IsOver i = (is_in (items_of (needed_facts p q nodes)) i || is_outer i) ≡ true

  of_listed : (i : Item) → is_in (items_of (needed_facts p q nodes)) i ≡ true → IsOver i
  of_listed i h = or_left (is_in (items_of (needed_facts p q nodes)) i) (is_outer i) h

  -- the nodes of a wish are needed
  root_needed : (w : Wish) → Contains q.wishes w → (n : Node) → Contains (roots_of p w) n → Contains nodes n
  root_needed w there n h = All-contains (Contains nodes) (nodes_for q.family p.basis ++ flat_map (roots_of p) q.wishes) n needs.least.rooted
      (Contains-append_right (nodes_for q.family p.basis) (flat_map (roots_of p) q.wishes) n (contains_flat (roots_of p) q.wishes w n there h))

  own : (n : Node) → Contains nodes n → (i : Item) → owner i ≡ Some n → OwnFits p.basis i → IsOver i
  own n h i o fit = of_listed i (owned_listed laws p q nodes needs known n h i o fit)

  -- ---- that a symbol isn't n

  level_over : (t : Shape) → p.basis ≡ OfTree t → (k : ℕ) → Contains nodes (node.Sym k) → (kind : Counts) → counts_as t k ≡ kind → Says IsOver (own_levels_as kind k).not_n
  level_over t is k h counts.Bool e = says_is IsOver (item.SymY k) (own (node.Sym k) h (item.SymY k) refl (subst (λ (b : Basis). OwnFits b (item.SymY k)) (sym is) (subst IsTrit (sym e) tt)))
  level_over t is k h counts.Tristate e = says_any IsOver (Is (item.SymY k) ∷ Is (item.SymM k) ∷ [])
      (says_both IsOver (Is (item.SymY k)) (Is (item.SymM k))
      (says_is IsOver (item.SymY k) (own (node.Sym k) h (item.SymY k) refl (subst (λ (b : Basis). OwnFits b (item.SymY k)) (sym is) (subst IsTrit (sym e) tt))))
      (says_is IsOver (item.SymM k) (own (node.Sym k) h (item.SymM k) refl (subst (λ (b : Basis). OwnFits b (item.SymM k)) (sym is) e))))
  level_over t is k h counts.Neither e = says_no IsOver

  -- over a tree, where undeclared names are n
  tree_over : (t : Shape) → p.basis ≡ OfTree t → (name : List ℕ) (o : Option ℕ) → ((k : ℕ) → o ≡ Some k → Contains nodes (node.Sym k)) → Says IsOver (named_levels (scope_of (shared p) family.Whole t) name o).not_n
  tree_over t is name None h = says_no IsOver
  tree_over t is name (Some k) h = level_over t is k (h k refl) (counts_as t k) refl

  rule_over : (r : Rules) → p.basis ≡ OfRules r → (q.family ≡ family.Code → ⊥) → (o : Option ℕ) → ((k : ℕ) → o ≡ Some k → k < length r.names) → Says IsOver (rule_formula o)
  rule_over r is asks None lt = says_no IsOver
  rule_over r is asks (Some k) lt = says_is IsOver (item.SymY k) (of_listed (item.SymY k) (name_listed laws closed sources p q askable.posed nodes needs known r is k (lt k refl)
      (name_needed laws closed sources p q askable.posed nodes needs known asks r is k (lt k refl))))

  symbol_there : (o : Option ℕ) (k : ℕ) → o ≡ Some k → Contains (symbol_nodes (option_to_list o)) (node.Sym k)
  symbol_there None k e = absurd (cc)
  symbol_there (Some j) k e = (0, omega arith, ap (λ (x : Option ℕ). node_at x) e)
    where
      node_at : Option ℕ → Node
      node_at None = node.Sym 0
      node_at (Some n) = node.Sym n

  enabled_over : (b : Basis) → p.basis ≡ b → (q.family ≡ family.Code → ⊥) → (name : List ℕ) → ((n : Node) → Contains (enabled_nodes b name) n → Contains nodes n) → Says IsOver (enabled_formula (shared p) family.Whole b name)
  enabled_over (OfTree t) is asks name needed = tree_over t is name (number_of t name) (λ k e. needed (node.Sym k) (symbol_there (number_of t name) k e))
  enabled_over (OfRules r) is asks name needed = let one = number_among r.names (codes "CONFIG_" ++ name) in let other = number_among r.names (codes "CONFIG_" ++ name ++ codes "_MODULE") in
      says_any IsOver (rule_formula one ∷ rule_formula other ∷ []) (says_both IsOver (rule_formula one) (rule_formula other)
      (rule_over r is asks one (λ k g. number_below r.names (codes "CONFIG_" ++ name) k g)) (rule_over r is asks other (λ k g. number_below r.names (codes "CONFIG_" ++ name ++ codes "_MODULE") k g)))

  whole_over : (f : Family) → q.family ≡ f → f ≡ family.Whole → (name : List ℕ) → ((n : Node) → Contains (enabled_nodes p.basis name) n → Contains nodes n) → Says IsOver (enabled_formula (shared p) f p.basis name)
  whole_over family.Code e h name needed = absurd (cc)
  whole_over family.Kconfig e h name needed = absurd (cc)
  whole_over family.Whole e h name needed = enabled_over p.basis refl (λ g. absurd (cc)) name needed

  -- ---- a formula

  formula_over : (formula : Formula) (ns : List Node) → ((n : Node) → Contains ns n → Contains nodes n) → IsFormulaOver p q ns formula → Says IsOver formula
  formula_over formula ns needed over i m = by (over.items i m)
    where
      outer : IsOuterOf p i → is_outer i ≡ true
      outer r = ap is_outer r.1

      by : IsOuterOf p i ⊎ IsItemOf p q ns i → IsOver i
      by (inl r) = or_right (is_in (items_of (needed_facts p q nodes)) i) (is_outer i) (outer r)
      by (inr r) = of_listed i (let g = given_by (λ (f : Fact). f.items) i (facts_for p q) (r.node ∷ []) r.own in
          (needed_fact p q nodes g.node (one_node g.node g.needed) g.of.found).gives (λ (f : Fact). f.items) i g.of.item)
        where
          one_node : (n : Node) → Contains (r.node ∷ []) n → Contains nodes n
          one_node n (zero, l, e) = subst (Contains nodes) e (needed r.node r.listed)
          one_node n (suc k, l, e) = absurd (omega (arith, l))

  wish_over : (w : Wish) → Contains q.wishes w → IsWishOf p q w → Says IsOver (formula_of p q.family w)
  wish_over (wish.Block b) there h = says_is IsOver (item.Block b.file b.block) (own (node.Block b.file b.block) (root_needed (wish.Block b) there (node.Block b.file b.block) (0, omega arith, refl)) (item.Block b.file b.block) refl tt)
  wish_over (wish.On name) there h = whole_over q.family refl h name (root_needed (wish.On name) there)
  wish_over (wish.Off name) there h = says_not IsOver (enabled_formula (shared p) q.family p.basis name) (whole_over q.family refl h name (root_needed (wish.Off name) there))
  wish_over (wish.Holds formula ns) there h = formula_over formula ns (root_needed (wish.Holds formula ns) there) h

  each_over : (ws : List Wish) → ((w : Wish) → Contains ws w → Contains q.wishes w) → (i : Item) → is_in (together (map mentioned (map (formula_of p q.family) ws))) i ≡ true → IsOver i
  each_over [] within i m = absurd (false≢true m)
  each_over (w ∷ ws) within i m = elim (in_either (mentioned (formula_of p q.family w)) (together (map mentioned (map (formula_of p q.family) ws))) i m) [
    | inl h ↦ let there = within w (0, omega arith, refl) in wish_over w there (All-contains (IsWishOf p q) q.wishes w askable.wished there) i h
    | inr h ↦ each_over ws (λ x g. within x (suc g.0, omega (arith, g.1), g.2)) i h
  ]

  pub wishes_listed : IsWishOver (needed_facts p q nodes) (wish_of p q)
  wishes_listed i m = each_over q.wishes (λ w h. h) i m

pub questions_listed : MentionLaws → FactsAreClosed → SourcesAreKnown → QuestionsAreKnown → QuestionsAreListed
questions_listed laws closed sources all p q nodes askable needs = let known = all p q askable in record {
  facts = facts_listed laws closed sources p q askable.posed nodes needs known;
  rules = rules_listed laws closed sources p q askable.posed nodes needs known;
  wishes = wishes_listed laws closed sources p q askable nodes needs known;
}
