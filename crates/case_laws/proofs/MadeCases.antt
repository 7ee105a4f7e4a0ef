-- Truths of items make a case: over a tree from the configuration that is read off and completed, over a model text from the
-- names that are true.
use Rattle.std.proofs.Common.{◌≡◌, ℕ, ◌==◌, ◌<◌, Bool, true, false, ◌&&◌, cond, List, [], ◌∷◌, ◌++◌, length, refl, ap, sym, subst, ◌∙◌, inl, inr, arith}
use Rattle.std.specs.Prelude.{slice_index_or}
use Rattle.std.specs.List.{Contains, flat_map}
use Rattle.std.proofs.lemmas.Bool.{false≢true}
use Rattle.ut_logic.specs.declared.item.Item.{Item}
use Rattle.ut_logic.specs.declared.item.Item.TheVariants as item
use Rattle.ut_logic.specs.declared.node.Node.{Node}
use Rattle.ut_logic.specs.declared.node.Node.TheVariants as node
use Rattle.ut_logic.specs.declared.facts.Rules.{Rules}
use Rattle.ut_logic.specs.declared.formula.Formula.{Formula}
use Rattle.ut_logic.specs.Facts.{MeetsAll}
use Rattle.ut_logic.specs.Truth.{all_true, truth, truths}
use Rattle.ut_logic.proofs.MentionLaws.{truth-agree}
use Rattle.complete_conf.specs.Parts.{IsRest}
use Rattle.model_slice.specs.Named.{AreKnown}
use Rattle.model_slice.proofs.TestLaws.{contains-has}
use Rattle.kconf_tree.specs.Parts.{Part, AgreeOn, IsRightPart, part_of_nodes}
use Rattle.kconf_tree.specs.Shape.{Shape}
use Rattle.kconf_tree.specs.Valid.{KeepsRules}
use Rattle.kconf_tree.specs.Value.{Configuration, HasValues}
use Rattle.kconf_constr.specs.Scope.{Scope, number_among}
use Rattle.kconf_constr.specs.Standing.{SomeConfiguration, StandsFor}
use Rattle.kconf_constr.specs.Stands.{read_off, undeclared_truth}
use Rattle.ut_case.specs.declared.question.Family.{Family}
use Rattle.ut_case.specs.declared.question.Family.TheVariants as family
use Rattle.ut_case.specs.Cases.{Case, IsCaseOf, Keeps, name_truth}
use Rattle.ut_case.specs.Facts.{basis_rules, facts_for, nodes_for, rules_for}
use Rattle.ut_case.specs.Laws.{PartsComplete}
use Rattle.ut_case.specs.Least.{IsFreeOutside}
use Rattle.ut_case.specs.Needs.{AreNeeds, needed_facts, roots_of}
use Rattle.ut_case.specs.Numbering.{shared}
use Rattle.ut_case.specs.Posed.{AreRules, IsBasis, IsPosed}
use Rattle.ut_case.specs.Problem.{Basis, OfTree, OfRules, Problem}
use Rattle.ut_case.specs.Questions.{Question}
use Rattle.ut_case.specs.StartFormulas.{scope_of, undeclared_in}
use Rattle.case_laws.proofs.FreeTruths.{IsMadeOf, IsReadOn, is_of_environment, made_of}
use Rattle.case_laws.proofs.ItemKinds.{ItemIs}
use Rattle.case_laws.proofs.Numbered.{own_number}
use Rattle.case_laws.proofs.OneList.{In, contains_in}
use Rattle.case_laws.proofs.TreeCases.{tree_made}
use Rattle.case_laws.proofs.TreeNodes.{PartLaws, closed_part, of_tree, same_part, stand_at}

-- ---- what is made

-- how undeclared names are read
abbrev pub name_read : Problem → Question → (Item → Bool) → List ℕ → Bool
name_read p q v name = undeclared_truth v (number_among (undeclared_in (shared p) q.family) name)

-- a case of the family that has the truths, is free outside the nodes, and has nothing else in its environment
pub record IsCaseFor (p : Problem) (q : Question) (nodes : List Node) (v : Item → Bool) : Type 0 where
  pub case : Case
  pub belongs : IsCaseOf p q.family case
  pub made : IsMadeOf p q nodes v case
  pub outside : IsFreeOutside p.basis nodes case.configuration
  pub environment : (i : Item) → case.environment i ≡ (is_of_environment i && v i)
  pub undeclared : (name : List ℕ) → case.configuration.undeclared name ≡ name_read p q v name

-- the environment of truths
abbrev environment_of : (Item → Bool) → Item → Bool
environment_of v i = is_of_environment i && v i

environment_same : (v : Item → Bool) (i : Item) → is_of_environment i ≡ true → (is_of_environment i && v i) ≡ v i
environment_same v i e = ap (λ (b : Bool). b && v i) e

-- a case that keeps the basis belongs to the family
belongs_to : (p : Problem) (v : Item → Bool) (x : Case) (f : Family) → ((f ≡ family.Code → ⊥) → Keeps p.basis x.configuration)
    → ((name : List ℕ) → x.configuration.undeclared name ≡ undeclared_truth v (number_among (undeclared_in (shared p) f) name)) → IsCaseOf p f x
belongs_to p v x family.Code keeps names = tt
belongs_to p v x family.Kconfig keeps names = keeps (λ h. absurd (cc))
belongs_to p v x family.Whole keeps names = (keeps (λ h. absurd (cc)), names)

-- ---- over a tree

module _ (laws : PartLaws) (complete : PartsComplete) (p : Problem) (q : Question) (t : Shape) (posed : IsPosed p) (is : p.basis ≡ OfTree t) (nodes : List Node) (needs : AreNeeds p q nodes)
    (known : AreKnown (facts_for p q) (nodes_for q.family p.basis ++ flat_map (roots_of p) q.wishes)) (v : Item → Bool) (met : MeetsAll v (needed_facts p q nodes)) where
  abbrev s : Scope
  s = scope_of (shared p) q.family t

  some : SomeConfiguration (scope_of (shared p) q.family t) (of_tree nodes) v
  some = stand_at laws p q t posed is nodes needs known v met

  stands : StandsFor (scope_of (shared p) q.family t) (of_tree nodes) v (read_off (scope_of (shared p) q.family t) v)
  stands = subst (λ (c : Configuration). StandsFor (scope_of (shared p) q.family t) (of_tree nodes) v c) some.read some.stands

  right : IsRightPart t (read_off (scope_of (shared p) q.family t) v) (part_of_nodes nodes)
  right = subst (λ (part : Part). IsRightPart t (read_off s v) part) (same_part nodes) (subst (λ (c : Configuration). IsRightPart t c (part_of_nodes (of_tree nodes))) some.read some.right)

  whole : (d : Configuration) × KeepsRules t d × AgreeOn (part_of_nodes nodes) (read_off (scope_of (shared p) q.family t) v) d × IsRest t (part_of_nodes nodes) d
  whole = complete t (part_of_nodes nodes) (read_off s v) (tree_made p t posed is) (subst HasValues some.read some.values) (closed_part laws p q t posed is nodes needs known) right

  pub tree_case : IsCaseFor p q nodes v
  tree_case = record {
    case = record { configuration = d; environment = λ i. is_of_environment i && v i };
    belongs = belongs_to p v (record { configuration = d; environment = λ i. is_of_environment i && v i }) q.family (λ other. subst (λ (b : Basis). Keeps b d) (sym is) keeps) (λ name. sym (agree.undeclared name));
    made = made_of p q t is nodes v stands d read (λ i. is_of_environment i && v i) (environment_same v);
    outside = subst (λ (b : Basis). IsFreeOutside b nodes d) (sym is) rest;
    environment = λ i. refl;
    undeclared = λ name. sym (agree.undeclared name);
  }
    where
      d : Configuration
      d = whole.0

      keeps : KeepsRules t whole.0
      keeps = whole.1

      agree : AgreeOn (part_of_nodes nodes) (read_off (scope_of (shared p) q.family t) v) whole.0
      agree = whole.2

      rest : IsRest t (part_of_nodes nodes) whole.0
      rest = whole.3

      read : IsReadOn (scope_of (shared p) q.family t) nodes v whole.0
      read = record {
        values = λ k there. sym (agree.values k (contains-has nodes (node.Sym k) there));
        modes = λ k there. sym (agree.modes k (contains-has nodes (node.Choice k) there));
        outers = λ k. sym (agree.outers k);
        undeclared = λ name. sym (agree.undeclared name);
      }

-- ---- over a model text

bool_back : (b : Bool) → (cond b 2 0 == 2) ≡ b
bool_back true = refl
bool_back false = refl

none_value : (b : Bool) → b ≡ false → ◌≡◌ {A = ℕ} (cond b 2 0) 0
none_value true h = absurd (false≢true (sym h))
none_value false h = refl

off_by : (b : Bool) → (b ≡ true → ⊥) → b ≡ false
off_by true never = absurd (never refl)
off_by false never = refl

module _ (p : Problem) (q : Question) (r : Rules) (posed : IsPosed p) (is : p.basis ≡ OfRules r) (nodes : List Node) (v : Item → Bool) (items : (i : Item) → v i ≡ true → ItemIs p q nodes p.basis i)
    (met : all_true (truths v (rules_for q.family p.basis)) ≡ true) where
  abbrev e : Configuration
  e = record { value = λ k. cond (v (item.SymY k)) 2 0; mode = λ i. 0; outer = λ k. v (item.Outer k); undeclared = name_read p q v }

  no_choice : {X : Type 0} (t : Shape) → p.basis ≡ OfTree t → X
  no_choice t h = let wrong : OfRules r ≡ OfTree t = sym is ∙ h in absurd (cc)

  no_m : {X : Type 0} (k : ℕ) → ItemIs p q nodes p.basis (item.SymM k) → X
  no_m k h = let at : ItemIs p q nodes (OfRules r) (item.SymM k) = subst (λ (b : Basis). ItemIs p q nodes b (item.SymM k)) is h in absurd at.1

  name_is : (f : Family) (k : ℕ) → k < length (undeclared_in (shared p) f) → undeclared_truth v (number_among (undeclared_in (shared p) f) (slice_index_or p.undeclared k [])) ≡ v (item.Undeclared k)
  name_is family.Code k lt = absurd (omega (arith, lt))
  name_is family.Kconfig k lt = ap (undeclared_truth v) (own_number p.undeclared k posed.numbered.rising lt)
  name_is family.Whole k lt = absurd (omega (arith, lt))

  rule_made : IsMadeOf p q nodes v (record { configuration = record { value = λ k. cond (v (item.SymY k)) 2 0; mode = λ i. 0; outer = λ k. v (item.Outer k); undeclared = name_read p q v }; environment = λ i. is_of_environment i && v i })
  rule_made = record {
    first = λ k h. bool_back (v (item.SymY k));
    second = λ k h. no_m k h;
    mode = λ k h. no_choice h.1.0 h.1.1;
    middle = λ k h. no_choice h.1.0 h.1.1;
    undeclared = λ k h. name_is q.family k h;
    outers = λ k. refl;
    environment = environment_same v;
  }

  rule_same : (formula : Formula) → Contains r.holds formula → truth v formula ≡ truth (name_truth e) formula
  rule_same formula there = truth-agree v (name_truth e) formula (λ i h. let rules : AreRules r = subst IsBasis is posed.made in let w = rules.within formula i there h in
      ap v w.1 ∙ (sym (bool_back (v (item.SymY w.0))) ∙ sym (ap (name_truth e) w.1)))

  rules_same : (fs : List Formula) → ((formula : Formula) → In fs formula → Contains r.holds formula) → truths v fs ≡ truths (name_truth e) fs
  rules_same [] within = refl
  rules_same (formula ∷ fs) within = let one = rule_same formula (within formula (inl refl)) in let rest = rules_same fs (λ g h. within g (inr h)) in λ i. one i ∷ rest i

  rules_there : (f : Family) → (f ≡ family.Code → ⊥) → all_true (truths v (rules_for f p.basis)) ≡ true → all_true (truths v r.holds) ≡ true
  rules_there family.Code other h = absurd (other refl)
  rules_there family.Kconfig other h = subst (λ (b : Basis). all_true (truths v (basis_rules b)) ≡ true) is h
  rules_there family.Whole other h = subst (λ (b : Basis). all_true (truths v (basis_rules b)) ≡ true) is h

  rule_keeps : (q.family ≡ family.Code → ⊥) → Keeps p.basis e
  rule_keeps other = subst (λ (b : Basis). Keeps b e) (sym is) (sym (ap all_true (rules_same r.holds (λ g k. contains_in r.holds g k))) ∙ rules_there q.family other met)

  rule_outside : IsFreeOutside p.basis nodes e
  rule_outside = subst (λ (b : Basis). IsFreeOutside b nodes e) (sym is) (λ k out. none_value (v (item.SymY k)) (off_by (v (item.SymY k)) (λ on. false≢true (sym out ∙ contains-has nodes (node.Sym k) (items (item.SymY k) on).0))))

  pub rule_case : IsCaseFor p q nodes v
  rule_case = record {
    case = record { configuration = e; environment = λ i. is_of_environment i && v i };
    belongs = belongs_to p v (record { configuration = e; environment = λ i. is_of_environment i && v i }) q.family rule_keeps (λ name. refl);
    made = rule_made;
    outside = rule_outside;
    environment = λ i. refl;
    undeclared = λ name. refl;
  }
