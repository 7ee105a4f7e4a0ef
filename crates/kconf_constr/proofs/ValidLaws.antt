-- The facts of a tree are met exactly where each node is right, and so where the configuration keeps the rules.
use Rattle.std.proofs.Common.{◌≡◌, ◌↔◌, ℕ, ◌<◌, ◌≤◌, ◌==◌, Bool, true, false, ◌&&◌, ◌||◌, cond, Option, None, Some, List, [], ◌∷◌, length, All, is_some, refl, ap, sym, subst, ◌∙◌, arith, inl, inr}
use Rattle.std.specs.List.{list_all, AllByRecursion}
use Rattle.std.proofs.lemmas.Bool.{false≢true}
use Rattle.std.proofs.lemmas.List.Elements.{All-nil, All-from_recursion, recursion_from_All}
use Rattle.ut_logic.specs.declared.item.Item.{Item}
use Rattle.ut_logic.specs.declared.item.Item.TheVariants.{SymY, SymM}
use Rattle.ut_logic.specs.declared.facts.Fact.{Fact}
use Rattle.ut_logic.specs.Facts.{Meets, MeetsAll, IsDefined}
use Rattle.ut_logic.specs.Truth.{truths, all_true}
use Rattle.kconf_tree.specs.declared.shape.Counts.{Counts}
use Rattle.kconf_tree.specs.declared.shape.Counts.TheVariants as counts
use Rattle.kconf_entries.specs.declared.entries.Kind.{Kind}
use Rattle.kconf_entries.specs.declared.entries.Kind.TheVariants as kind
use Rattle.kconf_tree.specs.Shape.{Shape, symbol_at, choice_at, counts_as, counts_in, counts_with, is_member, is_the}
use Rattle.kconf_tree.specs.WellMade.{IsWellMade, is_among}
use Rattle.kconf_tree.specs.Value.{Configuration}
use Rattle.kconf_tree.specs.Valid.{choice_counts, KeepsRules, IsValid}
use Rattle.kconf_tree.specs.Right.{IsRight, is_right, is_right_choice}
use Rattle.kconf_tree.proofs.Small.{and_left, and_right, both_true, or_right, or_cases, number_is, number_self}
use Rattle.kconf_tree.proofs.MadeLaws.{member_within}
use Rattle.kconf_tree.proofs.ReferenceLaws.{choice_within}
use Rattle.kconf_tree.proofs.RightChoices.{choice_by_test, test_by_choice}
use Rattle.kconf_tree.proofs.RightLaws.{right_by_test, test_by_right, setting_from_right}
use Rattle.kconf_constr.specs.Scope.{Scope, whole}
use Rattle.kconf_constr.specs.Stands.{read_off, value_as, has_one_value, has_one_mode}
use Rattle.kconf_constr.specs.Closed.{IsTrit}
use Rattle.kconf_constr.specs.SymbolFormulas.{non_member_holds}
use Rattle.kconf_constr.specs.FactsOf.{facts_of, symbol_fact, choice_fact}
use Rattle.kconf_constr.proofs.EachFact.{each_fact, of_symbol, of_choice}
use Rattle.kconf_constr.specs.Meaning.{SymbolIsRight, ChoiceIsRight, SaysRight, HaveOneValue}
use Rattle.kconf_constr.proofs.PropertyLaws.{visibility_stands, reverse_stands, default_stands}
use Rattle.kconf_constr.proofs.SymbolLaws.{symbol_law}
use Rattle.kconf_constr.proofs.ChoiceLaws.{MembersFit, choice_law}

-- ---- what the members of a choice count as

pub each_among : (P : ℕ → Type 0) (ms : List ℕ) → ((j : ℕ) → is_among ms j ≡ true → P j) → AllByRecursion P ms
each_among P [] f = tt
each_among P (m ∷ ms) f = (f m (ap (λ b. b || is_among ms m) (number_self m)), each_among P ms (λ j h. f j (or_right (m == j) (is_among ms j) h)))

pub among_each : (P : ℕ → Type 0) (ms : List ℕ) → AllByRecursion P ms → (j : ℕ) → is_among ms j ≡ true → P j
among_each P [] h j a = absurd (false≢true a)
among_each P (m ∷ ms) h j a = elim (or_cases (m == j) (is_among ms j) a) [
  | inl here ↦ subst P (number_is m j here) h.0
  | inr there ↦ among_each P ms h.1 j there
]

counts_by : (t : Shape) (i j : ℕ) → (symbol_at t j).member_of ≡ Some i → (kind : Counts) → choice_counts t i ≡ kind → counts_as t j ≡ cond (is_the t.modules j) counts.Bool (counts_in kind (symbol_at t j).kind)
counts_by t i j e kind h = ap (λ o. cond (is_the t.modules j) counts.Bool (counts_with t (symbol_at t j).kind o)) e ∙ ap (λ c. cond (is_the t.modules j) counts.Bool (counts_in c (symbol_at t j).kind)) h

same_both : (b : Bool) → ◌≡◌ {A = Counts} (cond b counts.Bool counts.Bool) counts.Bool
same_both true = refl
same_both false = refl

a_trit : (b : Bool) (k : Kind) → IsTrit (cond b counts.Bool (counts_in counts.Tristate k))
a_trit true k = tt
a_trit false kind.Bool = tt
a_trit false kind.Tristate = tt
a_trit false kind.Str = tt
a_trit false kind.Hex = tt
a_trit false kind.Int = tt
a_trit false kind.Untyped = tt

module _ (s : Scope) (made : IsWellMade s.shape) where
  pub members_fit : (v : Item → Bool) (i : ℕ) → MembersFit s v (choice_counts s.shape i) (choice_at s.shape i).members
  members_fit v i = by (choice_counts s.shape i) refl
    where
      bools : (kind : Counts) → choice_counts s.shape i ≡ kind → ((b : Bool) (k : Kind) → ◌≡◌ {A = Counts} (cond b counts.Bool (counts_in kind k)) counts.Bool) → AllByRecursion (λ j. counts_as s.shape j ≡ counts.Bool) (choice_at s.shape i).members
      bools kind e f = each_among (λ j. counts_as s.shape j ≡ counts.Bool) (choice_at s.shape i).members (λ j a. counts_by s.shape i j (made.of_choice i j a) kind e ∙ f (is_the s.shape.modules j) (symbol_at s.shape j).kind)

      by : (kind : Counts) → choice_counts s.shape i ≡ kind → MembersFit s v kind (choice_at s.shape i).members
      by counts.Bool e = bools counts.Bool e (λ b k. same_both b)
      by counts.Tristate e = each_among (λ j. IsTrit (counts_as s.shape j)) (choice_at s.shape i).members (λ j a. subst IsTrit (sym (counts_by s.shape i j (made.of_choice i j a) counts.Tristate e)) (a_trit (is_the s.shape.modules j) (symbol_at s.shape j).kind))
      by counts.Neither e = bools counts.Neither e (λ b k. same_both b)

  -- and so each is bool or tristate
  pub members_trit : (i : ℕ) → AllByRecursion (λ j. IsTrit (counts_as s.shape j)) (choice_at s.shape i).members
  members_trit i = by (choice_counts s.shape i) (members_fit (λ x. false) i)
    where
      each : (js : List ℕ) → AllByRecursion (λ j. counts_as s.shape j ≡ counts.Bool) js → AllByRecursion (λ j. IsTrit (counts_as s.shape j)) js
      each [] h = tt
      each (j ∷ js) h = (subst IsTrit (sym h.0) tt, each js h.1)

      by : (kind : Counts) → MembersFit s (λ x. false) kind (choice_at s.shape i).members → AllByRecursion (λ j. IsTrit (counts_as s.shape j)) (choice_at s.shape i).members
      by counts.Bool h = each (choice_at s.shape i).members h
      by counts.Tristate h = h
      by counts.Neither h = each (choice_at s.shape i).members h

  -- ---- each node

  module _ (v : Item → Bool) where
    abbrev c : Configuration
    c = read_off s v

    pub small : (kind : Counts) (k : ℕ) → value_as kind v k ≤ 2
    small counts.Bool k = two (v (SymY k)) 2 0
      where
        two : (b : Bool) (m n : ℕ) → cond b 2 0 ≤ 2
        two true m n = omega arith
        two false m n = omega arith
    small counts.Tristate k = three (v (SymY k)) (v (SymM k))
      where
        three : (a b : Bool) → cond a 2 (cond b 1 0) ≤ 2
        three true b = omega arith
        three false true = omega arith
        three false false = omega arith
    small counts.Neither k = omega arith

    test_is : (k : ℕ) → IsRight s.shape c k → is_right s.shape c k ≡ true
    test_is k r = test_by_right s.shape c k (visibility_stands s v k).small (reverse_stands s v k).small (default_stands s v k).small r

    held_as : (k : ℕ) (o : Option ℕ) → (all_true (truths v (cond (is_some o) [] (non_member_holds s k))) ≡ true) ↔ SymbolIsRight s v k o
    held_as k (Some i) = (λ h. tt, λ r. refl)
    held_as k None = (
      λ h. let both = sym (symbol_law s v k) ∙ h in
          (and_left (has_one_value s.shape v k) (is_right s.shape c k) both, right_by_test s.shape c k (small (counts_as s.shape k) k) (and_right (has_one_value s.shape v k) (is_right s.shape c k) both)),
      λ r. symbol_law s v k ∙ both_true (has_one_value s.shape v k) (is_right s.shape c k) r.0 (test_is k r.1),
    )

    pub says_symbol : (k : ℕ) → Meets v (symbol_fact s k) ↔ SymbolIsRight s v k (symbol_at s.shape k).member_of
    says_symbol k = (λ m. (held_as k (symbol_at s.shape k).member_of).0 m.held, λ r. record { held = (held_as k (symbol_at s.shape k).member_of).1 r; defined = All-nil (IsDefined v) })

    -- a choice, by tests
    abbrev IsOne : ℕ → Type 0
    IsOne j = has_one_value s.shape v j ≡ true

    ones_by_test : (ms : List ℕ) → list_all (has_one_value s.shape v) ms ≡ true → AllByRecursion IsOne ms
    ones_by_test [] h = tt
    ones_by_test (j ∷ js) h = (and_left (has_one_value s.shape v j) (list_all (has_one_value s.shape v) js) h, ones_by_test js (and_right (has_one_value s.shape v j) (list_all (has_one_value s.shape v) js) h))

    test_by_ones : (ms : List ℕ) → AllByRecursion IsOne ms → list_all (has_one_value s.shape v) ms ≡ true
    test_by_ones [] h = refl
    test_by_ones (j ∷ js) h = both_true (has_one_value s.shape v j) (list_all (has_one_value s.shape v) js) h.0 (test_by_ones js h.1)

    choice_from : (i : ℕ) → (has_one_mode s.shape v i && (list_all (has_one_value s.shape v) (choice_at s.shape i).members && is_right_choice s.shape c i)) ≡ true → ChoiceIsRight s v i
    choice_from i h = let rest = and_right (has_one_mode s.shape v i) (list_all (has_one_value s.shape v) (choice_at s.shape i).members && is_right_choice s.shape c i) h in record {
      one_mode = and_left (has_one_mode s.shape v i) (list_all (has_one_value s.shape v) (choice_at s.shape i).members && is_right_choice s.shape c i) h;
      one_value = All-from_recursion IsOne (choice_at s.shape i).members (ones_by_test (choice_at s.shape i).members (and_left (list_all (has_one_value s.shape v) (choice_at s.shape i).members) (is_right_choice s.shape c i) rest));
      right = choice_by_test s.shape c i (and_right (list_all (has_one_value s.shape v) (choice_at s.shape i).members) (is_right_choice s.shape c i) rest);
    }

    choice_to : (i : ℕ) → ChoiceIsRight s v i → (has_one_mode s.shape v i && (list_all (has_one_value s.shape v) (choice_at s.shape i).members && is_right_choice s.shape c i)) ≡ true
    choice_to i r = both_true (has_one_mode s.shape v i) (list_all (has_one_value s.shape v) (choice_at s.shape i).members && is_right_choice s.shape c i) r.one_mode
        (both_true (list_all (has_one_value s.shape v) (choice_at s.shape i).members) (is_right_choice s.shape c i) (test_by_ones (choice_at s.shape i).members (recursion_from_All IsOne (choice_at s.shape i).members r.one_value)) (test_by_choice s.shape c i r.right))

    pub says_choice : (i : ℕ) → Meets v (choice_fact s i) ↔ ChoiceIsRight s v i
    says_choice i = (
      λ m. choice_from i (sym (choice_law s v i (members_fit v i)) ∙ m.held),
      λ r. record { held = choice_law s v i (members_fit v i) ∙ choice_to i r; defined = All-nil (IsDefined v) },
    )

  pub each_says : All (SaysRight s) (facts_of s)
  each_says = each_fact s (SaysRight s) (λ k lt v. says_symbol v k) (λ i lt v. says_choice v i)

  -- ---- all together

  module _ (v : Item → Bool) where
    abbrev conf : Configuration
    conf = read_off s v

    by_none : (k : ℕ) (o : Option ℕ) → is_some o ≡ false → SymbolIsRight s v k o → SymbolIsRight s v k None
    by_none k None m r = r
    by_none k (Some i) m r = absurd (cc)

    right_at : MeetsAll v (facts_of s) → (k : ℕ) → k < length s.shape.symbols → is_member s.shape k ≡ false → SymbolIsRight s v k None
    right_at h k lt m = by_none k (symbol_at s.shape k).member_of m ((says_symbol v k).0 (of_symbol s (Meets v) h k lt))

    choice_right : MeetsAll v (facts_of s) → (i : ℕ) → i < length s.shape.choices → ChoiceIsRight s v i
    choice_right h i lt = (says_choice v i).0 (of_choice s (Meets v) h i lt)

    rules_of : MeetsAll v (facts_of s) → KeepsRules s.shape conf
    rules_of h = let found = setting_from_right s.shape conf (λ k lt m. (right_at h k lt m).1) in record {
      values = λ k lt. small v (counts_as s.shape k) k;
      setting = found.0;
      calculated = found.1;
      choices = λ i lt. (choice_right h i lt).right;
    }

    -- a member has one value by its choice, every other symbol by itself
    one_of : MeetsAll v (facts_of s) → HaveOneValue s.shape v
    one_of h = record { values = λ k lt. by k lt (symbol_at s.shape k).member_of refl; modes = λ i lt. (choice_right h i lt).one_mode }
      where
        by : (k : ℕ) → k < length s.shape.symbols → (o : Option ℕ) → (symbol_at s.shape k).member_of ≡ o → has_one_value s.shape v k ≡ true
        by k lt None e = (right_at h k lt (ap is_some e)).0
        by k lt (Some i) e = among_each (λ j. has_one_value s.shape v j ≡ true) (choice_at s.shape i).members
            (recursion_from_All (λ j. has_one_value s.shape v j ≡ true) (choice_at s.shape i).members (choice_right h i (choice_within s.shape made i k e)).one_value) k (made.listed i k e)

    right_by : HaveOneValue s.shape v → KeepsRules s.shape conf → (k : ℕ) → k < length s.shape.symbols → SymbolIsRight s v k (symbol_at s.shape k).member_of
    right_by one rules k lt = by (symbol_at s.shape k).member_of refl
      where
        by : (o : Option ℕ) → (symbol_at s.shape k).member_of ≡ o → SymbolIsRight s v k o
        by (Some i) e = tt
        by None e = (one.values k lt, (rules.setting k, rules.calculated.gives k lt (ap is_some e)))

    choice_by : HaveOneValue s.shape v → KeepsRules s.shape conf → (i : ℕ) → i < length s.shape.choices → ChoiceIsRight s v i
    choice_by one rules i lt = record {
      one_mode = one.modes i lt;
      one_value = All-from_recursion (λ j. has_one_value s.shape v j ≡ true) (choice_at s.shape i).members
          (each_among (λ j. has_one_value s.shape v j ≡ true) (choice_at s.shape i).members (λ j a. one.values j (member_within s.shape made i j a)));
      right = rules.choices i lt;
    }

    met_by : HaveOneValue s.shape v → KeepsRules s.shape conf → MeetsAll v (facts_of s)
    met_by one rules = each_fact s (Meets v) (λ k lt. (says_symbol v k).1 (right_by one rules k lt)) (λ i lt. (says_choice v i).1 (choice_by one rules i lt))

    pub keeps_law : MeetsAll v (facts_of s) ↔ (HaveOneValue s.shape v × KeepsRules s.shape conf)
    keeps_law = (λ h. (one_of h, rules_of h), λ r. met_by r.0 r.1)

-- where every undeclared name is n, that is a valid configuration
pub valid_law : (t : Shape) → IsWellMade t → (v : Item → Bool) → MeetsAll v (facts_of (whole t)) ↔ (HaveOneValue t v × IsValid t (read_off (whole t) v))
valid_law t made v = let law = keeps_law (whole t) made v in
    (λ h. ((law.0 h).0, record { rules = (law.0 h).1; undeclared_are_n = λ name. refl }), λ r. law.1 (r.0, r.1.rules))

-- ---- of facts that are those of the tree

pub means_of : (s t : Scope) (fs : List Fact) → fs ≡ facts_of s → s ≡ t → IsWellMade t.shape → All (SaysRight t) fs
means_of s t fs e g made = subst (All (SaysRight t)) (sym (e ∙ ap facts_of g)) (each_says t made)

pub keeps_of : (s t : Scope) (fs : List Fact) → fs ≡ facts_of s → s ≡ t → IsWellMade t.shape → (v : Item → Bool) → MeetsAll v fs ↔ (HaveOneValue t.shape v × KeepsRules t.shape (read_off t v))
keeps_of s t fs e g made v = subst (λ (xs : List Fact). MeetsAll v xs ↔ (HaveOneValue t.shape v × KeepsRules t.shape (read_off t v))) (sym (e ∙ ap facts_of g)) (keeps_law t made v)

pub valid_of : (s : Scope) (t : Shape) (fs : List Fact) → fs ≡ facts_of s → s ≡ whole t → IsWellMade t → (v : Item → Bool) → MeetsAll v fs ↔ (HaveOneValue t v × IsValid t (read_off (whole t) v))
valid_of s t fs e g made v = subst (λ (xs : List Fact). MeetsAll v xs ↔ (HaveOneValue t v × IsValid t (read_off (whole t) v))) (sym (e ∙ ap facts_of g)) (valid_law t made v)
