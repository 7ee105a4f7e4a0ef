-- From clauses to cases: a question whose clauses have no model has no case, and a case with the least truths comes first.
use Rattle.std.proofs.Common.{◌≡◌, Bool, true, false, cond, List, [], ◌∷◌, map, refl, ap, sym, ◌∙◌}
use Rattle.std.specs.List.{AllByRecursion}
use Rattle.std.proofs.lemmas.List.Elements.{All-from_recursion, recursion_from_All}
use Rattle.ut_logic.specs.declared.item.Item.{Item}
use Rattle.ut_logic.specs.declared.node.Node.{Node}
use Rattle.ut_logic.specs.declared.formula.Formula.{Formula}
use Rattle.ut_logic.specs.declared.facts.Fact.{Fact}
use Rattle.ut_logic.specs.Assign.{is_in}
use Rattle.ut_logic.specs.Facts.{Meets, MeetsAll}
use Rattle.ut_logic.specs.Node.{node_eq}
use Rattle.ut_logic.specs.Truth.{truths, all_true, mentioned, together}
use Rattle.ut_logic.proofs.MentionLaws.{truth-agree}
use Rattle.clausify.specs.Order.{facts_of, fact_of, AreOver}
use Rattle.clausify.proofs.FormLaws.{wish_among}
use Rattle.clausify.proofs.OverLaws.{in_front, in_back}
use Rattle.ut_case.specs.Cases.{Case, IsCaseOf}
use Rattle.ut_case.specs.Facts.{facts_for}
use Rattle.ut_case.specs.Items.{item_truth}
use Rattle.ut_case.specs.Laws.{SameOn, AreMet, CasesMeetFacts, WishesSayMeets, CasesHaveTruths, ClausesStandOver, NoModelIsNoCase, LeastTruthsAreLeast}
use Rattle.ut_case.specs.Least.{IsAtMost}
use Rattle.ut_case.specs.Needs.{needed_facts, wish_of}
use Rattle.ut_case.specs.Posed.{IsAskable}
use Rattle.ut_case.specs.Problem.{Problem}
use Rattle.ut_case.specs.Questions.{Question, meets}
use Rattle.case_laws.specs.Listed.{QuestionsAreListed}
use Rattle.case_laws.proofs.Basics.{joined}
use Rattle.case_laws.proofs.Least.{at_most_as}

-- ---- facts of nodes

-- what holds of all facts holds of those of nodes
of_node : (P : Fact → Type 0) (facts : List Fact) (n : Node) → AllByRecursion P facts → AllByRecursion P (fact_of facts n)
of_node P [] n h = tt
of_node P (f ∷ fs) n h = by (node_eq f.node n) (of_node P fs n h.1)
  where
    by : (b : Bool) → AllByRecursion P (fact_of fs n) → AllByRecursion P (cond b (f ∷ []) (fact_of fs n))
    by true rest = (h.0, tt)
    by false rest = rest

pub of_nodes : (P : Fact → Type 0) (facts : List Fact) (nodes : List Node) → AllByRecursion P facts → AllByRecursion P (facts_of facts nodes)
of_nodes P facts [] h = tt
of_nodes P facts (n ∷ ns) h = joined P (fact_of facts n) (facts_of facts ns) (of_node P facts n h) (of_nodes P facts ns h)

pub meets_nodes : (v : Item → Bool) (facts : List Fact) (nodes : List Node) → MeetsAll v facts → MeetsAll v (facts_of facts nodes)
meets_nodes v facts nodes h = All-from_recursion (Meets v) (facts_of facts nodes) (of_nodes (Meets v) facts nodes (recursion_from_All (Meets v) facts h))

-- formulas have the same truths where all that they mention has
pub truths_same : (v u : Item → Bool) (fs : List Formula) → ((i : Item) → is_in (together (map mentioned fs)) i ≡ true → v i ≡ u i) → truths v fs ≡ truths u fs
truths_same v u [] a = refl
truths_same v u (f ∷ fs) a = let one = truth-agree v u f (λ i h. a i (in_front (mentioned f) (together (map mentioned fs)) i h)) in
    let more = truths_same v u fs (λ i h. a i (in_back (mentioned f) (together (map mentioned fs)) i h)) in λ j. one j ∷ more j

-- what is not true is false
not_true : (b : Bool) → (b ≡ true → ⊥) → b ≡ false
not_true true never = absurd (never refl)
not_true false never = refl

-- ---- cases

module _ (cases : CasesMeetFacts) (wishes : WishesSayMeets) where
  -- a case that meets the question meets rules, facts and wishes
  pub case_met : (p : Problem) (q : Question) → IsAskable p q → (nodes : List Node) (x : Case) → IsCaseOf p q.family x → meets p q x ≡ true → AreMet p q nodes (item_truth p q.family x)
  case_met p q askable nodes x belongs met = record {
    rules = (cases p q askable x belongs).1;
    facts = meets_nodes (item_truth p q.family x) (facts_for p q) nodes (cases p q askable x belongs).0;
    wishes = wishes p q askable x belongs ∙ met;
  }

  -- no model, no case
  pub no_case : ClausesStandOver → NoModelIsNoCase
  no_case over p q items vars clauses askable form none x belongs = not_true (meets p q x) never
    where
      never : meets p q x ≡ true → ⊥
      never met = let r = (over p q items vars clauses askable form).complete (item_truth p q.family x) (case_met p q askable form.nodes x belongs met) in none r.0 r.2

  -- the least truths are those of the least case
  pub least_truths : QuestionsAreListed → CasesHaveTruths → LeastTruthsAreLeast
  least_truths listed have p q nodes items v x askable needs named least belongs free = (met, first)
    where
      same : SameOn items (item_truth p q.family x) v
      same = have p q nodes items v x askable needs named least.met.facts belongs free

      over : AreOver items (wish_of p q)
      over = wish_among items (needed_facts p q nodes) (wish_of p q) named.exact (listed p q nodes askable needs).wishes

      met : meets p q x ≡ true
      met = sym (wishes p q askable x belongs) ∙ (ap all_true (truths_same (item_truth p q.family x) v (wish_of p q) (λ i h. same i (over i h))) ∙ least.met.wishes)

      first : (y : Case) → IsCaseOf p q.family y → meets p q y ≡ true → IsAtMost items (item_truth p q.family x) (item_truth p q.family y)
      first y b m = at_most_as items v (item_truth p q.family x) (item_truth p q.family y) same (least.least (item_truth p q.family y) (case_met p q askable nodes y b m))
