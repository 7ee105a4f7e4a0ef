-- The laws that lead from a question to its answer, each as the statement that it is proved as: a refuted question has no
-- case, and the least model of its clauses is its least case. This project's rule.
use Rattle.std.specs.Prelude.{◌≡◌, ℕ, ◌+◌, ◌<◌, ◌≤◌, Bool, true, false, List, Option, None, Some, length, slice_index_or}
use Rattle.ut_logic.specs.Assign.{is_in}
use Rattle.ut_logic.specs.Clauses.{IsModel, HasNoModel}
use Rattle.ut_logic.specs.Facts.{MeetsAll}
use Rattle.ut_logic.specs.Owners.{owner}
use Rattle.ut_logic.specs.Truth.{truths, all_true}
use Rattle.ut_logic.specs.declared.item.Item.{Item}
use Rattle.ut_logic.specs.declared.node.Node.{Node}
use Rattle.ut_logic.specs.declared.node.Node.TheVariants as node
use Rattle.ut_logic.specs.declared.literals.Lit.{Lit}
use Rattle.log_check.specs.Derivations.{Refutes}
use Rattle.log_check.specs.declared.derivations.DerivationLine.{DerivationLine}
use Rattle.sat_log.specs.LeastModel.{IsLeastModel}
use Rattle.complete_conf.specs.Parts.{IsRest}
use Rattle.kconf_tree.specs.Parts.{Part, IsClosedPart, IsRightPart, AgreeOn, part_of_nodes}
use Rattle.kconf_tree.specs.Shape.{Shape}
use Rattle.kconf_tree.specs.Value.{Configuration, HasValues}
use Rattle.kconf_tree.specs.Valid.{KeepsRules}
use Rattle.ut_case.specs.declared.question.Family.TheVariants as family
use Rattle.ut_case.specs.Cases.{Case, IsCaseOf}
use Rattle.ut_case.specs.ClauseForms.{AreClauses}
use Rattle.ut_case.specs.Facts.{facts_for, rules_for}
use Rattle.ut_case.specs.Items.{item_truth}
use Rattle.ut_case.specs.Least.{IsAtMost, IsLeast}
use Rattle.ut_case.specs.Needs.{AreNeeds, AreItems, needed_facts, wish_of}
use Rattle.ut_case.specs.Posed.{IsMadeTree, IsAskable}
use Rattle.ut_case.specs.Problem.{OfTree, Problem}
use Rattle.ut_case.specs.Questions.{Question, meets, CanNotBe}

-- ---- truths of items

-- the truths agree on the items
abbrev pub SameOn : List Item → (Item → Bool) → (Item → Bool) → Type 0
SameOn items v u = (i : Item) → is_in items i ≡ true → v i ≡ u i

-- a node of a source
abbrev pub is_of_source : Option Node → Bool
is_of_source None = false
is_of_source (Some (node.Sym k)) = false
is_of_source (Some (node.Choice i)) = false
is_of_source (Some (node.Block file block)) = true
is_of_source (Some (node.State file n turn)) = true

-- they agree on those of the items that no block or macro state has: what a run is made from
abbrev pub SameFree : List Item → (Item → Bool) → (Item → Bool) → Type 0
SameFree items v u = (i : Item) → is_in items i ≡ true → is_of_source (owner i) ≡ false → v i ≡ u i

-- they meet the rules of a model text, the facts of the nodes, and the wishes
pub record AreMet (p : Problem) (q : Question) (nodes : List Node) (v : Item → Bool) : Type 0 where
  pub rules : all_true (truths v (rules_for q.family p.basis)) ≡ true
  pub facts : MeetsAll v (needed_facts p q nodes)
  pub wishes : all_true (truths v (wish_of p q)) ≡ true

-- they do, and come before all others that do
pub record IsLeastMet (p : Problem) (q : Question) (nodes : List Node) (items : List Item) (v : Item → Bool) : Type 0 where
  pub met : AreMet p q nodes v
  pub least : (u : Item → Bool) → AreMet p q nodes u → IsAtMost items v u

-- the values give the variable of each item its truth
abbrev pub Reads : List Item → (ℕ → Bool) → (Item → Bool) → Type 0
Reads items w v = (k : ℕ) (d : Item) → k < length items → w (k + 1) ≡ v (slice_index_or items k d)

-- ---- cases meet facts and wishes

-- the truths that a case gives meet all facts of its family and all rules
abbrev pub CasesMeetFacts : Type 0
CasesMeetFacts = (p : Problem) (q : Question) → IsAskable p q → (x : Case) → IsCaseOf p q.family x
    → MeetsAll (item_truth p q.family x) (facts_for p q) × (all_true (truths (item_truth p q.family x) (rules_for q.family p.basis)) ≡ true)

-- and the wishes exactly where the case meets the question
abbrev pub WishesSayMeets : Type 0
WishesSayMeets = (p : Problem) (q : Question) → IsAskable p q → (x : Case) → IsCaseOf p q.family x
    → all_true (truths (item_truth p q.family x) (wish_of p q)) ≡ meets p q x

-- ---- truths stand for configurations

-- truths that meet the facts of the needed nodes are those of some case, whose configuration has a closed and right part there
abbrev pub NodesStandFor : Type 0
NodesStandFor = (p : Problem) (q : Question) (t : Shape) (nodes : List Node) (items : List Item) (v : Item → Bool) → IsAskable p q → p.basis ≡ OfTree t
    → (q.family ≡ family.Code → ⊥) → AreNeeds p q nodes → AreItems p q nodes items → MeetsAll v (needed_facts p q nodes)
    → (x : Case) × SameFree items (item_truth p q.family x) v × HasValues x.configuration × IsClosedPart t (part_of_nodes nodes) × IsRightPart t x.configuration (part_of_nodes nodes)

-- a closed and right part is completed to a configuration that keeps the rules and has all else without a user's setting
abbrev pub PartsComplete : Type 0
PartsComplete = (t : Shape) (part : Part) (c : Configuration) → IsMadeTree t → HasValues c → IsClosedPart t part → IsRightPart t c part
    → (d : Configuration) × KeepsRules t d × AgreeOn part c d × IsRest t part d

-- ---- truths decide runs

-- truths that meet the facts of the needed nodes and agree on free items agree on blocks and macro states too
abbrev pub FreeItemsDecide : Type 0
FreeItemsDecide = (p : Problem) (q : Question) (nodes : List Node) (items : List Item) (v u : Item → Bool) → IsAskable p q → AreNeeds p q nodes
    → AreItems p q nodes items → MeetsAll v (needed_facts p q nodes) → MeetsAll u (needed_facts p q nodes) → SameFree items v u → SameOn items v u

-- so a case of the family has all truths that meet the facts, where it has the free ones
abbrev pub CasesHaveTruths : Type 0
CasesHaveTruths = (p : Problem) (q : Question) (nodes : List Node) (items : List Item) (v : Item → Bool) (x : Case) → IsAskable p q → AreNeeds p q nodes
    → AreItems p q nodes items → MeetsAll v (needed_facts p q nodes) → IsCaseOf p q.family x → SameFree items (item_truth p q.family x) v
    → SameOn items (item_truth p q.family x) v

-- ---- clauses say what truths meet

-- models are the truths of items that meet facts and wishes, each extended in one way
pub record StandsOver (p : Problem) (q : Question) (nodes : List Node) (items : List Item) (vars : ℕ) (clauses : List (List Lit)) : Type 0 where
  pub sound : (w : ℕ → Bool) (v : Item → Bool) → IsModel w clauses → Reads items w v → AreMet p q nodes v
  pub complete : (v : Item → Bool) → AreMet p q nodes v → (w : ℕ → Bool) × Reads items w v × IsModel w clauses
  pub one : (w u : ℕ → Bool) → IsModel w clauses → IsModel u clauses → ((x : ℕ) → 0 < x → x ≤ length items → w x ≡ u x) → (x : ℕ) → 0 < x → x ≤ vars → w x ≡ u x

-- the clauses of a question do so over its needed nodes
abbrev pub ClausesStandOver : Type 0
ClausesStandOver = (p : Problem) (q : Question) (items : List Item) (vars : ℕ) (clauses : List (List Lit)) → IsAskable p q
    → (form : AreClauses p q items vars clauses) → StandsOver p q form.nodes items vars clauses

-- the least model gives the least truths
abbrev pub LeastModelsAreLeast : Type 0
LeastModelsAreLeast = (p : Problem) (q : Question) (nodes : List Node) (items : List Item) (vars : ℕ) (clauses : List (List Lit)) (w : ℕ → Bool) (v : Item → Bool)
    → StandsOver p q nodes items vars clauses → length items ≤ vars → IsLeastModel vars clauses w → Reads items w v → IsLeastMet p q nodes items v

-- a question has one list of clauses, over one list of items
abbrev pub ClausesAreOne : Type 0
ClausesAreOne = (p : Problem) (q : Question) (items others : List Item) (vars n : ℕ) (clauses more : List (List Lit))
    → AreClauses p q items vars clauses → AreClauses p q others n more → (items ≡ others) × (vars ≡ n) × (clauses ≡ more)

-- ---- answers

-- what a derivation refutes has no model
abbrev pub RefutedHaveNoModel : Type 0
RefutedHaveNoModel = (clauses : List (List Lit)) (lines : List DerivationLine) → Refutes clauses lines → HasNoModel clauses

-- a question whose clauses have no model has no case
abbrev pub NoModelIsNoCase : Type 0
NoModelIsNoCase = (p : Problem) (q : Question) (items : List Item) (vars : ℕ) (clauses : List (List Lit)) → IsAskable p q
    → AreClauses p q items vars clauses → HasNoModel clauses → CanNotBe p q

-- a case of the family with the least truths meets the question, and comes before all others that do
abbrev pub LeastTruthsAreLeast : Type 0
LeastTruthsAreLeast = (p : Problem) (q : Question) (nodes : List Node) (items : List Item) (v : Item → Bool) (x : Case) → IsAskable p q → AreNeeds p q nodes
    → AreItems p q nodes items → IsLeastMet p q nodes items v → IsCaseOf p q.family x → SameFree items (item_truth p q.family x) v
    → (meets p q x ≡ true) × ((y : Case) → IsCaseOf p q.family y → meets p q y ≡ true → IsAtMost items (item_truth p q.family x) (item_truth p q.family y))

-- a refuted question has no case
abbrev pub RefutedHaveNoCase : Type 0
RefutedHaveNoCase = (p : Problem) (q : Question) (items : List Item) (vars : ℕ) (clauses : List (List Lit)) (lines : List DerivationLine) → IsAskable p q
    → AreClauses p q items vars clauses → Refutes clauses lines → CanNotBe p q

-- the least model of a question's clauses is its least case
abbrev pub LeastModelsAreCases : Type 0
LeastModelsAreCases = (p : Problem) (q : Question) (items : List Item) (vars : ℕ) (clauses : List (List Lit)) (w : ℕ → Bool) → IsAskable p q
    → AreClauses p q items vars clauses → IsLeastModel vars clauses w → (x : Case) × IsLeast p q x × Reads items w (item_truth p q.family x)
