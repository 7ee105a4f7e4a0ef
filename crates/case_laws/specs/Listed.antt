-- What may be asked of a question's facts before its slice and its clauses are made: each node that is named has a fact, and
-- each item that is mentioned is listed. This project's rule.
use Rattle.std.specs.Prelude.{List, ◌++◌}
use Rattle.std.specs.List.{flat_map}
use Rattle.ut_logic.specs.declared.node.Node.{Node}
use Rattle.model_slice.specs.Named.{AreKnown}
use Rattle.clausify.specs.Order.{items_of, AreListed, AreOver, IsWishOver}
use Rattle.ut_case.specs.Facts.{facts_for, nodes_for, rules_for}
use Rattle.ut_case.specs.Needs.{AreNeeds, needed_facts, roots_of, wish_of}
use Rattle.ut_case.specs.Posed.{IsAskable}
use Rattle.ut_case.specs.Problem.{Problem}
use Rattle.ut_case.specs.Questions.{Question}

-- each root of a question, and each node that a fact of it names, has a fact
abbrev pub QuestionsAreKnown : Type 0
QuestionsAreKnown = (p : Problem) (q : Question) → IsAskable p q → AreKnown (facts_for p q) (nodes_for q.family p.basis ++ flat_map (roots_of p) q.wishes)

-- what the facts of needed nodes, the rules of a model text and the wishes mention
pub record AreMentioned (p : Problem) (q : Question) (nodes : List Node) : Type 0 where
  pub facts : AreListed (needed_facts p q nodes)
  pub rules : AreOver (items_of (needed_facts p q nodes)) (rules_for q.family p.basis)
  pub wishes : IsWishOver (needed_facts p q nodes) (wish_of p q)

-- it is listed in these facts, or an outer condition of a wish
abbrev pub QuestionsAreListed : Type 0
QuestionsAreListed = (p : Problem) (q : Question) (nodes : List Node) → IsAskable p q → AreNeeds p q nodes → AreMentioned p q nodes
