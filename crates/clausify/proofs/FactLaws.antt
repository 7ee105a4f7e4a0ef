-- The fact of a node by its first fact, and the facts of nodes at which two lists have the same.
use Rattle.std.proofs.Common.{◌≡◌, zero, suc, ◌+◌, Bool, true, false, cond, Option, None, Some, List, [], ◌∷◌, ◌++◌, Contains, refl, sym, ap, ◌∙◌, arith}
use Rattle.ut_logic.specs.declared.item.Item.{Item}
use Rattle.ut_logic.specs.declared.node.Node.{Node}
use Rattle.ut_logic.specs.declared.facts.Fact.{Fact}
use Rattle.ut_logic.specs.declared.formula.Formula.{Formula}
use Rattle.ut_logic.specs.Node.{node_eq}
use Rattle.model_slice.specs.Named.{first_of, HaveSameFacts}
use Rattle.clausify.specs.Order.{fact_of, facts_of, form_with}

-- one fact or none
abbrev pub as_list : Option Fact → List Fact
as_list None = []
as_list (Some f) = f ∷ []

pub fact_first : (facts : List Fact) (n : Node) → fact_of facts n ≡ as_list (first_of facts n)
fact_first [] n = refl
fact_first (f ∷ fs) n = by (node_eq f.node n) (fact_first fs n)
  where
    by : (b : Bool) → fact_of fs n ≡ as_list (first_of fs n) → cond b (f ∷ []) (fact_of fs n) ≡ as_list (cond b (Some f) (first_of fs n))
    by true h = refl
    by false h = h

fact_same : (facts others : List Fact) (n : Node) → first_of facts n ≡ first_of others n → fact_of facts n ≡ fact_of others n
fact_same facts others n e = fact_first facts n ∙ (ap as_list e ∙ sym (fact_first others n))

contains_first : (n : Node) (ns : List Node) → Contains (n ∷ ns) n
contains_first n ns = (zero, omega arith, refl)

contains_rest : (m n : Node) (ns : List Node) → Contains ns n → Contains (m ∷ ns) n
contains_rest m n ns c = (suc c.0, omega (arith, c.1), c.2)

pub facts_same : (facts others : List Fact) (nodes : List Node) → HaveSameFacts facts others nodes → facts_of facts nodes ≡ facts_of others nodes
facts_same facts others [] same = refl
facts_same facts others (n ∷ ns) same =
    ap (λ (fs : List Fact). fs ++ facts_of facts ns) (fact_same facts others n (same n (contains_first n ns)))
    ∙ ap (λ (fs : List Fact). fact_of others n ++ fs) (facts_same facts others ns (λ m c. same m (contains_rest n m ns c)))

pub same_form : (facts others : List Fact) (nodes : List Node) (items : List Item) (held wish : List Formula) → HaveSameFacts facts others nodes
    → form_with items held (facts_of facts nodes) wish ≡ form_with items held (facts_of others nodes) wish
same_form facts others nodes items held wish same = ap (λ (fs : List Fact). form_with items held fs wish) (facts_same facts others nodes same)
