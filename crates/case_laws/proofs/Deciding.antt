-- A case has all truths that meet the facts of needed nodes, where it has the free ones.
use Rattle.ut_case.specs.Facts.{facts_for}
use Rattle.ut_case.specs.Items.{item_truth}
use Rattle.ut_case.specs.Laws.{CasesMeetFacts, FreeItemsDecide, CasesHaveTruths}
use Rattle.case_laws.proofs.Answering.{meets_nodes}

pub have_truths : CasesMeetFacts → FreeItemsDecide → CasesHaveTruths
have_truths cases decide p q nodes items v x askable needs named met belongs free = decide p q nodes items (item_truth p q.family x) v askable needs named
    (meets_nodes (item_truth p q.family x) (facts_for p q) nodes (cases p q askable x belongs).0) met free
