use Rattle.case_laws.proofs.Deciding.{have_truths}
use Rattle.case_laws.proofs.standing.cases_have_truths.Goals as goal

pub returns : goal.returns
returns c = have_truths c.cases_meet_facts.ensures c.free_items_decide.ensures
