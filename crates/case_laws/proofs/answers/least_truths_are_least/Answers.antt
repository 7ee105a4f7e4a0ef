use Rattle.case_laws.proofs.Answering.{least_truths}
use Rattle.case_laws.proofs.answers.least_truths_are_least.Goals as goal

pub returns : goal.returns
returns c = least_truths c.cases_meet_facts.ensures c.wishes_say_meets.ensures c.questions_are_listed.ensures c.cases_have_truths.ensures
