use Rattle.case_laws.proofs.Answering.{no_case}
use Rattle.case_laws.proofs.answers.no_model_is_no_case.Goals as goal

pub returns : goal.returns
returns c = no_case c.cases_meet_facts.ensures c.wishes_say_meets.ensures c.clauses_stand_over.ensures
