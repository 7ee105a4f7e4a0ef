use Rattle.case_laws.proofs.Over.{clauses_over}
use Rattle.case_laws.proofs.clauses.clauses_stand_over.Goals as goal

pub returns : goal.returns
returns c = λ p q items vars clauses askable form. clauses_over p q items vars clauses form (c.questions_are_listed.ensures p q form.nodes askable form.needs)
