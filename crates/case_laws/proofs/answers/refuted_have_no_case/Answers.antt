use Rattle.case_laws.proofs.answers.refuted_have_no_case.Goals as goal

pub returns : goal.returns
returns c = λ p q items vars clauses lines askable form refutes. c.no_model_is_no_case.ensures p q items vars clauses askable form (c.refuted_have_no_model.ensures clauses lines refutes)
