use Rattle.case_laws.proofs.answers.refuted_have_no_model.Goals as goal

pub returns : goal.returns
returns c = c.refuted_no_model.ensures
