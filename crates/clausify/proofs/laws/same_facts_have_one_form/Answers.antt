use Rattle.clausify.proofs.FactLaws.{facts_same, same_form}
use Rattle.clausify.proofs.laws.same_facts_have_one_form.Goals as goal

pub returns-clause-facts : goal.returns-clause-facts
returns-clause-facts a facts others nodes same = facts_same facts others nodes same

pub returns-clause-form : goal.returns-clause-form
returns-clause-form a facts others nodes items held wish same = same_form facts others nodes items held wish same
