use Rattle.clausify.proofs.RenameLaws.{order_same, form_same}
use Rattle.clausify.proofs.laws.renaming_in_order_keeps_the_form.Goals as goal

pub returns-clause-order : goal.returns-clause-order
returns-clause-order a r items keeps order = order_same r items keeps order

pub returns-clause-form : goal.returns-clause-form
returns-clause-form a r items held facts wish keeps of_held of_facts of_wish = form_same r items held facts wish keeps of_held of_facts of_wish
