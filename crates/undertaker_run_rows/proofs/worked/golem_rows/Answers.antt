use Rattle.undertaker_run_rows.proofs.WorkedGolem.{conditional, in_folder, without_partner, without_text}
use Rattle.undertaker_run_rows.proofs.worked.golem_rows.Goals as goal

pub returns-clause-in_folder : goal.returns-clause-in_folder
returns-clause-in_folder c = in_folder

pub returns-clause-conditional : goal.returns-clause-conditional
returns-clause-conditional c = conditional

pub returns-clause-without_partner : goal.returns-clause-without_partner
returns-clause-without_partner c = without_partner

pub returns-clause-without_text : goal.returns-clause-without_text
returns-clause-without_text c = without_text
