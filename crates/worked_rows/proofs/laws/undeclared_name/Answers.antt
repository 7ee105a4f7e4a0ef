use Rattle.worked_rows.proofs.Undeclared.{first_word, second_word}
use Rattle.worked_rows.proofs.Reports.{undeclared_report}
use Rattle.worked_rows.proofs.Numbered.{name_is_numbered}
use Rattle.worked_rows.proofs.laws.undeclared_name.Goals as goal

pub returns-clause-numbered : goal.returns-clause-numbered
returns-clause-numbered c = name_is_numbered

pub returns-clause-dead : goal.returns-clause-dead
returns-clause-dead c = first_word

pub returns-clause-undead : goal.returns-clause-undead
returns-clause-undead c = second_word

pub returns-clause-report : goal.returns-clause-report
returns-clause-report c = undeclared_report
