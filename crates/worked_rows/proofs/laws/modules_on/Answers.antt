use Rattle.worked_rows.proofs.Tristate.{both_first, both_second, alone_first, alone_second}
use Rattle.worked_rows.proofs.laws.modules_on.Goals as goal

pub returns-clause-y_live : goal.returns-clause-y_live
returns-clause-y_live c = both_first

pub returns-clause-y_and_m : goal.returns-clause-y_and_m
returns-clause-y_and_m c = both_second

pub returns-clause-m_live : goal.returns-clause-m_live
returns-clause-m_live c = alone_first

pub returns-clause-m_alone : goal.returns-clause-m_alone
returns-clause-m_alone c = alone_second
