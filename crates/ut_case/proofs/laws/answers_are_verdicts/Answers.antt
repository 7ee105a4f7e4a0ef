use Rattle.ut_case.proofs.Asking.{dead_is, undead_is, live_is}
use Rattle.ut_case.proofs.laws.answers_are_verdicts.Goals as goal

pub returns-clause-dead : goal.returns-clause-dead
returns-clause-dead c = dead_is

pub returns-clause-undead : goal.returns-clause-undead
returns-clause-undead c = undead_is

pub returns-clause-live : goal.returns-clause-live
returns-clause-live c = live_is
