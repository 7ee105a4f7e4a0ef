use Rattle.case_laws.proofs.AllKnown.{questions_known}
use Rattle.case_laws.proofs.meetings.questions_are_known.Goals as goal

pub returns : goal.returns
returns c = questions_known c.formulas_say_written.ensures.mentions c.facts_are_closed.ensures.named c.facts_are_orderly.ensures.known c.facts_are_orderly.ensures.orderly c.facts_list_their_own.ensures.names
