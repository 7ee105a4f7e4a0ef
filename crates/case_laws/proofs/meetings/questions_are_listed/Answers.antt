use Rattle.case_laws.proofs.QuestionsListed.{questions_listed}
use Rattle.case_laws.proofs.meetings.questions_are_listed.Goals as goal

pub returns : goal.returns
returns c = questions_listed (record {
  owns = c.formulas_say_written.ensures.mentions;
  listed = c.facts_are_orderly.ensures.listed;
  given = c.facts_mention_their_own.ensures.mentions;
  defines = c.facts_mention_their_own.ensures.defines;
}) c.facts_are_closed.ensures.closed c.facts_are_orderly.ensures.known c.questions_are_known.ensures
