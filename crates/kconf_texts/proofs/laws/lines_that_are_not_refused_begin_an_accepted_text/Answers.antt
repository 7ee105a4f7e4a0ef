use Rattle.kconf_texts.proofs.AcceptedLaws.{begins_accepted}
use Rattle.kconf_texts.proofs.laws.lines_that_are_not_refused_begin_an_accepted_text.Goals as goal

pub returns : goal.returns
returns c = begins_accepted
