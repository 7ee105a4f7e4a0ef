use Rattle.case_laws.proofs.Wishing.{wishes_said}
use Rattle.case_laws.proofs.meetings.wishes_say_meets.Goals as goal

pub returns : goal.returns
returns c = λ p q askable x belongs. wishes_said c.truths_are_read_back.ensures p q askable x belongs
