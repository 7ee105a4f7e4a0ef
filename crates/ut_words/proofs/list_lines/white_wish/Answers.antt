use Rattle.ut_words.proofs.ListLines.{no_white}
use Rattle.ut_words.proofs.list_lines.white_wish.Goals as goal

pub returns-in_default : goal.returns-in_default
returns-in_default c = no_white _ (rw c.in_default.is at c.in_ok-name.ensures)
