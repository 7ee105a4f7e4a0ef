use Rattle.kconf_statements.proofs.EnclosingLaws.{stays_enclosed}
use Rattle.kconf_statements.proofs.laws.lines_enclose_until_their_end_word.Goals as goal

pub returns : goal.returns
returns c = stays_enclosed
