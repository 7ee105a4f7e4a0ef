use Rattle.ut_words.proofs.Parsed.{parsed}
use Rattle.ut_words.proofs.reading.parsed.Goals as goal

pub returns : goal.returns
returns c = parsed _ _ c.try_get_matches_from.result c.in_ok-command.ensures c.try_get_matches_from.ensures.kinds c.try_get_matches_from.ensures.matches
