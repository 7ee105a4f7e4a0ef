use Rattle.undertaker.proofs.FirstSource.BadLineLemmas.{is_named}
use Rattle.undertaker.proofs.first_laws.bad_source_line_is_named.Goals as goal

pub returns : goal.returns
returns c = is_named
