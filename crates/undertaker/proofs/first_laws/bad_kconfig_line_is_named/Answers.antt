use Rattle.undertaker.proofs.FirstKconfig.BadLineLemmas.{is_named}
use Rattle.undertaker.proofs.first_laws.bad_kconfig_line_is_named.Goals as goal

pub returns : goal.returns
returns c = is_named
