use Rattle.kconf_formed.proofs.EntryLaws.{read_entries_formed}
use Rattle.kconf_formed.proofs.laws.entries_that_are_read_are_formed.Goals as goal

pub returns : goal.returns
returns c = read_entries_formed
