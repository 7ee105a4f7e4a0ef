use Rattle.std.proofs.lemmas.Bool.Decides.{Decides-eqb}
use Rattle.std.proofs.lemmas.Slice.Eq.{strip_suffix_is}
use Rattle.kbuild_files.proofs.source.before_ending.Goals as goal

pub returns : goal.returns
returns c = strip_suffix_is Decides-eqb c.args.source.now c.args.ending.now c.strip_suffix.result c.strip_suffix.ensures.cases
