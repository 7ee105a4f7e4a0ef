use Rattle.undertaker.proofs.FirstKconfig.FileLemmas.{refused_within}
use Rattle.undertaker.proofs.first_kconfig.file.first_tree.Goals as goal

pub returns-clause-within : goal.returns-clause-within
returns-clause-within g c = refused_within c.args.root.now c.args.meter.now c.take.new.meter c.in-Err.bad c.refused.result c.in-Err.ensures.within c.refused.ensures
