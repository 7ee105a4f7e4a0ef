use Rattle.std.proofs.Common.{◌∙◌, ap, arith}
use Rattle.sat_log.specs.Stores.{start_at}
use Rattle.sat_log.proofs.Storing.{end_is}
use Rattle.sat_log.proofs.store.end_of.Goals as goal

pub returns : goal.returns
returns c = c.start_of.ensures ∙ end_is 0 c.args.ends.now
