use Rattle.std.proofs.Common.{arith}
use Rattle.sat_log.proofs.Linking.{linked_start}
use Rattle.sat_log.proofs.links.Links.new.Goals as goal

pub returns-clause-linked : goal.returns-clause-linked
returns-clause-linked c = linked_start _ _ _ c.in_ok-heads.ensures.1
