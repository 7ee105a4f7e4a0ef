use Rattle.complete_conf.specs.Completion.{completed}
use Rattle.complete_conf.proofs.PartLaws.{kept}
use Rattle.complete_conf.proofs.Rules.{rest, values_kept, valid_by}
use Rattle.complete_conf.proofs.laws.part_is_completed.Goals as goal

pub returns : goal.returns
returns a t order p c made ordered small closed right = let agree = kept t p c order in let free = rest t order p c made ordered in
    (completed t p c order, valid_by t p c (completed t p c order) (values_kept t p c small order) made closed right agree free, agree, free)
