use Rattle.model_slice.proofs.SliceLaws.{one_slice}
use Rattle.model_slice.proofs.laws.same_facts_have_one_slice.Goals as goal

pub returns : goal.returns
returns a facts others set roots nodes same closed rooted = one_slice facts others set roots nodes same closed rooted
