use Rattle.std.proofs.Common.{◌∙◌, ap}
use Rattle.std.proofs.lemmas.Result.{IfOk-weaker}
use Rattle.kbuild_cond.specs.Files.{paths_or_none}
use Rattle.kbuild_cond.proofs.ways.paths_in.Goals as goal

pub returns-in-Some : goal.returns-in-Some
returns-in-Some c = IfOk-weaker c.copies.result _ _ (λ v h. h ∙ (c.as_slice.ensures ∙ ap paths_or_none c.in-Some.ensures)) c.copies.ensures

pub returns-in-None : goal.returns-in-None
returns-in-None c = c.new.ensures.items ∙ ap paths_or_none c.in-None.ensures
