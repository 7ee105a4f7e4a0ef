use Rattle.std.proofs.lemmas.Result.{on_ok_weaker}
use Rattle.kconf_progress.proofs.AddLaws.{sourced_ended}
use Rattle.kconf_progress.proofs.progress.Progress.sourced.Goals as goal

pub returns : goal.returns
returns c = on_ok_weaker c.end_source.result (λ same before line s h. sourced_ended before c.args.self.now c.end_source.new.self line s h same) c.end_source.ensures
