use Rattle.std.proofs.Common.{codes}
use Rattle.problem_sources.proofs.Texts.{front_of_end}
use Rattle.problem_sources.proofs.macro_names.module_name.Goals as goal

pub returns : goal.returns
returns c = front_of_end (λ n. n.now) (codes "_MODULE") c.args.name.now c.strip_suffix.result c.strip_suffix.ensures.cases
