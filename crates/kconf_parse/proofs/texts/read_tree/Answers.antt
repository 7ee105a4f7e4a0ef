use Rattle.std.proofs.Common.{subst}
use Rattle.ut_base.specs.Plans.{plan}
use Rattle.ut_base.specs.Reading.{Reads, stand}
use Rattle.ut_base.proofs.ReadingLaws.{exit_is}
use Rattle.kconf_texts.specs.Errors.{kconf_errors}
use Rattle.kconf_texts.specs.Texts.{tree_plan}
use Rattle.kconf_parse.proofs.TreeLaws.{no_start}
use Rattle.kconf_parse.proofs.texts.read_tree.Goals as goal

pub returns-in_err-values-clause-reads : goal.returns-in_err-values-clause-reads
returns-in_err-values-clause-reads g c = no_start c.args.vars.now c.args.root.now c.from_residual.result (exit_is c.from_residual.ensures.1)

pub returns-clause-reads : goal.returns-clause-reads
returns-clause-reads g c =
    subst
    (λ vars. Reads (plan kconf_errors (tree_plan vars c.args.root.now)) (stand g.F.Files c.args.files.now) (stand g.F.Files c.read_entries.new.files) c.args.meter.now c.read_entries.new.meter
    c.read_entries.result) c.in_ok-values.ensures c.read_entries.ensures.reads
