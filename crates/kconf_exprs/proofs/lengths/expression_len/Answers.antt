use Rattle.std.proofs.Common.{◌∙◌}
use Rattle.kconf_exprs.proofs.ScanLaws.{scan_is}
use Rattle.kconf_exprs.proofs.lengths.expression_len.Goals as goal

pub returns-clause-value : goal.returns-clause-value
returns-clause-value c = c.scanned_len.ensures.value ∙ scan_is c.args.words.now
