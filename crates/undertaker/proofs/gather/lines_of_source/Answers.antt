use Rattle.undertaker.specs.FirstSource.Form.{first_directives_of}
use Rattle.kconf_tree.specs.Gathered.{gathered}
use Rattle.undertaker.proofs.ReportLemmas.{on_refusal}
use Rattle.undertaker.proofs.gather.lines_of_source.Goals as goal

pub returns-in-Err-NotYet : goal.returns-in-Err-NotYet
returns-in-Err-NotYet c =
    on_refusal (gathered c.args.entries.now) c.args.name.now c.in-Err-NotYet.field-0 c.in-Err-NotYet.line (first_directives_of c.args.bytes.now) c.refused_lines.result
    c.in-Err-NotYet.field-0-is c.in-Err-NotYet.ensures c.refused_lines.ensures
