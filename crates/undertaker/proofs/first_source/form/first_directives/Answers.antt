use Rattle.std.proofs.Common.{arith}
use Rattle.std.specs.Prelude.{option_to_list}
use Rattle.ut_text.specs.Lines.{lines_of}
use Rattle.undertaker.specs.FirstSource.Form.{first_directives_of}
use Rattle.undertaker.proofs.FirstSource.FormLemmas.{line_read}
use Rattle.undertaker.proofs.first_source.form.first_directives.Goals as goal

pub lines-preserved : goal.lines-preserved
lines-preserved c = record {
  left = line_read c.lines.list.items c.keep.new.list.items (option_to_list c.in_ok-directive.directive) c.lines.line c.lines.chains c.read.new.self
      (lines_of c.lines.rest.now) (lines_of c.split_line.result.1.now) c.split_line.result.0.now (first_directives_of c.args.bytes.now)
      c.split_line.ensures.lines c.in_ok-directive.ensures c.in_ok-keep.ensures.list c.lines.invariant.left;
  counted = omega (arith, c.split_line.ensures.shorter, c.lines.invariant.counted);
}
