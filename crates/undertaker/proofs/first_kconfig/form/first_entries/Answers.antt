use Rattle.std.proofs.Common.{arith}
use Rattle.std.specs.Prelude.{option_to_list}
use Rattle.ut_text.specs.Lines.{lines_of}
use Rattle.undertaker.specs.FirstKconfig.Form.{read_lines, start}
use Rattle.undertaker.proofs.FirstKconfig.FormLemmas.{line_read}
use Rattle.undertaker.proofs.first_kconfig.form.first_entries.Goals as goal

pub lines-preserved : goal.lines-preserved
lines-preserved c = record {
  left = line_read c.lines.list.items c.keep.new.list.items (option_to_list c.in_ok-done.done) c.lines.line c.lines.reader c.read.new.self
      (lines_of c.lines.rest.now) (lines_of c.split_line.result.1.now) c.split_line.result.0.now (read_lines 1 start (lines_of c.args.bytes.now))
      c.split_line.ensures.lines c.in_ok-done.ensures c.in_ok-keep.ensures.list c.lines.invariant.left;
  counted = omega (arith, c.split_line.ensures.shorter, c.lines.invariant.counted);
  some = omega arith;
}
