use Rattle.std.proofs.Common.{◌≡◌, ◌≤◌, ◌<◌, ◌+◌, length}
use Rattle.kbuild_text.specs.Lines as spec
use Rattle.kbuild_text.proofs.lines.read_line.Given as goal

abbrev pub invariant-loop-goes_on : goal.invariant-loop-goes_on
invariant-loop-goes_on l = record {
  so_far : spec.BeginsWith l.fn.line.items l.text l.line.items l.count l.rest l.goes_on;
  shorter : length l.rest + l.count ≤ length l.text;
  counted : 0 < l.count;
}

abbrev pub decreases-loop-goes_on : goal.decreases-loop-goes_on
decreases-loop-goes_on l = length l.rest
