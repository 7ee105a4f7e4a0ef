use Rattle.std.proofs.Common.{◌≡◌, ◌≤◌, take}
use Rattle.ut_base.specs.Outside.{with_more}
use Rattle.std.specs.List.{concat}
use Rattle.undertaker.proofs.lines.put_lines.Given as goal

abbrev pub invariant-loop-line : goal.invariant-loop-line
invariant-loop-line g l = record {
  taken : g.S.Sink.taken l.sink ≡ with_more (g.S.Sink.taken l.initial.sink) (concat (take l.line-index l.lines));
  later : g.S.Sink.faults l.initial.sink ≤ g.S.Sink.faults l.sink;
}
