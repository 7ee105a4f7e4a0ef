use Rattle.std.proofs.Common.{◌≤◌, length, Option}
use Rattle.ut_text.specs.Bytes.{Bytes}
use Rattle.ut_base.specs.Outside.{Puts}
use Rattle.ut_base.specs.declared.outside.PutEnd.{PutEnd}
use Rattle.undertaker_run.proofs.output.Output.put_lines.Given as goal

abbrev pub invariant-loop-rest : goal.invariant-loop-rest
invariant-loop-rest g l = record {
  leads : (new : Option Bytes) (r : PutEnd) → Puts (g.S.Sink.taken l.sink) new l.rest r → Puts (g.S.Sink.taken l.initial.sink) new l.self r;
  later : g.S.Sink.faults l.initial.sink ≤ g.S.Sink.faults l.sink;
}

abbrev pub decreases-loop-rest : goal.decreases-loop-rest
decreases-loop-rest g l = length l.rest
