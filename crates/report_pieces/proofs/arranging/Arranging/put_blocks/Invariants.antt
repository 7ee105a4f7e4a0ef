use Rattle.std.proofs.Common.{◌≡◌, ◌-◌}
use Rattle.report_pieces.specs.Arranging.{with_blocks}
use Rattle.report_pieces.proofs.arranging.Arranging.put_blocks.Given as goal

abbrev pub invariant-loop : goal.invariant-loop
invariant-loop l = with_blocks (l.count - l.counter) l.self ≡ with_blocks l.count l.initial.self
