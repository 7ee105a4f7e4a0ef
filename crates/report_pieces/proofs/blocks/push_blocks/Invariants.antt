use Rattle.std.proofs.Common.{◌≡◌, ◌++◌, ◌-◌}
use Rattle.report_pieces.specs.Blocks.{blocks_after}
use Rattle.report_pieces.proofs.blocks.push_blocks.Given as goal

abbrev pub invariant-loop-number : goal.invariant-loop-number
invariant-loop-number l = l.all.items ++ blocks_after l.file l.number (l.count - l.number) ≡ l.initial.all.items ++ blocks_after l.file 0 l.count
