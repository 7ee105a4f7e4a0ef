use Rattle.std.proofs.Common.{rules}
use Rattle.report_pieces.proofs.ArrangingLaws.{blocks_on}
use Rattle.report_pieces.proofs.arranging.Arranging.put_blocks.Goals as goal

pub loop-preserved : goal.loop-preserved
loop-preserved c = blocks_on c.loop.self c.put_block.new.self _ c.loop.counter c.args.count (search rules) c.in_ok-put_block.ensures c.loop.invariant
