use Rattle.std.proofs.Common.{rules}
use Rattle.report_pieces.proofs.InnerBlocks.{blocks_on}
use Rattle.report_pieces.proofs.blocks.push_blocks.Goals as goal

pub loop-number-preserved : goal.loop-number-preserved
loop-number-preserved c =
    blocks_on c.args.file c.loop-number.all.items c.push.new.self.items _ c.loop-number.number c.args.count (search rules) c.in_ok-push.ensures.items c.loop-number.invariant
