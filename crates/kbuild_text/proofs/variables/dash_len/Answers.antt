use Rattle.kbuild_text.proofs.StatementLaws.{dash_more, dash_within}
use Rattle.kbuild_text.proofs.variables.dash_len.Goals as goal

pub loop-i-preserved : goal.loop-i-preserved
loop-i-preserved c = record {
  so_far = dash_more c.args.variable.now c.loop-i.i _ c.loop-i.end c.dash_end-end.result c.loop-i-test.true c.loop-i.invariant.so_far c.dash_end-end.ensures;
  within = dash_within c.loop-i.end c.loop-i.i _ c.dash_end-end.result c.loop-i.invariant.within c.dash_end-end.ensures;
}
