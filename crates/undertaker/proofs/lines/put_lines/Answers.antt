use Rattle.std.proofs.Common.{rules, ◌<◌, length, subst, ap, ◌∙◌, arith}
use Rattle.ut_base.specs.Outside.{Puts, with_more}
use Rattle.ut_base.specs.declared.outside.PutEnd.TheVariants as put
use Rattle.undertaker.proofs.Written.{goes_on, breaks_off}
use Rattle.undertaker.proofs.lines.put_lines.Goals as goal

pub returns-in-Failed-clause-taken : goal.returns-in-Failed-clause-taken
returns-in-Failed-clause-taken g c =
    let lt : c.loop-line.line-index < length c.args.lines.now = search rules in
    breaks_off (g.S.Sink.taken c.args.sink.now) (g.S.Sink.taken c.loop-line.sink) (g.S.Sink.taken c.put.new.self) c.args.lines.now c.loop-line.line-index c.line-item.result lt c.line-item.is
    c.loop-line.invariant.taken
    (subst (λ l. Puts (g.S.Sink.taken c.loop-line.sink) (g.S.Sink.taken c.put.new.self) l put.Failed) c.bytes.ensures c.in-Failed.ensures.taken)

pub loop-line-preserved : goal.loop-line-preserved
loop-line-preserved g c =
    let lt : c.loop-line.line-index < length c.args.lines.now = search rules in
    record {
      taken = goes_on (g.S.Sink.taken c.args.sink.now) (g.S.Sink.taken c.loop-line.sink) (g.S.Sink.taken c.put.new.self) c.args.lines.now c.loop-line.line-index c.line-item.result lt c.line-item.is
          c.loop-line.invariant.taken
          (c.in-Done.ensures.taken ∙ ap (with_more (g.S.Sink.taken c.loop-line.sink)) c.bytes.ensures);
      later = omega (arith, c.loop-line.invariant.later, c.put.ensures.failed.later);
    }
