use Rattle.std.proofs.Common.{rules, ◌≡◌, ◌∙◌, ap, sym, []}
use Rattle.report_pieces.specs.Arranging.{with_sources}
use Rattle.report_pieces.proofs.ArrangingLaws.{sources_end}
use Rattle.report_pieces.proofs.ReportLaws.{is_report}
use Rattle.report_pieces.proofs.whole.whole_report.Goals as goal

pub returns : goal.returns
returns g c =
    λ steps evidence right.
    let p = g.P.Reported.problem c.args.problem.now in
    let blocks = c.args.blocks.items in
    let pieces = c.new.result.items in
    let words = c.in_ok-words.words.items in
    let begun : with_sources p.sources (record { pieces = []; words = []; rest = blocks }) ≡ with_sources p.sources (record { pieces = pieces; words = words; rest = blocks }) =
    ap (λ ps. with_sources p.sources (record { pieces = ps; words = []; rest = blocks })) (sym c.new.ensures.items)
    ∙ ap (λ ws. with_sources p.sources (record { pieces = pieces; words = ws; rest = blocks })) (sym c.in_ok-words.ensures.items) in
    let done : c.loop-file.arranging ≡ with_sources p.sources (record { pieces = pieces; words = words; rest = blocks }) =
    sources_end p c.loop-file.arranging (with_sources p.sources (record { pieces = pieces; words = words; rest = blocks })) c.loop-file.file (search rules) c.loop-file.invariant in
    is_report p steps evidence blocks c.in_ok-last.last.items c.push.new.self.items c.loop-file.arranging (begun ∙ sym done) (search rules) (search rules) right
