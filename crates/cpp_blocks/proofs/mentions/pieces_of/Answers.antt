use Rattle.std.proofs.Common.{◌+◌, ◌++◌, sym, ap, subst, ◌∙◌, drop, take, arith}
use Rattle.cpp_blocks.specs.Counted.{IsCounted}
use Rattle.cpp_blocks.specs.Mentions.{firsts}
use Rattle.cpp_blocks.specs.PieceIdentity.{piece_eq}
use Rattle.cpp_blocks.specs.Turns.{touched_at, touched_in, pieces_at, pieces_from}
use Rattle.cpp_blocks.proofs.FirstsLaws.{touched_next, pieces_next}
use Rattle.cpp_blocks.proofs.TurnLaws.{pieces_counted}
use Rattle.cpp_blocks.proofs.mentions.pieces_of.Goals as goal

pub loop-directive-preserved : goal.loop-directive-preserved
loop-directive-preserved c =
    let i = c.loop-directive.directive-index in
    let ds = c.args.list.now in
    let touched = touched_in (take i ds) in
    let is = c.loop-directive.invariant.0 in
    let more = touched_next ds i c.directive-item.result (omega (arith, c.loop-directive-test.true)) c.directive-item.is in (
      subst (IsCounted c.pass.new.self) (sym more) (c.in_ok-pass.ensures touched is),
      ap (λ ts. firsts piece_eq c.add_pieces_at.new.pieces.keys (pieces_from ts (drop (i + 1) ds))) more
          ∙ (ap (λ ks. firsts piece_eq ks (pieces_from (touched ++ touched_at c.directive-item.result.what) (drop (i + 1) ds))) (c.in_ok-add_pieces_at.ensures ∙ ap (λ turn. firsts piece_eq c.loop-directive.pieces.keys (pieces_at turn c.directive-item.result.what)) (pieces_counted c.loop-directive.turns touched is))
          ∙ (sym (pieces_next c.loop-directive.pieces.keys touched ds i c.directive-item.result (omega (arith, c.loop-directive-test.true)) c.directive-item.is) ∙ c.loop-directive.invariant.1)),
    )
