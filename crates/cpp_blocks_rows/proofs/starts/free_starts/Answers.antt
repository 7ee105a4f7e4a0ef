use Rattle.std.proofs.Common.{List, sym, subst, ◌∙◌, arith}
use Rattle.std.specs.Prelude.{All}
use Rattle.std.proofs.lemmas.List.Elements.{All-push}
use Rattle.cpp_blocks.specs.declared.starts.StartOf.{StartOf}
use Rattle.cpp_blocks.specs.Facts.{AreStarts}
use Rattle.cpp_blocks.specs.Nodes.{IsListedStart}
use Rattle.cpp_blocks.proofs.StartLaws.{free_push, free_listed}
use Rattle.cpp_blocks_rows.proofs.starts.free_starts.Goals as goal

pub loop-place-preserved : goal.loop-place-preserved
loop-place-preserved c =
    let start = c.in_ok-free_start in (
      omega (arith, c.in_ok-push.ensures.len, c.loop-place.invariant.0, c.loop-place.starts.ok.0, c.push.new.self.ok.0),
      subst (AreStarts 0 0) (sym c.in_ok-push.ensures.items)
          (free_push 0 c.loop-place.starts.items start.field-0 c.in_ok-name.name c.loop-place.invariant.1 (c.in_ok-name.ensures ∙ sym c.loop-place.invariant.0) start.ensures.free start.ensures.truth),
      subst (λ (ss : List StartOf). All IsListedStart ss) (sym c.in_ok-push.ensures.items)
          (All-push IsListedStart c.loop-place.starts.items start.field-0 c.loop-place.invariant.2 (free_listed 0 c.in_ok-name.name start.field-0 start.ensures.free start.ensures.truth start.ensures.names start.ensures.items)),
    )
