use Rattle.std.proofs.Common.{◌<◌, length, get_or, refl, sym, ap, ◌∙◌, subst, arith}
use Rattle.cpp_blocks.specs.Counted.{IsCounted}
use Rattle.cpp_blocks.specs.Run.{beginning, step}
use Rattle.cpp_blocks.specs.StartWith.{start_with}
use Rattle.cpp_blocks.proofs.RunLaws.{run_next, touched_step}
use Rattle.cpp_blocks.proofs.running.blocks_on.Goals as goal

pub loop-directive-init : goal.loop-directive-init
loop-directive-init c = let start = start_with c.args.blocks.now c.args.start.now in
    (beginning start, c.in_ok-so_far.ensures start refl, c.new-turns.ensures, refl)

pub loop-directive-preserved : goal.loop-directive-preserved
loop-directive-preserved c =
    let ds = c.args.blocks.now in
    let start = start_with ds c.args.start.now in
    let i = c.loop-directive.directive-index in
    let d = c.directive-item.result in
    let r = c.loop-directive.invariant.0 in
    let stands = c.loop-directive.invariant.1 in
    let counted = c.loop-directive.invariant.2 in
    let all = c.directives-directive-items.ensures.value in
    let within : i < length ds = omega (arith, c.loop-directive-test.true, ap length all) in
    let this = c.directive-item.is ∙ ap (λ xs. get_or xs i d) all in (
      step start r d,
      c.in_ok-pass.ensures r counted stands,
      subst (IsCounted c.pass-in-loop-directive.new.self) (sym (touched_step start r d)) (c.in_ok-pass-2.ensures r.touched counted),
      sym (run_next start r ds i d within this) ∙ c.loop-directive.invariant.3,
    )
