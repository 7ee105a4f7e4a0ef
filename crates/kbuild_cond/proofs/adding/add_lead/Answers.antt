use Rattle.kbuild_paths.specs.declared.step.Step.{Step}
use Rattle.std.proofs.Common.{List, ◌∷◌, [], ◌+◌, drop, subst, Err}
use Rattle.std.proofs.lemmas.List.{drop_all}
use Rattle.ut_base.proofs.ReadingLaws.{first_left}
use Rattle.kbuild_cond.specs.Adding.{Adds, AddsLeft, AddsOr}
use Rattle.kbuild_cond.specs.Files.{ways_after}
use Rattle.kbuild_cond.proofs.AddingLaws.{lacks_out, left_end, left_on, loop_out}
use Rattle.kbuild_cond.proofs.adding.add_lead.Goals as goal

pub returns-in_err-path : goal.returns-in_err-path
returns-in_err-path c =
    lacks_out (ways_after c.args.led.fronts.now c.args.lead.now c.args.led.steps.now c.args.object.now) c.args.files.now c.loop-front.files c.from_residual.result c.from_residual.ensures.1

pub returns-in_err-add_way : goal.returns-in_err-add_way
returns-in_err-add_way c =
    let ways = (λ (fronts : List (List Step)). ways_after fronts c.args.lead.now c.args.led.steps.now c.args.object.now) in
    let front = c.front-item.result in
    loop_out (ways c.args.led.fronts.now) (ways (front ∷ [])) (ways (drop (c.loop-front.front-index + 1) c.args.led.fronts.now)) c.args.files.now c.loop-front.files c.add_way.new.files
    c.add_way.new.files c.in_err-add_way.field-0.0 c.from_residual-in_err-add_way.result c.from_residual-in_err-add_way.ensures.1
    (subst (λ l. AddsLeft (ways c.args.led.fronts.now) c.args.files.now (ways l) c.loop-front.files)
    (first_left c.args.led.fronts.now c.loop-front.front-index front c.loop-front-test.true c.front-item.is) c.loop-front.invariant)
    (subst (λ p. AddsOr (record { to = c.args.object.now; steps = p } ∷ []) c.loop-front.files (Err c.in_err-add_way.field-0.0) c.add_way.new.files) c.in_ok-path.ensures c.in_err-add_way.ensures)

pub loop-front-preserved : goal.loop-front-preserved
loop-front-preserved c =
    let ways = (λ (fronts : List (List Step)). ways_after fronts c.args.lead.now c.args.led.steps.now c.args.object.now) in
    let front = c.front-item.result in
    left_on (ways (front ∷ [])) (ways (drop (c.loop-front.front-index + 1) c.args.led.fronts.now))
    (subst (λ l. AddsLeft (ways c.args.led.fronts.now) c.args.files.now (ways l) c.loop-front.files)
    (first_left c.args.led.fronts.now c.loop-front.front-index front c.loop-front-test.true c.front-item.is) c.loop-front.invariant)
    (subst (λ p. Adds (record { to = c.args.object.now; steps = p } ∷ []) c.loop-front.files c.add_way.new.files) c.in_ok-path.ensures c.in_ok-add_way.ensures)

pub returns : goal.returns
returns c =
    let ways = (λ (fronts : List (List Step)). ways_after fronts c.args.lead.now c.args.led.steps.now c.args.object.now) in
    left_end (subst (λ l. AddsLeft (ways c.args.led.fronts.now) c.args.files.now (ways l) c.loop-front.files) (drop_all c.loop-front.front-index c.args.led.fronts.now c.loop-front-test.false) c.loop-front.invariant)
