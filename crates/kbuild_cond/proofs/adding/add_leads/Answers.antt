use Rattle.kbuild_paths.specs.declared.step.Step.{Step}
use Rattle.std.proofs.Common.{List}
use Rattle.std.specs.List.{flat_map}
use Rattle.kbuild_cond.specs.Files.{ways_after}
use Rattle.kbuild_cond.proofs.AddingLaws.{item_on, item_out, items_end}
use Rattle.kbuild_cond.proofs.adding.add_leads.Goals as goal

pub returns-in_err-add_lead : goal.returns-in_err-add_lead
returns-in_err-add_lead c =
    let ways = (λ (lead : List Step). ways_after c.args.led.fronts.now lead c.args.led.steps.now c.args.object.now) in
    item_out ways c.args.led.leads.now c.loop-lead.lead-index (flat_map ways c.args.led.leads.now) c.args.files.now c.loop-lead.files c.lead-item.result c.loop-lead-test.true c.lead-item.is c.add_lead.new.files c.add_lead.new.files
    c.in_err-add_lead.field-0.0 c.from_residual.result c.from_residual.ensures.1 c.loop-lead.invariant c.in_err-add_lead.ensures

pub loop-lead-preserved : goal.loop-lead-preserved
loop-lead-preserved c =
    let ways = (λ (lead : List Step). ways_after c.args.led.fronts.now lead c.args.led.steps.now c.args.object.now) in
    item_on ways c.args.led.leads.now c.loop-lead.lead-index (flat_map ways c.args.led.leads.now) c.args.files.now c.loop-lead.files c.lead-item.result c.loop-lead-test.true c.lead-item.is c.add_lead.new.files c.loop-lead.invariant c.in_ok-add_lead.ensures

pub returns : goal.returns
returns c =
    let ways = (λ (lead : List Step). ways_after c.args.led.fronts.now lead c.args.led.steps.now c.args.object.now) in
    items_end ways c.args.led.leads.now c.loop-lead.lead-index (flat_map ways c.args.led.leads.now) c.args.files.now c.loop-lead.files c.loop-lead-test.false c.loop-lead.invariant
