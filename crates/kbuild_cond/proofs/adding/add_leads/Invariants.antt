-- The ways that are left lead to the same files as all did.
use Rattle.std.proofs.Common.{drop}
use Rattle.kbuild_cond.specs.Adding.{AddsLeft}
use Rattle.kbuild_cond.specs.Files.{ways_by}
use Rattle.kbuild_cond.proofs.adding.add_leads.Given as goal

abbrev pub invariant-loop-lead : goal.invariant-loop-lead
invariant-loop-lead l =
    AddsLeft (ways_by l.led.fronts.now l.led.leads.now l.led.steps.now l.object) l.initial.files (ways_by l.led.fronts.now (drop l.lead-index l.led.leads.now) l.led.steps.now l.object) l.files
