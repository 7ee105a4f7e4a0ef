-- The ways that are left lead to the same files as all did.
use Rattle.std.proofs.Common.{drop}
use Rattle.kbuild_cond.specs.Adding.{AddsLeft}
use Rattle.kbuild_cond.specs.Files.{ways_after}
use Rattle.kbuild_cond.proofs.adding.add_lead.Given as goal

abbrev pub invariant-loop-front : goal.invariant-loop-front
invariant-loop-front l =
    AddsLeft (ways_after l.led.fronts.now l.lead l.led.steps.now l.object) l.initial.files (ways_after (drop l.front-index l.led.fronts.now) l.lead l.led.steps.now l.object) l.files
