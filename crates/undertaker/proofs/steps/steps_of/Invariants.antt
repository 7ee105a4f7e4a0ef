-- The steps so far are those of the directives so far, and those that are left are plain.
use Rattle.std.proofs.Common.{take, drop}
use Rattle.undertaker.specs.Plain.{ArePlain}
use Rattle.undertaker.proofs.StepLaws.{Numbered}
use Rattle.undertaker.proofs.steps.steps_of.Given as goal

abbrev pub invariant-loop-directive : goal.invariant-loop-directive
invariant-loop-directive l = record {
  numbered : Numbered l.graph.names l.macros l.steps.items (take l.directive-index l.directives);
  left : ArePlain (drop l.directive-index l.directives);
}
