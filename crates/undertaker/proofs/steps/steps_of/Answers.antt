use Rattle.std.proofs.Common.{◌≡◌, ◌∙◌, ◌++◌, ◌∷◌, [], take, get_or, sym, subst, ap}
use Rattle.std.proofs.lemmas.List.{take_more, drop_more}
use Rattle.cpp_directives.specs.declared.directive.Directive.{Directive}
use Rattle.undertaker.specs.Plain.{ArePlain}
use Rattle.undertaker.proofs.StepLaws.{Numbered, numbered_step}
use Rattle.undertaker.proofs.steps.steps_of.Goals as goal

pub loop-directive-preserved : goal.loop-directive-preserved
loop-directive-preserved c = let ds = c.args.directives.now in let i = c.loop-directive.directive-index in let d = c.directive-item.result in
    let now : get_or ds i d ≡ d = sym c.directive-item.is in
    record {
      numbered = rw c.in_ok-push.ensures.items (subst (Numbered c.args.graph.now.names c.step_of.new.macros (c.loop-directive.steps.items ++ c.in_ok-step_of.field-0 ∷ []))
          (ap (λ (x : Directive). take i ds ++ x ∷ []) (sym now) ∙ sym (take_more ds i d c.loop-directive-test.true))
          (numbered_step c.args.graph.now.names c.loop-directive.macros c.loop-directive.steps.items (take i ds) c.in_ok-step_of.field-0 d c.step_of.new.macros c.loop-directive.invariant.numbered
          c.in_ok-step_of.ensures.macros c.in_ok-step_of.ensures.stands c.in_ok-step_of.ensures.meant));
      left = (subst ArePlain (drop_more ds i d c.loop-directive-test.true) c.loop-directive.invariant.left).1;
    }
