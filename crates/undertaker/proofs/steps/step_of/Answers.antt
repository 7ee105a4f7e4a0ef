use Rattle.std.proofs.Common.{◌∙◌, [], List, ℕ, get_or, sym, ap}
use Rattle.std.proofs.lemmas.Option.{get_or_from_slice_get}
use Rattle.cpp_directives.specs.declared.directive.What.TheVariants.{If}
use Rattle.undertaker.specs.Meanings.{meaning_under}
use Rattle.undertaker.specs.Plain.{cond_of}
use Rattle.undertaker.proofs.StepLaws.{plain_step, plain_end}
use Rattle.undertaker.proofs.steps.step_of.Goals as goal

pub returns-in_ok-wish_of-in-Some-clause-stands : goal.returns-in_ok-wish_of-in-Some-clause-stands
returns-in_ok-wish_of-in-Some-clause-stands c = let w = c.in_ok-wish_of-in-Some.field-0 in let macro = get_or_from_slice_get c.wish_of.new.macros w.name c.in-Some.asked.name.now [] c.in_ok-wish_of-in-Some.ensures.name in (
  c.in_ok-wish_of-in-Some.ensures.within,
  plain_step c.args.directive.now c.requires c.in-Some.asked.name.now c.in-Some.asked.defined (sym c.in-Some.ensures)
      ∙ (ap (λ (n : List ℕ). If (cond_of n c.in-Some.asked.defined)) (sym macro) ∙ ap (λ b. If (cond_of (get_or c.wish_of.new.macros w.name []) b)) (sym c.in_ok-wish_of-in-Some.ensures.defined)),
)

pub returns-in_ok-wish_of-in-Some-clause-meant : goal.returns-in_ok-wish_of-in-Some-clause-meant
returns-in_ok-wish_of-in-Some-clause-meant c = let w = c.in_ok-wish_of-in-Some.field-0 in
    c.in_ok-wish_of-in-Some.ensures.meaning ∙ ap (meaning_under c.args.graph.now.names) (sym (get_or_from_slice_get c.wish_of.new.macros w.name c.in-Some.asked.name.now [] c.in_ok-wish_of-in-Some.ensures.name))

pub returns-in-None-clause-stands : goal.returns-in-None-clause-stands
returns-in-None-clause-stands c = plain_end c.args.directive.now c.requires (sym c.in-None.ensures)
