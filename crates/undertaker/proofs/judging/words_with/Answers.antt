use Rattle.std.proofs.Common.{◌≡◌, ◌∙◌, ◌+◌, ◌<◌, ◌∷◌, List, ℕ, false, length, drop, get_or, subst, sym}
use Rattle.std.proofs.lemmas.List.{drop_more}
use Rattle.undertaker.specs.declared.steps.Step.{Step}
use Rattle.undertaker.specs.declared.steps.Step.TheVariants.{Opens}
use Rattle.undertaker.specs.declared.wishes.Meaning.TheVariants.{Free}
use Rattle.undertaker.specs.Steps.{wishes_in}
use Rattle.undertaker.specs.Wishes.{Among}
use Rattle.undertaker.proofs.JudgingLaws.{Judged, judged_step, judged_all, step_below, drop_none}
use Rattle.undertaker.proofs.judging.words_with.Goals as goal

-- what stands after the last step
abbrev no_step : Step
no_step = Opens (record { name = 0; meaning = Free; defined = false })

-- the first of what is left
next_step : (steps : List Step) (i : ℕ) → i < length steps → drop i steps ≡ get_or steps i no_step ∷ drop (i + 1) steps
next_step steps i lt = drop_more steps i no_step lt

pub go_over-requires-clause-within : goal.go_over-requires-clause-within
go_over-requires-clause-within c = let judged = c.loop-step.invariant.judged in
    step_below (length c.args.graph.now.needs) (wishes_in c.args.steps.now) (get_or c.args.steps.now c.loop-step.step-index no_step) (drop (c.loop-step.step-index + 1) c.args.steps.now) c.loop-step.path
    c.requires.within judged.known (λ w m. judged.left w (subst (λ (ss : List Step). Among w (wishes_in ss)) (sym (next_step c.args.steps.now c.loop-step.step-index c.loop-step-test.true)) m))

pub loop-step-preserved : goal.loop-step-preserved
loop-step-preserved c = record {
  clear = c.in_ok-go_over.ensures.clear;
  count = c.in_ok-go_over.ensures.count ∙ c.loop-step.invariant.count;
  judged = rw c.in_ok-go_over.ensures.path (judged_step c.args.graph.now c.args.steps.now c.loop-step.words.items c.go_over.new.words.items c.loop-step.path
      (get_or c.args.steps.now c.loop-step.step-index no_step) (drop (c.loop-step.step-index + 1) c.args.steps.now)
      (subst (Judged c.args.graph.now c.args.steps.now c.loop-step.words.items c.loop-step.path) (next_step c.args.steps.now c.loop-step.step-index c.loop-step-test.true) c.loop-step.invariant.judged)
      c.in_ok-go_over.ensures.words);
}

pub returns : goal.returns
returns c = judged_all c.args.graph.now c.args.steps.now c.loop-step.words.items c.loop-step.path
    (subst (Judged c.args.graph.now c.args.steps.now c.loop-step.words.items c.loop-step.path) (drop_none c.args.steps.now c.loop-step.step-index c.loop-step-test.false) c.loop-step.invariant.judged)
