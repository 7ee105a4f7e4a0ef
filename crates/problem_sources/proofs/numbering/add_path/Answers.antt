use Rattle.std.proofs.Common.{◌+◌, ◌++◌, sym, ap, ◌∙◌, drop, arith}
use Rattle.std.specs.List.{flat_map}
use Rattle.ut_text.specs.Text.{text_eq}
use Rattle.cpp_blocks.specs.Mentions.{firsts}
use Rattle.kbuild_paths.specs.declared.step.Step.{Step}
use Rattle.ut_case.specs.Numbering.{basis_outers, step_outers}
use Rattle.problem_sources.specs.Grounds.{basis_of}
use Rattle.problem_sources.proofs.FirstsLaws.{firsts_next}
use Rattle.problem_sources.proofs.numbering.add_path.Goals as goal

pub loop-step-preserved : goal.loop-step-preserved
loop-step-preserved c = let xs = c.args.steps.now in let i = c.loop-step.step-index in let seen = basis_outers (basis_of c.args.ground.now) ++ c.loop-step.more.keys in
    ap (λ ks. firsts text_eq ks (flat_map step_outers (drop (i + 1) xs))) (c.in_ok-add_step.ensures ∙ ap (λ (x : Step). firsts text_eq seen (step_outers x)) c.step-item.is)
    ∙ (sym (firsts_next text_eq step_outers seen xs i c.step-item.result (omega (arith, c.loop-step-test.true))) ∙ c.loop-step.invariant)
