use Rattle.std.proofs.Common.{◌++◌, sym, ap, ◌∙◌}
use Rattle.std.proofs.lemmas.Result.{on_ok_weaker}
use Rattle.ut_text.specs.Text.{text_eq}
use Rattle.cpp_blocks.specs.Mentions.{firsts, with_new}
use Rattle.ut_case.specs.Numbering.{basis_outers, step_outers}
use Rattle.problem_sources.specs.Grounds.{basis_of}
use Rattle.problem_sources.proofs.FirstsLaws.{outer_new}
use Rattle.problem_sources.proofs.numbering.add_step.Goals as goal

pub returns-in_ok-text-in-Free : goal.returns-in_ok-text-in-Free
returns-in_ok-text-in-Free c = let first = basis_outers (basis_of c.args.ground.now) in let more = c.args.more.now.keys in
    on_ok_weaker c.add_outer.result (λ h. ap (λ ks. first ++ ks) h ∙ (outer_new first more c.in_ok-text-in-Free.text ∙ (ap (with_new text_eq (first ++ more)) c.in_ok-text-in-Free.ensures
    ∙ ap (λ s. firsts text_eq (first ++ more) (step_outers s)) (sym c.in-Free.is)))) c.add_outer.ensures
