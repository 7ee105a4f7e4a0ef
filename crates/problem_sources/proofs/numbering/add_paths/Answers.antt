use Rattle.std.proofs.Common.{◌+◌, ◌++◌, List, sym, ap, ◌∙◌, drop, arith}
use Rattle.std.specs.List.{flat_map}
use Rattle.ut_text.specs.Text.{text_eq}
use Rattle.cpp_blocks.specs.Mentions.{firsts}
use Rattle.kbuild_paths.specs.declared.step.Step.{Step}
use Rattle.ut_case.specs.Numbering.{basis_outers, step_outers}
use Rattle.problem_sources.specs.Grounds.{basis_of}
use Rattle.problem_sources.proofs.FirstsLaws.{firsts_next}
use Rattle.problem_sources.proofs.numbering.add_paths.Goals as goal

pub loop-path-preserved : goal.loop-path-preserved
loop-path-preserved c = let xs = c.args.paths.now in let i = c.loop-path.path-index in let seen = basis_outers (basis_of c.args.ground.now) ++ c.loop-path.more.keys in
    ap (λ ks. firsts text_eq ks (flat_map (flat_map step_outers) (drop (i + 1) xs))) (c.in_ok-add_path.ensures ∙ ap (λ (x : List Step). firsts text_eq seen (flat_map step_outers x)) (c.as_slice.ensures ∙ c.path-item.is))
    ∙ (sym (firsts_next text_eq (flat_map step_outers) seen xs i c.path-item.result (omega (arith, c.loop-path-test.true))) ∙ c.loop-path.invariant)
