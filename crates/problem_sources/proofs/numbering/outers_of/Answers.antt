use Rattle.std.proofs.Common.{◌≡◌, ◌+◌, ◌++◌, List, sym, ap, ◌∙◌, drop, map, arith}
use Rattle.std.specs.List.{flat_map}
use Rattle.std.proofs.lemmas.List.{append-nil}
use Rattle.ut_text.specs.Text.{text_eq}
use Rattle.cpp_blocks.specs.Mentions.{firsts}
use Rattle.kbuild_paths.specs.declared.step.Step.{Step}
use Rattle.kbuild_paths.specs.Paths.{paths_of}
use Rattle.ut_case.specs.Numbering.{basis_outers, source_outers, step_outers}
use Rattle.problem_sources.specs.Grounds.{basis_of, posed_source}
use Rattle.problem_sources.specs.declared.source.Source as read
use Rattle.problem_sources.proofs.FirstsLaws.{firsts_map_next}
use Rattle.problem_sources.proofs.numbering.outers_of.Goals as goal

pub loop-source-init : goal.loop-source-init
loop-source-init c = let first = basis_outers (basis_of c.args.ground.now) in
    ap (λ ks. firsts text_eq ks (flat_map source_outers (map (posed_source c.args.conds.now) c.args.sources.now))) (ap (λ ks. first ++ ks) c.new-more.ensures.empty ∙ append-nil first)

pub loop-source-preserved : goal.loop-source-preserved
loop-source-preserved c = let xs = c.args.sources.now in let i = c.loop-source.source-index in let conds = c.args.conds.now in
    let seen = basis_outers (basis_of c.args.ground.now) ++ c.loop-source.more.keys in
    let own : c.paths_of.result.now ≡ paths_of conds _ = c.paths_of.ensures ∙ ap (λ (s : read.Source). paths_of conds s.name) c.source-item.is in
    ap (λ ks. firsts text_eq ks (flat_map source_outers (map (posed_source conds) (drop (i + 1) xs)))) (c.in_ok-add_paths.ensures ∙ ap (λ (x : List (List Step)). firsts text_eq seen (flat_map (flat_map step_outers) x)) own)
    ∙ (sym (firsts_map_next text_eq source_outers (posed_source conds) seen xs i c.source-item.result (omega (arith, c.loop-source-test.true))) ∙ c.loop-source.invariant)
