use Rattle.std.proofs.Common.{ℕ, List, map, sym, subst, arith}
use Rattle.std.specs.List.{flat_map}
use Rattle.std.proofs.lemmas.List.{take_all}
use Rattle.ut_case.specs.Numbering.{source_undeclared}
use Rattle.problem_sources.specs.Grounds.{basis_of, posed_source}
use Rattle.problem_sources.specs.Undeclared.{AddsNames}
use Rattle.problem_sources.specs.declared.source.Source as read
use Rattle.problem_sources.proofs.SetLaws.{adds_nothing, adds_then, named_more}
use Rattle.problem_sources.proofs.undeclared.add_sources.Goals as goal

pub loop-source-init : goal.loop-source-init
loop-source-init c = adds_nothing c.args.set.now

pub loop-source-preserved : goal.loop-source-preserved
loop-source-preserved c = let xs = c.args.sources.now in let i = c.loop-source.source-index in let e = c.source-item.result in
    let f : read.Source → List (List ℕ) = λ s. source_undeclared (basis_of c.args.ground.now) (posed_source c.args.conds.now s) in
    let adds : AddsNames c.loop-source.set c.add_names.new.set (f e) = subst (AddsNames c.loop-source.set c.add_names.new.set) c.in_ok-names.ensures c.in_ok-add_names.ensures in
    subst (AddsNames c.args.set.now c.add_names.new.set) (sym (named_more (source_undeclared (basis_of c.args.ground.now)) (posed_source c.args.conds.now) xs i e (omega (arith, c.loop-source-test.true)) c.source-item.is))
    (adds_then c.args.set.now c.loop-source.set c.add_names.new.set _ (f e) c.loop-source.invariant adds)

pub returns : goal.returns
returns c = let g = source_undeclared (basis_of c.args.ground.now) in let p = posed_source c.args.conds.now in
    subst (λ (xs : List read.Source). AddsNames c.args.set.now c.loop-source.set (flat_map g (map p xs))) (take_all _ _ c.loop-source-test.false) c.loop-source.invariant
