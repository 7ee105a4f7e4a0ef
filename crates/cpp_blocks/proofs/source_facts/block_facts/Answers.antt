use Rattle.std.proofs.Common.{◌≡◌, ◌<◌, length, map, get_or, ◌+◌, [], sym, ap, subst, ◌∙◌, drop, take, arith}
use Rattle.std.specs.Prelude.{All}
use Rattle.std.proofs.lemmas.List.{drop_all}
use Rattle.std.proofs.lemmas.Result.{IfOk-weaker}
use Rattle.cpp_blocks.specs.Counted.{IsCounted}
use Rattle.cpp_blocks.specs.Facts.{at_first, file_fact, facts_of}
use Rattle.cpp_blocks.specs.Nodes.{nodes_of, IsOrderly, IsListed, IsListedStart, MentionsOwn}
use Rattle.cpp_blocks.specs.Formulas.{source_of}
use Rattle.cpp_blocks.specs.Gathered.{put_all}
use Rattle.cpp_blocks.specs.Steps.{fact_at, facts_along}
use Rattle.cpp_blocks.specs.Turns.{touched_in}
use Rattle.cpp_blocks.proofs.FirstsLaws.{touched_next}
use Rattle.cpp_blocks.specs.Solution.{IsTheRun}
use Rattle.ut_logic.specs.declared.facts.Fact.{Fact}
use Rattle.ut_logic.specs.declared.facts.Facts.{Facts}
use Rattle.cpp_blocks.proofs.Listing.{all_listed}
use Rattle.cpp_blocks.proofs.Meeting.{each_of, all_of_each}
use Rattle.cpp_blocks.proofs.NodesLaws.{all_nodes}
use Rattle.cpp_blocks.proofs.OwnLaws.{facts_own}
use Rattle.cpp_blocks.proofs.Ranks.{all_orderly}
use Rattle.cpp_blocks.proofs.GatheredLaws.{all_put, facts_next, turns_kept}
use Rattle.cpp_blocks.proofs.SolutionLaws.{the_run}
use Rattle.cpp_blocks.proofs.source_facts.block_facts.Goals as goal

pub loop-directive-init : goal.loop-directive-init
loop-directive-init c = (
  c.new-turns.ensures,
  λ i. put_all (c.in_ok-facts.ensures i) (facts_along (source_of c.args.file c.args.blocks.now) [] (c.new-groups.ensures i) c.args.blocks.now),
)

pub loop-directive-preserved : goal.loop-directive-preserved
loop-directive-preserved c =
    let ds = c.args.blocks.now in
    let src = source_of c.args.file ds in
    let i = c.loop-directive.directive-index in
    let d = c.directive-item.result in
    let touched = touched_in (take i ds) in
    let is = c.loop-directive.invariant.0 in
    let all = c.directives-directive-items.ensures.value in
    let within : i < length ds = omega (arith, c.loop-directive-test.true, ap length all) in
    let this = c.directive-item.is ∙ ap (λ xs. get_or xs i d) all in
    let more = touched_next ds i d within this in
    let facts = c.in_ok-put.ensures ∙ ap (put_all c.loop-directive.facts) (c.in_ok-fact.ensures ∙ ap (λ turn. fact_at src turn c.loop-directive.groups d.line d.what) (turns_kept c.loop-directive.turns touched is)) in (
      subst (IsCounted c.pass.new.self) (sym more) (c.in_ok-pass.ensures touched is),
      (λ j. put_all (facts j) (facts_along src (more j) (c.in_ok-pass-2.ensures j) (drop (i + 1) ds)))
          ∙ (sym (facts_next c.loop-directive.facts src touched c.loop-directive.groups ds i d within this) ∙ c.loop-directive.invariant.1),
    )

pub returns : goal.returns
returns c =
    let ds = c.args.blocks.now in
    let src = source_of c.args.file ds in
    let touched = touched_in (take c.loop-directive.directive-index ds) in
    let all = sym (ap (λ xs. put_all c.loop-directive.facts (facts_along src touched c.loop-directive.groups xs)) (drop_all c.loop-directive.directive-index ds (omega (arith, c.loop-directive-test.false, ap length c.directives-directive-items.ensures.value)))) ∙ c.loop-directive.invariant.1 in
    let exact = all_put c.args.file c.args.starts.now (file_fact c.args.file c.args.built) (facts_along src [] at_first ds) c.loop-directive.facts all in
    let run = the_run c.args.file ds c.args.starts.now c.args.built c.directives-directive-items.ensures.formed c.requires.count c.requires.given c.requires.built in
    let nodes = all_nodes c.args.file ds c.args.starts.now c.args.built c.directives-directive-items.ensures.formed c.requires.count in
    let starts = each_of IsListedStart c.args.starts.now c.requires.starts_listed in
    let ranks = all_orderly c.args.file ds c.args.starts.now c.args.built c.directives-directive-items.ensures.formed starts c.requires.built_listed in
    let lists = all_listed c.args.file ds c.args.starts.now c.args.built starts c.requires.built_listed in
    let orderly = all_of_each (IsOrderly c.args.file ds) (facts_of c.args.file ds c.args.starts.now c.args.built) ranks in
    let listed = all_of_each IsListed (facts_of c.args.file ds c.args.starts.now c.args.built) lists in
    let own = all_of_each (MentionsOwn c.args.file) (facts_of c.args.file ds c.args.starts.now c.args.built) (facts_own c.args.file ds (facts_of c.args.file ds c.args.starts.now c.args.built) ranks lists) in
    record {
      facts = IfOk-weaker c.into_facts.result _ _ (λ f e. e ∙ exact) c.into_facts.ensures;
      run = IfOk-weaker c.into_facts.result _ (λ (f : Facts). IsTheRun src ds c.args.starts.now c.args.built f.list) (λ f e. subst (IsTheRun src ds c.args.starts.now c.args.built) (sym (e ∙ exact)) run) c.into_facts.ensures;
      known = IfOk-weaker c.into_facts.result _ (λ (f : Facts). map (λ (fact : Fact). fact.node) f.list ≡ nodes_of c.args.file ds) (λ f e. ap (map (λ (fact : Fact). fact.node)) (e ∙ exact) ∙ nodes) c.into_facts.ensures;
      orderly = IfOk-weaker c.into_facts.result _ (λ (f : Facts). All (IsOrderly c.args.file ds) f.list) (λ f e. subst (All (IsOrderly c.args.file ds)) (sym (e ∙ exact)) orderly) c.into_facts.ensures;
      listed = IfOk-weaker c.into_facts.result _ (λ (f : Facts). All IsListed f.list) (λ f e. subst (All IsListed) (sym (e ∙ exact)) listed) c.into_facts.ensures;
      own = IfOk-weaker c.into_facts.result _ (λ (f : Facts). All (MentionsOwn c.args.file) f.list) (λ f e. subst (All (MentionsOwn c.args.file)) (sym (e ∙ exact)) own) c.into_facts.ensures;
    }
