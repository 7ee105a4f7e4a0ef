use Rattle.std.proofs.Common.{List, ◌&&◌, sym, ap, ◌∙◌}
use Rattle.std.specs.List.{list_all}
use Rattle.ut_logic.specs.declared.facts.Fact.{Fact}
use Rattle.model_slice.specs.Named.{names_of}
use Rattle.model_slice.specs.Found.{has_fact}
use Rattle.model_slice.proofs.KnownLaws.{known_by_tests, tests_by_known}
use Rattle.model_slice.proofs.known.are_known.Goals as goal

pub returns : goal.returns
returns c = let facts = c.args.facts.now.list in let roots = c.args.roots.now in
    let same = c.all_have_facts.ensures
    ∙ (ap (λ (fs : List Fact). list_all (has_fact fs) roots && list_all (λ (f : Fact). list_all (has_fact fs) (names_of fs f.node)) c.as_slice.result.now) c.in_ok-store.ensures
    ∙ ap (λ (fs : List Fact). list_all (has_fact facts) roots && list_all (λ (f : Fact). list_all (has_fact facts) (names_of facts f.node)) fs) c.as_slice.ensures) in (
      λ e. known_by_tests facts roots (sym same ∙ e),
      λ k. same ∙ tests_by_known facts roots k,
    )
