use Rattle.std.proofs.Common.{sym, subst, List, length}
use Rattle.std.proofs.lemmas.Result.{IfOk-weaker}
use Rattle.undertaker.specs.declared.steps.Step.{Step}
use Rattle.kconf_tree.specs.Gathered.{gathered}
use Rattle.undertaker.specs.FirstTrees.{Shows}
use Rattle.undertaker.specs.Judging.{AreAnswered}
use Rattle.undertaker.proofs.Firsts.{tree_is_first}
use Rattle.undertaker.proofs.Entries.{tree_shows}
use Rattle.undertaker.proofs.Sources.{source_is_plain}
use Rattle.undertaker.proofs.DecisionLaws.{steps_below, answered_words}
use Rattle.undertaker.proofs.decision.words_of.Goals as goal

pub of-requires : goal.of-requires
of-requires c = (tree_is_first c.requires.tree.0 c.args.entries.now c.requires.tree.1).0

pub steps_of-requires : goal.steps_of-requires
steps_of-requires c = source_is_plain c.requires.source.0 c.args.directives.now c.requires.source.1

pub words_of_steps-requires : goal.words_of_steps-requires
words_of_steps-requires c = let first = tree_is_first c.requires.tree.0 c.args.entries.now c.requires.tree.1 in
    let shows = subst (Shows (gathered c.args.entries.now)) (sym c.in_ok-graph.ensures) (tree_shows c.args.entries.now first.0 first.1) in
    record { within = rw c.deref.ensures.value (steps_below c.in_ok-graph.graph.names c.in_ok-steps.ensures.macros (length c.in_ok-graph.graph.needs) shows.rows c.in_ok-steps.steps.items c.in_ok-steps.ensures.meant) }

pub returns : goal.returns
returns c = let first = tree_is_first c.requires.tree.0 c.args.entries.now c.requires.tree.1 in
    let shows = subst (Shows (gathered c.args.entries.now)) (sym c.in_ok-graph.ensures) (tree_shows c.args.entries.now first.0 first.1) in
    IfOk-weaker c.words_of_steps.result _ _ (λ words a. answered_words (gathered c.args.entries.now) c.in_ok-graph.graph shows c.args.directives.now c.in_ok-steps.steps.items c.in_ok-steps.ensures words.items
    (subst (λ (ss : List Step). AreAnswered c.in_ok-graph.graph ss words.items) c.deref.ensures.value a)) c.words_of_steps.ensures
