use Rattle.std.proofs.Common.{ap, ◌∙◌, take}
use Rattle.std.specs.Map.{lookup}
use Rattle.std.proofs.lemmas.List.{take_all}
use Rattle.indexmap.specs.IndexMap.{insert_entry}
use Rattle.ut_text.specs.Text.{text_eq}
use Rattle.kconf_tree.specs.Types.{types_of, joined_with}
use Rattle.kconf_tree.proofs.Steps.{one_more}
use Rattle.kconf_tree.proofs.TypeLaws.{types_push}
use Rattle.kconf_tree.proofs.types.Types.of.Goals as goal

pub loop-config-preserved : goal.loop-config-preserved
loop-config-preserved c = let e = c.config-item.result in let xs = c.args.configs.now in let i = c.loop-config.config-index in
    c.in_ok-add.ensures ∙ (ap (λ m. insert_entry text_eq m e.name (joined_with (lookup (text_eq e.name) m) e)) c.loop-config.invariant
    ∙ (types_push (take i xs) e ∙ ap types_of (one_more xs i e c.loop-config-test.true c.config-item.is)))

pub returns : goal.returns
returns c = c.loop-config.invariant ∙ ap types_of (take_all _ _ c.loop-config-test.false)
