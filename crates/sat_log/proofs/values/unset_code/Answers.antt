use Rattle.std.proofs.Common.{◌≡◌, ◌-◌, ◌/◌, get_or, sym, ◌∙◌}
use Rattle.std.proofs.lemmas.List.Elements.{All-more}
use Rattle.sat_log.proofs.RunLemmas.{differ}
use Rattle.sat_log.specs.declared.values.Value.TheVariants.{Unset}
use Rattle.sat_log.proofs.Places.{none_any}
use Rattle.sat_log.proofs.values.unset_code.Goals as goal

pub unreachable-requires : goal.unreachable-requires
unreachable-requires c = none_any (λ code. get_or c.args.values.now (code / 2 - 1) Unset ≡ Unset) c.args.codes.now c.loop-code.code-index c.loop-code-test.false c.loop-code.invariant c.requires.some

pub loop-code-preserved : goal.loop-code-preserved
loop-code-preserved c =
    All-more (λ code. ¬ (get_or c.args.values.now (code / 2 - 1) Unset ≡ Unset)) c.args.codes.now c.loop-code.code-index _ c.loop-code-test.true c.loop-code.invariant
    (λ e. differ (sym (c.is_unset.ensures.1 e) ∙ c.if-is_unset.false))
