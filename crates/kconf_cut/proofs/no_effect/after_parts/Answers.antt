use Rattle.std.proofs.Common.{◌∙◌, sym}
use Rattle.kconf_cut.specs.declared.parts.Run.TheVariants.{Unquoted}
use Rattle.kconf_cut.specs.Reading.{part_shown}
use Rattle.kconf_cut.proofs.PartLemmas.{after_plain, after_step, part_shorter}
use Rattle.kconf_cut.proofs.no_effect.after_parts.Goals as goal

pub parts-init : goal.parts-init
parts-init c = after_plain c.args.text.now c.split_at.result.1.now c.plain_len.result c.plain_len.ensures.value c.split_at.ensures.back

pub parts-smaller : goal.parts-smaller
parts-smaller c = part_shorter Unquoted c.parts.rest.now (part_shown c.in-Some.field-0-0, c.in-Some.after.now) (sym c.in-Some.ensures)

pub parts-preserved : goal.parts-preserved
parts-preserved c =
    sym (after_step c.parts.rest.now (part_shown c.in-Some.field-0-0, c.in-Some.after.now) (sym c.in-Some.ensures)) ∙ c.parts.invariant
