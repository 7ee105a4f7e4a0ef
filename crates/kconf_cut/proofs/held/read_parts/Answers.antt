use Rattle.std.proofs.Common.{refl, sym}
use Rattle.kconf_cut.specs.Reading.{part_shown}
use Rattle.kconf_cut.proofs.PartLemmas.{plain_first, part_shorter, held_more}
use Rattle.kconf_cut.proofs.held.read_parts.Goals as goal

pub parts-init : goal.parts-init
parts-init c =
    plain_first c.args.vars.now c.args.run c.args.text.now c.in_ok-held.held.items c.split_at.result.0.now c.split_at.result.1.now c.plain_len.result
    c.plain_len.ensures.value c.split_at.ensures.front c.split_at.ensures.back c.in_ok-held.ensures.items

pub parts-smaller : goal.parts-smaller
parts-smaller c = part_shorter c.args.run c.parts.rest.now (part_shown c.in-Some.part, c.in-Some.after.now) (sym c.in-Some.ensures)

pub parts-preserved : goal.parts-preserved
parts-preserved c =
    held_more c.args.vars.now c.args.run c.parts.held.items c.push_part.new.text.items c.parts.has_call c.in_ok-is_left.is_left _ c.parts.rest.now
    (part_shown c.in-Some.part, c.in-Some.after.now) _ (sym c.in-Some.ensures) c.in_ok-is_left.ensures.text c.in_ok-is_left.ensures.left refl c.parts.invariant
