use Rattle.std.proofs.Common.{◌∙◌, ap, sym}
use Rattle.kconf_cut.specs.Words.{begins_assigning, unblanked}
use Rattle.kconf_cut.specs.Reading.{part_shown}
use Rattle.kconf_cut.proofs.PartLemmas.{assigned_some}
use Rattle.kconf_cut.proofs.no_effect.is_assigned.Goals as goal

pub returns-in-Some : goal.returns-in-Some
returns-in-Some c =
    c.begins_assigning.ensures ∙ ap begins_assigning (c.unblanked.ensures ∙ ap unblanked c.after_parts.ensures)
    ∙ sym (assigned_some c.args.text.now (part_shown c.in-Some.field-0-0, c.in-Some.after.now) (sym c.in-Some.ensures))
