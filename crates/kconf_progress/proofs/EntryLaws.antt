-- The entries of what is kept are those of the lines.
use Rattle.std.proofs.Common.{ℕ, ◌≡◌, ◌∙◌, refl, sym, ap, List, [], ◌∷◌, Option}
use Rattle.std.proofs.lemmas.List.{append-nil}
use Rattle.kconf_statements.specs.declared.lines.Opens.TheVariants as opens
use Rattle.kconf_statements.specs.EntryLines as lines
use Rattle.kconf_statements.specs.Enclosing.{Opener, opener, conditions, visible_conditions}
use Rattle.kconf_statements.specs.Entries as entries
use Rattle.kconf_progress.specs.declared.open_entries.ConfigLines.{ConfigLines}
use Rattle.kconf_progress.specs.declared.open_entries.ChoiceLines.{ChoiceLines}
use Rattle.kconf_progress.specs.declared.openers.OpenLine.{OpenLine}
use Rattle.kconf_progress.specs.Openers.{from_innermost}
use Rattle.kconf_progress.specs.OpenEntries.{config_entry, choice_entry}
use Rattle.kconf_progress.specs.Progress.{ShowsConfig, ShowsChoice}
use Rattle.kconf_progress.proofs.OpenerLaws.{inherited_is, visible_is}

-- a config
pub config_same : (os : List OpenLine) (number : Option ℕ) (c : ConfigLines) (l : lines.ConfigLines) → ShowsConfig c l
    → config_entry os number c ≡ entries.config_entry (from_innermost os) number l
config_same os number c l h =
    rw (inherited_is os, visible_is os, h.name, h.kind, h.depends, h.prompts, h.defaults, h.selects, h.implies, h.modules) refl

-- a choice, among the lines that enclose its own
pub choice_same : (os : List OpenLine) (es : List Opener) (own : ℕ) (c : ChoiceLines) (l : lines.ChoiceLines) → opener opens.Choice own l.depends [] ∷ es ≡ from_innermost os
    → ShowsChoice c l → choice_entry os c ≡ entries.choice_entry es l.kind l
choice_same os es own c l e h =
    let place = inherited_is os ∙ sym (ap conditions e) in
    let seen = visible_is os ∙ sym (ap visible_conditions e) ∙ append-nil (visible_conditions es) in
    rw (place, seen, h.kind, h.optional, h.prompts, h.defaults) refl
