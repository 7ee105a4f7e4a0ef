-- What is kept of the lines so far: nothing of it is a list of lines, and each part is a function of that list.
use Rattle.std.specs.Prelude.{◌≡◌, ℕ, Bool, true, false, Some, Result, Ok, Err, List, [], ◌∷◌}
use Rattle.std.specs.List.{list_any}
use Rattle.ut_text.specs.Bytes.{Bytes}
use Rattle.ut_text.specs.Text.{text_eq}
use Rattle.kconf_words.specs.declared.line_bad.LineBad.{LineBad}
use Rattle.kconf_words.specs.Faults.{Fails}
use Rattle.kconf_statements.specs.EntryLines as lines
use Rattle.kconf_statements.specs.EntryLines.{type_of_lines, Entry, At, Before}
use Rattle.kconf_statements.specs.Enclosing.{Opener, is_choice, in_choice, enclosing, open_count}
use Rattle.kconf_statements.specs.Entries.{configs_of, choices_of, types_of, number_of_choice}
use Rattle.kconf_statements.specs.Standing.{is_used}
use Rattle.kconf_progress.specs.declared.open_entries.ConfigLines.{ConfigLines}
use Rattle.kconf_progress.specs.declared.open_entries.ChoiceLines.{ChoiceLines}
use Rattle.kconf_progress.specs.declared.open_entries.OpenEntry.{OpenEntry}
use Rattle.kconf_progress.specs.declared.open_entries.OpenEntry.TheVariants as open_entry
use Rattle.kconf_progress.specs.Kept.{Kept}
use Rattle.kconf_progress.specs.Known.{known_of, known_by}
use Rattle.kconf_progress.specs.Openers.{from_innermost}

-- the lines of a config as they are kept: of its types the first
pub record ShowsConfig (c : ConfigLines) (l : lines.ConfigLines) : Type 0 where
  pub name : c.name ≡ l.name
  pub kind : c.kind ≡ type_of_lines l.types
  pub depends : c.depends ≡ l.depends
  pub prompts : c.prompts ≡ l.prompts
  pub defaults : c.defaults ≡ l.defaults
  pub selects : c.selects ≡ l.selects
  pub implies : c.implies ≡ l.implies
  pub modules : c.modules ≡ l.modules

-- those of a choice: its dependencies stand with the enclosing line
pub record ShowsChoice (c : ChoiceLines) (l : lines.ChoiceLines) : Type 0 where
  pub kind : c.kind ≡ l.kind
  pub optional : c.optional ≡ l.optional
  pub prompts : c.prompts ≡ l.prompts
  pub defaults : c.defaults ≡ l.defaults

-- the entry that is being read
abbrev pub ShowsEntry : OpenEntry → Entry → Type 0
ShowsEntry o Entry.MainMenu = o ≡ open_entry.Nothing
ShowsEntry o Entry.Comment = o ≡ open_entry.Comment
ShowsEntry o (Entry.Menu m) = o ≡ open_entry.Menu
ShowsEntry o (Entry.Config l) = (c : ConfigLines) × (o ≡ open_entry.Config c) × ShowsConfig c l
ShowsEntry o (Entry.Choice l) = (c : ChoiceLines) × (o ≡ open_entry.Choice c) × ShowsChoice c l
ShowsEntry o (Entry.If e) = o ≡ open_entry.Nothing
ShowsEntry o (Entry.End what) = o ≡ open_entry.Nothing
ShowsEntry o (Entry.Source file) = o ≡ open_entry.Nothing
ShowsEntry o Entry.Sourced = o ≡ open_entry.Nothing

-- of these lines at most one opens a choice
abbrev pub AreOutside : Bool → List Opener → Type 0
AreOutside true os = in_choice os ≡ false
AreOutside false os = Unit {0}

abbrev pub HaveOneChoice : List Opener → Type 0
HaveOneChoice [] = Unit {0}
HaveOneChoice (o ∷ os) = AreOutside (is_choice o.opens) os × HaveOneChoice os

-- what does not depend on whether the last entry has ended
pub record Holds (before : Before) (p : Kept) : Type 0 where
  pub openers : enclosing before ≡ from_innermost p.openers
  pub alone : HaveOneChoice (enclosing before)
  pub counted : p.open_count ≡ open_count (enclosing before)
  pub choice : p.choice ≡ number_of_choice before
  pub symbols : (name : Bytes) → known_of p.symbols name ≡ known_by before name
  pub names : (name : Bytes) → list_any (text_eq name) p.choice_names ≡ is_used before (Some name)

-- the last entry has ended, and this one is being read
pub record Begun (before : Before) (e : OpenEntry) (p : Kept) : Type 0 where
  pub holds : Holds before p
  pub configs : p.configs ≡ configs_of before
  pub choices : p.choices ≡ choices_of (types_of before) before
  pub entry : p.entry ≡ e

-- the last entry has ended
abbrev pub Ended : Before → Kept → Type 0
Ended before p = Begun before open_entry.Nothing p

-- the last entry is being read
pub record Reads (own : ℕ) (e : Entry) (before : Before) (p : Kept) : Type 0 where
  pub holds : Holds (At own e ∷ before) p
  pub configs : p.configs ≡ configs_of before
  pub choices : p.choices ≡ choices_of (types_of (At own e ∷ before)) before
  pub entry : ShowsEntry p.entry e

-- these lines come to this
abbrev pub Stands : Before → Kept → Type 0
Stands [] p = Ended [] p
Stands (At own e ∷ before) p = Reads own e before p

-- a step leads to what these lines come to, or has the fault
abbrev pub Steps : {A : Type 0} → Result Before LineBad → Result A LineBad → Kept → Type 0
Steps read (Ok x) p = (before : Before) × (read ≡ Ok before) × Stands before p
Steps read (Err e) p = Fails e read
