-- What a line that was read adds to the lines before it. This project's words.
use Rattle.std.specs.Prelude.{◌≡◌, ℕ, Option, Result, Ok, Err, List, [], ◌∷◌}
use Rattle.kconf_words.specs.declared.line_bad.SyntaxKind.TheVariants.{Attribute}
use Rattle.kconf_words.specs.declared.line_bad.LineBad.{LineBad}
use Rattle.kconf_words.specs.declared.line_bad.LineBad.TheVariants.{Syntax}
use Rattle.kconf_words.specs.Faults.{Fails}
use Rattle.kconf_statements.specs.declared.lines.EntryLine.{EntryLine}
use Rattle.kconf_statements.specs.declared.lines.EntryLine.TheVariants as entry
use Rattle.kconf_statements.specs.declared.lines.ConfigLine.{ConfigLine}
use Rattle.kconf_statements.specs.declared.lines.ChoiceLine.{ChoiceLine}
use Rattle.kconf_statements.specs.declared.lines.MenuLine.{MenuLine}
use Rattle.kconf_statements.specs.declared.lines.Owner.{Owner}
use Rattle.kconf_statements.specs.declared.lines.Owner.TheVariants as owner
use Rattle.kconf_statements.specs.declared.lines.Says.{Says}
use Rattle.kconf_statements.specs.declared.lines.Says.TheVariants as says
use Rattle.kconf_statements.specs.EntryLines.{new_config, new_choice, new_menu, config_with, choice_with, menu_with, Entry, Placed, At, Before}
use Rattle.kconf_statements.specs.Standing.{begun}

-- which entry the attributes of a line belong to
abbrev pub owner_by : Entry → Owner
owner_by Entry.MainMenu = owner.Nothing
owner_by Entry.Comment = owner.Comment
owner_by (Entry.Menu m) = owner.Menu
owner_by (Entry.Config c) = owner.Config
owner_by (Entry.Choice c) = owner.Choice
owner_by (Entry.If e) = owner.Nothing
owner_by (Entry.End what) = owner.Nothing
owner_by (Entry.Source file) = owner.Nothing
owner_by Entry.Sourced = owner.Nothing

abbrev pub owner_of : Before → Owner
owner_of [] = owner.Nothing
owner_of (At line e ∷ before) = owner_by e

-- the entry that a line begins
abbrev pub entry_of : EntryLine → Entry
entry_of entry.MainMenu = Entry.MainMenu
entry_of entry.Comment = Entry.Comment
entry_of entry.Menu = Entry.Menu new_menu
entry_of (entry.Config name) = Entry.Config (new_config name)
entry_of (entry.Choice name) = Entry.Choice (new_choice name)
entry_of (entry.If e) = Entry.If e
entry_of (entry.End what) = Entry.End what
entry_of (entry.Source file) = Entry.Source file

-- an attribute that does not belong there
abbrev pub misplaced : Result Before LineBad
misplaced = Err (Syntax Attribute)

-- an attribute in the entry before it
abbrev pub with_config : ConfigLine → Before → Result Before LineBad
with_config a (At own (Entry.Config c) ∷ before) = Ok (At own (Entry.Config (config_with c a)) ∷ before)
with_config a before = misplaced

abbrev pub with_choice : ChoiceLine → Before → Result Before LineBad
with_choice a (At own (Entry.Choice c) ∷ before) = Ok (At own (Entry.Choice (choice_with c a)) ∷ before)
with_choice a before = misplaced

abbrev pub with_menu : MenuLine → Before → Result Before LineBad
with_menu a (At own (Entry.Menu m) ∷ before) = Ok (At own (Entry.Menu (menu_with m a)) ∷ before)
with_menu a before = misplaced

-- the entries with what a line says
abbrev pub applied : ℕ → Before → Says → Result Before LineBad
applied line before (says.Entry e) = begun line before (entry_of e)
applied line before (says.OfConfig a) = with_config a before
applied line before (says.OfChoice a) = with_choice a before
applied line before (says.OfMenu a) = with_menu a before
applied line before says.OfComment = Ok before

-- an attribute belongs to an entry of its kind
abbrev pub IsOf : Owner → Says → Type 0
IsOf o (says.Entry e) = Unit {0}
IsOf o (says.OfConfig a) = o ≡ owner.Config
IsOf o (says.OfChoice a) = o ≡ owner.Choice
IsOf o (says.OfMenu a) = o ≡ owner.Menu
IsOf o says.OfComment = o ≡ owner.Comment

-- what was read adds what the table says, or the fault is that of the table
abbrev pub SaysOf : Result Before LineBad → ℕ → Before → Result Says LineBad → Type 0
SaysOf read line before (Ok s) = read ≡ applied line before s
SaysOf read line before (Err e) = Fails e read
