-- What is kept while lines are read, and what each step does to it.
use Rattle.std.specs.Prelude.{◌≡◌, ℕ, ◌+◌, ◌-◌, Bool, false, ◌&&◌, nat_lt, length, take, ◌++◌, slice_get, option_to_list, Option, None, Some, Result, Ok, Err, List, [], ◌∷◌, if◌then◌else◌}
use Rattle.std.specs.Option.{is_some}
use Rattle.std.specs.List.{list_any}
use Rattle.indexmap.specs.IndexMap.{insert_entry}
use Rattle.ut_text.specs.Bytes.{Bytes}
use Rattle.ut_text.specs.Text.{text_eq}
use Rattle.ut_text.specs.Results.{◌>>=◌}
use Rattle.ut_base.specs.declared.limits.Limit.TheVariants as limit
use Rattle.kconf_entries.specs.declared.entries.Kind.{Kind}
use Rattle.kconf_entries.specs.declared.entries.ConfigEntry.{ConfigEntry}
use Rattle.kconf_entries.specs.declared.entries.ChoiceEntry.{ChoiceEntry}
use Rattle.kconf_entries.specs.declared.expr.Expr.{Expr}
use Rattle.kconf_words.specs.declared.line_bad.SyntaxKind.TheVariants as fault
use Rattle.kconf_words.specs.declared.line_bad.LineBad.{LineBad}
use Rattle.kconf_words.specs.declared.line_bad.LineBad.TheVariants as bad
use Rattle.kconf_words.specs.Faults.{Fails}
use Rattle.kconf_statements.specs.declared.lines.Opens.{Opens}
use Rattle.kconf_statements.specs.declared.lines.Opens.TheVariants as opens
use Rattle.kconf_statements.specs.declared.lines.ConfigLine.{ConfigLine}
use Rattle.kconf_statements.specs.declared.lines.ChoiceLine.{ChoiceLine}
use Rattle.kconf_statements.specs.declared.lines.MenuLine.{MenuLine}
use Rattle.kconf_statements.specs.declared.lines.MenuLine.TheVariants as menu_line
use Rattle.kconf_statements.specs.declared.lines.EntryLine.{EntryLine}
use Rattle.kconf_statements.specs.declared.lines.EntryLine.TheVariants as line
use Rattle.kconf_statements.specs.declared.lines.Says.{Says}
use Rattle.kconf_statements.specs.declared.lines.Says.TheVariants as says
use Rattle.kconf_statements.specs.EntryLines.{first_type}
use Rattle.kconf_statements.specs.Entries.{may_be_member, is_logical}
use Rattle.kconf_progress.specs.declared.kinds.Known.{Known}
use Rattle.kconf_progress.specs.declared.open_entries.ConfigLines.{ConfigLines}
use Rattle.kconf_progress.specs.declared.open_entries.ChoiceLines.{ChoiceLines}
use Rattle.kconf_progress.specs.declared.open_entries.OpenEntry.{OpenEntry}
use Rattle.kconf_progress.specs.declared.open_entries.OpenEntry.TheVariants as entry
use Rattle.kconf_progress.specs.declared.openers.OpenLine.{OpenLine}
use Rattle.kconf_progress.specs.Known.{is_elsewhere, first_choice, known_of}
use Rattle.kconf_progress.specs.Openers.{opening, is_ended_by}
use Rattle.kconf_progress.specs.OpenEntries.{new_config, new_choice, type_in, config_with, choice_with, config_entry, choice_entry}

-- the ended entries, the one that is being read, the enclosing lines from the outermost with how many of them are menus,
-- choices and ifs, the symbols with what is known of them, the names of choices, and the choice that encloses what follows
pub record Kept : Type 0 where
  pub configs : List ConfigEntry
  pub choices : List ChoiceEntry
  pub entry : OpenEntry
  pub openers : List OpenLine
  pub open_count : ℕ
  pub symbols : List (Bytes × Known)
  pub choice_names : List Bytes
  pub choice : Option ℕ

-- before the first line
abbrev pub at_start : Kept
at_start = record { configs = []; choices = []; entry = entry.Nothing; openers = []; open_count = 0; symbols = []; choice_names = []; choice = None }

-- the entry that is being read ends
abbrev pub ended_configs : List OpenLine → Option ℕ → OpenEntry → List ConfigEntry
ended_configs openers number entry.Nothing = []
ended_configs openers number (entry.Config c) = config_entry openers number c ∷ []
ended_configs openers number (entry.Choice c) = []
ended_configs openers number entry.Menu = []
ended_configs openers number entry.Comment = []

abbrev pub ended_choices : List OpenLine → OpenEntry → List ChoiceEntry
ended_choices openers entry.Nothing = []
ended_choices openers (entry.Config c) = []
ended_choices openers (entry.Choice c) = choice_entry openers c ∷ []
ended_choices openers entry.Menu = []
ended_choices openers entry.Comment = []

abbrev pub ending : Kept → Kept
ending p = record p {
  configs = p.configs ++ ended_configs p.openers p.choice p.entry;
  choices = p.choices ++ ended_choices p.openers p.entry;
  entry = entry.Nothing;
}

-- another entry begins
abbrev pub beginning : Kept → OpenEntry → Kept
beginning p e = record (ending p) { entry = e }

-- ---- entries

-- an entry that no choice takes
abbrev pub outside_choice : Kept → Result Kept LineBad → Result Kept LineBad
outside_choice p next = if is_some p.choice then Err (bad.Syntax fault.Choice) else next

-- a menu, `if` or choice opens, at most 64 of them at a time
abbrev pub opened : Kept → OpenLine → OpenEntry → Result Kept LineBad
opened p o e = if nat_lt p.open_count 64
    then Ok (record (beginning p e) { openers = p.openers ++ o ∷ []; open_count = p.open_count + 1 })
    else Err (bad.Depth limit.Nesting)

abbrev pub menu : Kept → ℕ → Result Kept LineBad
menu p n = outside_choice p (opened p (opening opens.Menu n) entry.Menu)

abbrev pub condition : Kept → ℕ → Expr → Result Kept LineBad
condition p n e = opened p (record (opening opens.If n) { depends = e ∷ [] }) entry.Nothing

-- the number of a choice is that of the choices before it
abbrev pub with_choice : Option Bytes → Kept → Kept
with_choice name p = record p { choice = Some (length p.choices); choice_names = p.choice_names ++ option_to_list name }

abbrev pub is_used : List Bytes → Option Bytes → Bool
is_used names None = false
is_used names (Some name) = list_any (text_eq name) names

abbrev pub begun_choice : Kept → ℕ → Option Bytes → Result Kept LineBad
begun_choice p n name = opened p (opening opens.Choice n) (entry.Choice new_choice) >>= λ q. Ok (with_choice name q)

abbrev pub unused_choice : Kept → ℕ → Option Bytes → Result Kept LineBad
unused_choice p n name = if is_used p.choice_names name then Err (bad.Syntax fault.Choice) else begun_choice p n name

abbrev pub choice : Kept → ℕ → Option Bytes → Result Kept LineBad
choice p n name = outside_choice p (unused_choice p n name)

-- a config begins; in a choice it is refused where it may be a member of another one too
abbrev pub in_choice : Kept → Bytes → ℕ → Known → Result Kept LineBad
in_choice p name number known = if may_be_member known.kind && is_elsewhere number known.choice then Err (bad.Syntax fault.Choice)
    else Ok (record (beginning p (entry.Config (new_config name))) {
      symbols = insert_entry text_eq p.symbols name (record known { choice = first_choice known.choice (Some number) });
    })

abbrev pub config_by : Kept → Bytes → Option ℕ → Result Kept LineBad
config_by p name None = Ok (beginning p (entry.Config (new_config name)))
config_by p name (Some number) = in_choice p name number (known_of p.symbols name)

abbrev pub config : Kept → Bytes → Result Kept LineBad
config p name = config_by p name p.choice

-- an end word ends the innermost enclosing line, which opens what it ends
abbrev pub innermost : List OpenLine → Option OpenLine
innermost openers = slice_get openers (length openers - 1)

abbrev pub ends : Opens → Option OpenLine → Bool
ends what None = false
ends what (Some o) = is_ended_by what o.opens

abbrev pub choice_after : Opens → Option ℕ → Option ℕ
choice_after opens.Menu number = number
choice_after opens.Choice number = None
choice_after opens.If number = number
choice_after opens.Source number = number

abbrev pub without_last : List OpenLine → List OpenLine
without_last openers = take (length openers - 1) openers

abbrev pub end : Kept → Opens → Result Kept LineBad
end p what = if ends what (innermost p.openers)
    then Ok (record (ending p) { openers = without_last p.openers; open_count = p.open_count - 1; choice = choice_after what p.choice })
    else Err (bad.Syntax fault.End)

-- the lines of a sourced text, and their end
abbrev pub source : Kept → ℕ → Kept
source p n = record (ending p) { openers = p.openers ++ opening opens.Source n ∷ [] }

abbrev pub sourced : Kept → Kept
sourced p = record (ending p) { openers = without_last p.openers }

abbrev pub entry_line : Kept → ℕ → EntryLine → Result Kept LineBad
entry_line p n line.MainMenu = outside_choice p (Ok (ending p))
entry_line p n line.Comment = Ok (beginning p entry.Comment)
entry_line p n line.Menu = menu p n
entry_line p n (line.Config name) = config p name
entry_line p n (line.Choice name) = choice p n name
entry_line p n (line.If e) = condition p n e
entry_line p n (line.End what) = end p what
entry_line p n (line.Source file) = Ok (source p n)

-- the file of a `source` line
abbrev pub file_of : EntryLine → Option Bytes
file_of line.MainMenu = None
file_of line.Comment = None
file_of line.Menu = None
file_of (line.Config name) = None
file_of (line.Choice name) = None
file_of (line.If e) = None
file_of (line.End what) = None
file_of (line.Source file) = Some file

-- ---- attributes

-- the last of a list is changed
abbrev pub on_last : {A : Type 0} → (A → A) → List A → List A
on_last f [] = []
on_last f (o ∷ []) = f o ∷ []
on_last f (o ∷ p ∷ os) = o ∷ on_last f (p ∷ os)

-- a condition of the innermost enclosing line
abbrev pub with_depends : Kept → Expr → Kept
with_depends p e = record p { openers = on_last (λ o. record o { depends = o.depends ++ e ∷ [] }) p.openers }

abbrev pub with_visible : Kept → Expr → Kept
with_visible p e = record p { openers = on_last (λ o. record o { visible = o.visible ++ e ∷ [] }) p.openers }

abbrev pub depending : Kept → Option Expr → Kept
depending p None = p
depending p (Some e) = with_depends p e

-- a type line: the first type of a symbol counts, and it may give the choice its type
abbrev pub with_known_type : List (Bytes × Known) → Bytes → Kind → List (Bytes × Known)
with_known_type symbols name k =
    let known = known_of symbols name in insert_entry text_eq symbols name (record known { kind = first_type known.kind k })

abbrev pub with_given : Kind → List ChoiceEntry → List ChoiceEntry
with_given k choices = on_last (λ c. record c { kind = first_type c.kind k }) choices

abbrev pub gives_type : Kept → Bytes → Kind → Bool
gives_type p name k = is_some p.choice && (is_logical k && may_be_member (known_of p.symbols name).kind)

abbrev pub typed : Kept → Bytes → Kind → Kept
typed p name k = record p { symbols = with_known_type p.symbols name k; choices = if gives_type p name k then with_given k p.choices else p.choices }

abbrev pub noted : Kept → Bytes → Option Kind → Kept
noted p name None = p
noted p name (Some k) = typed p name k

abbrev pub of_config : Kept → ConfigLines → ConfigLine → Kept
of_config p c a = record (noted p c.name (type_in a)) { entry = entry.Config (config_with c a) }

-- the config that is being read, and what is left where it is taken out
abbrev pub config_in : OpenEntry → Option ConfigLines
config_in entry.Nothing = None
config_in (entry.Config c) = Some c
config_in (entry.Choice c) = None
config_in entry.Menu = None
config_in entry.Comment = None

abbrev pub without_config : Kept → OpenEntry → Kept
without_config p entry.Nothing = p
without_config p (entry.Config c) = record p { entry = entry.Nothing }
without_config p (entry.Choice c) = p
without_config p entry.Menu = p
without_config p entry.Comment = p

abbrev pub config_line : Kept → ConfigLine → OpenEntry → Kept
config_line p a entry.Nothing = p
config_line p a (entry.Config c) = of_config p c a
config_line p a (entry.Choice c) = p
config_line p a entry.Menu = p
config_line p a entry.Comment = p

abbrev pub of_choice : Kept → ChoiceLines → ChoiceLine → Kept
of_choice p c a = let w = choice_with c a in depending (record p { entry = entry.Choice w.0 }) w.1

-- the choice that is being read, and what is left where it is taken out
abbrev pub choice_in : OpenEntry → Option ChoiceLines
choice_in entry.Nothing = None
choice_in (entry.Config c) = None
choice_in (entry.Choice c) = Some c
choice_in entry.Menu = None
choice_in entry.Comment = None

abbrev pub without_choice : Kept → OpenEntry → Kept
without_choice p entry.Nothing = p
without_choice p (entry.Config c) = p
without_choice p (entry.Choice c) = record p { entry = entry.Nothing }
without_choice p entry.Menu = p
without_choice p entry.Comment = p

abbrev pub choice_line : Kept → ChoiceLine → OpenEntry → Kept
choice_line p a entry.Nothing = p
choice_line p a (entry.Config c) = p
choice_line p a (entry.Choice c) = of_choice p c a
choice_line p a entry.Menu = p
choice_line p a entry.Comment = p

abbrev pub of_menu : Kept → MenuLine → Kept
of_menu p (menu_line.DependsOn e) = with_depends p e
of_menu p (menu_line.VisibleIf e) = with_visible p e

-- what a line says
abbrev pub step : Kept → ℕ → Says → Result Kept LineBad
step p n (says.Entry e) = entry_line p n e
step p n (says.OfConfig a) = Ok (config_line p a p.entry)
step p n (says.OfChoice a) = Ok (choice_line p a p.entry)
step p n (says.OfMenu a) = Ok (of_menu p a)
step p n says.OfComment = Ok p

abbrev pub file_in : Says → Option Bytes
file_in (says.Entry e) = file_of e
file_in (says.OfConfig a) = None
file_in (says.OfChoice a) = None
file_in (says.OfMenu a) = None
file_in says.OfComment = None

-- a step leads here, or has the fault
abbrev pub Leads : {A B : Type 0} → Result A LineBad → B → Result B LineBad → Type 0
Leads (Ok x) new read = read ≡ Ok new
Leads (Err e) new read = Fails e read
