-- The end of a parse: defaults are given, and nothing more is refused than the walk refuses.
use Rattle.std.proofs.Common.{◌≡◌, ◌∙◌, ap, ap₂, sym, refl, codes, List, [], ◌∷◌, ◌++◌, Some, None, Option, Bool, true, false, if◌then◌else◌, ◌&&◌, ◌||◌, is_some, fold, map, take, drop}
use Rattle.std.proofs.lemmas.Bool.{false≢true}
use Rattle.std.specs.List.{list_all}
use Rattle.clap.specs.Words.{Row, Rule, Text, fault_of}
use Rattle.clap.specs.Simple.{built, entered}
use Rattle.clap.specs.Walk.{idle, walk, has_row, nothing_held, with_default}
use Rattle.clap.specs.Faults.{default_fault, defaults_fault, entered_fault, level_fault, settle_fault, walk_fault}
use Rattle.clap.specs.Kinds.{Kinds, or_else}
use Rattle.ut_words.specs.Command.{the_app}
use Rattle.ut_words.specs.Options.{Form, OptionRow, flag}
use Rattle.ut_words.proofs.Nil.{is_nil}
use Rattle.ut_words.proofs.Rules.{rule_for, ruled, file, known, rules-table}
use Rattle.ut_words.proofs.Shown.{evidence}
use Rattle.ut_words.proofs.TurnFaults.{or_nothing}
use Rattle.ut_words.proofs.Turns.{shape, rules, at}
use Rattle.ut_words.proofs.Walking.{accepts, rows_at_end}

-- the default of an argument is never refused
abbrev Faultless : Rule → Type 0
Faultless a = (rows : List Row) → default_fault rows a ≡ []

abbrev AreFaultless : List Rule → Type 0
AreFaultless [] = Unit {0}
AreFaultless (a ∷ rest) = Faultless a × AreFaultless rest

no_default_fault : (arguments : List Rule) → AreFaultless arguments → (rows : List Row) → defaults_fault rows arguments ≡ []
unfolding defaults_fault
no_default_fault [] are rows = refl
no_default_fault (a ∷ rest) are rows = ap₂ or_else (are.0 rows) (no_default_fault rest are.1 (with_default rows a))

none_or : (b : Bool) (kinds : Kinds) → (if b || true then [] else kinds) ≡ []
none_or true kinds = refl
none_or false kinds = refl

right_default : (b : Bool) (kinds : Kinds) → kinds ≡ [] → (if b || false then [] else kinds) ≡ []
right_default true kinds e = refl
right_default false kinds e = e

form_faultless : (name : Text) (form : Option Form) → Faultless (ruled name form)
unfolding ruled
form_faultless name None rows = right_default (has_row name rows) _ refl
form_faultless name (Some form) rows = none_or (has_row name rows) _

file_faultless : Faultless file
unfolding file
file_faultless rows = none_or (has_row (codes "FILE") rows) _

rows_faultless : (table : List OptionRow) → AreFaultless (map rule_for table ++ file ∷ [])
unfolding rule_for
rows_faultless [] = (file_faultless, tt)
rows_faultless (row ∷ table) = (form_faultless row.name row.form, rows_faultless table)

-- nothing is refused after the walk but an option without its value
no_subcommand : (words : List Text) (stop : Option (Text × List Text))
    → level_fault shape [] nothing_held words (is_some (entered (built the_app) stop)) (entered_fault (built the_app) stop) ≡ level_fault shape [] nothing_held words false []
no_subcommand words None = refl
no_subcommand words (Some p) = refl

left_alone : (walked_faults settle_faults defaults_faults : Kinds) → defaults_faults ≡ []
    → is_nil (or_else walked_faults (or_else [] (or_else settle_faults (or_else defaults_faults [])))) ≡ is_nil (or_else walked_faults settle_faults)
left_alone w s d none = ap (λ k. is_nil (or_else w (or_else s (or_else k [])))) none ∙ ap (λ k. is_nil (or_else w k)) (or_nothing s)

pub fault_of-accepts : (words : List Text) → is_nil (fault_of the_app words) ≡ accepts (at [] None idle) words
unfolding accepts
fault_of-accepts words =
    ap is_nil (no_subcommand words (walk rules [] nothing_held words).stopped)
    ∙ left_alone (walk_fault shape [] (at [] None idle) words) (settle_fault rules false (walk rules [] nothing_held words).held) _
    (ap (defaults_fault (rows_at_end (at [] None idle) words)) rules-table ∙ no_default_fault (map rule_for known ++ file ∷ []) (rows_faultless known) (rows_at_end (at [] None idle) words))

-- only the flag has a default
same_rows : (b : Bool) (rows : List Row) → (if b then rows else rows) ≡ rows
same_rows true rows = refl
same_rows false rows = refl

valued_kept : (name : Text) (form : Form) (rows : List Row) → with_default rows (ruled name (Some form)) ≡ rows
unfolding ruled
valued_kept name form rows = same_rows (has_row name rows) rows

skip_valued : (table : List OptionRow) (more : List Rule) (rows : List Row) → list_all (λ row. is_some row.form) table ≡ true
    → fold with_default rows (map rule_for table ++ more) ≡ fold with_default rows more
unfolding rule_for
skip_valued [] more rows valued = refl
skip_valued (row ∷ table) more rows valued = by row.form refl (λ later. skip_valued table more rows later) valued
  where
    by : (form : Option Form) → row.form ≡ form → (list_all (λ r. is_some r.form) table ≡ true → fold with_default rows (map rule_for table ++ more) ≡ fold with_default rows more)
        → (is_some row.form && list_all (λ r. is_some r.form) table) ≡ true
        → fold with_default (with_default rows (ruled row.name row.form)) (map rule_for table ++ more) ≡ fold with_default rows more
    by None is later h = absurd (false≢true (sym (ap (λ f. is_some f && list_all (λ r. is_some r.form) table) is) ∙ h))
    by (Some form) is later h =
        ap (λ rs. fold with_default rs (map rule_for table ++ more)) (ap (λ f. with_default rows (ruled row.name f)) is ∙ valued_kept row.name form rows)
        ∙ later (sym (ap (λ f. is_some f && list_all (λ r. is_some r.form) table) is) ∙ h)

file_kept : (rows : List Row) → with_default rows file ≡ rows
unfolding file
file_kept rows = same_rows (has_row (codes "FILE") rows) rows

abbrev pub the_flag : Rule
the_flag = rule_for (flag evidence)

table_at_flag : map rule_for known ++ file ∷ [] ≡ map rule_for (take 6 known) ++ the_flag ∷ (map rule_for (drop 7 known) ++ file ∷ [])
table_at_flag = refl

pub finished_is : (rows : List Row) → fold with_default rows rules ≡ with_default rows the_flag
finished_is rows =
    ap (fold with_default rows) (rules-table ∙ table_at_flag)
    ∙ skip_valued (take 6 known) (the_flag ∷ (map rule_for (drop 7 known) ++ file ∷ [])) rows refl
    ∙ skip_valued (drop 7 known) (file ∷ []) (with_default rows the_flag) refl ∙ file_kept (with_default rows the_flag)
