-- Which entries may stand where. Rule: Linux kconfig-language, "Menu structure"; what a choice takes, and the limit on
-- nesting, are this project's.
use Rattle.std.specs.Prelude.{ℕ, Bool, true, false, not, ◌==◌, ◌&&◌, nat_le, Option, None, Some, Result, Ok, Err, List, [], ◌∷◌}
use Rattle.std.specs.List.{list_any}
use Rattle.ut_base.specs.declared.limits.Limit.TheVariants as limit
use Rattle.ut_text.specs.Text.{text_eq}
use Rattle.kconf_words.specs.declared.line_bad.SyntaxKind.TheVariants as fault
use Rattle.kconf_entries.specs.declared.entries.ConfigEntry.{ConfigEntry}
use Rattle.ut_text.specs.Bytes.{Bytes}
use Rattle.kconf_words.specs.declared.line_bad.LineBad.{LineBad}
use Rattle.kconf_words.specs.declared.line_bad.LineBad.TheVariants.{Syntax, Depth}
use Rattle.kconf_statements.specs.declared.lines.Opens.{Opens}
use Rattle.kconf_statements.specs.EntryLines.{Entry, Placed, At, Before}
use Rattle.kconf_statements.specs.Enclosing.{enclosing, in_choice, open_count, ends_innermost}
use Rattle.kconf_statements.specs.Entries.{TypeLine, configs_of, types_of, number_of_choice, type_of, may_be_member}

-- whether a config stands in a choice, and in another one than this
abbrev pub is_elsewhere : ℕ → Option ℕ → Bool
is_elsewhere n None = false
is_elsewhere n (Some m) = not (n == m)

-- whether a config here would be a member of two choices, by what is known so far
abbrev pub is_member_of_two_by : Option ℕ → List TypeLine → List ConfigEntry → Bytes → Bool
is_member_of_two_by None ts cs name = false
is_member_of_two_by (Some n) ts cs name = may_be_member (type_of ts name) && list_any (λ c. text_eq c.name name && is_elsewhere n c.choice) cs

-- whether a config with this name is refused as a member of two choices
abbrev pub is_member_of_two : Before → Bytes → Bool
is_member_of_two before name = is_member_of_two_by (number_of_choice before) (types_of before) (configs_of before) name

-- whether the name of a choice is used before
abbrev pub is_named : Bytes → Option Bytes → Bool
is_named name None = false
is_named name (Some other) = text_eq other name

-- whether an entry is a choice with this name
abbrev pub is_choice_named : Bytes → Placed → Bool
is_choice_named name (At line (Entry.Choice c)) = is_named name c.name
is_choice_named name p = false

-- whether a choice before has this name
abbrev pub is_used : Before → Option Bytes → Bool
is_used before None = false
is_used before (Some name) = list_any (is_choice_named name) before

-- menus, ifs and choices that may be open at one line
abbrev pub most_open : ℕ
most_open = 64

-- whether no more menu, choice or `if` may open
abbrev pub is_full : Before → Bool
is_full before = nat_le most_open (open_count (enclosing before))

-- whether a choice encloses what follows
abbrev pub stands_in_choice : Before → Bool
stands_in_choice before = in_choice (enclosing before)

-- for what an entry is refused after these, in this order
abbrev pub refusals : Before → Entry → List (Bool × LineBad)
refusals before Entry.MainMenu = (stands_in_choice before, Syntax fault.Choice) ∷ []
refusals before Entry.Comment = []
refusals before (Entry.Menu m) = (stands_in_choice before, Syntax fault.Choice) ∷ (is_full before, Depth limit.Nesting) ∷ []
refusals before (Entry.Config c) = (is_member_of_two before c.name, Syntax fault.Choice) ∷ []
refusals before (Entry.Choice c) = (stands_in_choice before, Syntax fault.Choice) ∷ (is_used before c.name, Syntax fault.Choice)
    ∷ (is_full before, Depth limit.Nesting) ∷ []
refusals before (Entry.If e) = (is_full before, Depth limit.Nesting) ∷ []
refusals before (Entry.End what) = (not (ends_innermost what (enclosing before)), Syntax fault.End) ∷ []
refusals before (Entry.Source file) = []
refusals before Entry.Sourced = []

-- the first that holds
abbrev pub first_refusal : List (Bool × LineBad) → Option LineBad
first_refusal [] = None
first_refusal ((true, e) ∷ rs) = Some e
first_refusal ((false, e) ∷ rs) = first_refusal rs

-- no refusal, or this one
abbrev pub unless : {A : Type 0} → Option LineBad → A → Result A LineBad
unless None x = Ok x
unless (Some e) x = Err e

-- an entry after these, or why it may not stand there
abbrev pub begun : ℕ → Before → Entry → Result Before LineBad
begun line before e = unless (first_refusal (refusals before e)) (At line e ∷ before)
