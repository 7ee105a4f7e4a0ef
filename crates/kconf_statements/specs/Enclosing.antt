-- The lines that enclose a line: those of menus, choices and ifs that have no end word before it, and of the `source`
-- lines that lead to its text. Rule: Linux kconfig-language, "Menu structure" and "Menu dependencies".
use Rattle.std.specs.Prelude.{ℕ, suc, Bool, true, false, drop, ◌++◌, Option, None, Some, List, [], ◌∷◌}
use Rattle.std.specs.List.{list_any}
use Rattle.kconf_entries.specs.declared.expr.Expr.{Expr}
use Rattle.kconf_statements.specs.declared.lines.Opens.{Opens}
use Rattle.kconf_statements.specs.declared.lines.Opens.TheVariants as opens
use Rattle.kconf_statements.specs.EntryLines.{Entry, At, Before}

-- an enclosing line: what it opens, and its conditions
pub record Opener : Type 0 where
  pub opens : Opens
  pub line : ℕ
  pub depends : List Expr
  pub visible : List Expr

-- an enclosing line of this kind, with these conditions
abbrev pub opener : Opens → ℕ → List Expr → List Expr → Opener
opener what line depends visible = record { opens = what; line = line; depends = depends; visible = visible }

-- the lines that enclose what follows an entry, from those that enclose the entry
abbrev pub following : ℕ → Entry → List Opener → List Opener
following line Entry.MainMenu os = os
following line Entry.Comment os = os
following line (Entry.Menu m) os = opener opens.Menu line m.depends m.visible ∷ os
following line (Entry.Config c) os = os
following line (Entry.Choice c) os = opener opens.Choice line c.depends [] ∷ os
following line (Entry.If e) os = opener opens.If line (e ∷ []) [] ∷ os
following line (Entry.End what) os = drop 1 os
following line (Entry.Source file) os = opener opens.Source line [] [] ∷ os
following line Entry.Sourced os = drop 1 os

-- the lines that enclose what follows these entries, the innermost first
abbrev pub enclosing : Before → List Opener
enclosing [] = []
enclosing (At line e ∷ before) = following line e (enclosing before)

-- their conditions, from the outermost, each one's in order
abbrev pub conditions : List Opener → List Expr
conditions [] = []
conditions (o ∷ os) = conditions os ++ o.depends

-- those of their `visible if` lines, in the same order
abbrev pub visible_conditions : List Opener → List Expr
visible_conditions [] = []
visible_conditions (o ∷ os) = visible_conditions os ++ o.visible

-- whether a line opens a choice
abbrev pub is_choice : Opens → Bool
is_choice opens.Menu = false
is_choice opens.Choice = true
is_choice opens.If = false
is_choice opens.Source = false

-- whether one of these lines opens a choice
abbrev pub in_choice : List Opener → Bool
in_choice os = list_any (λ o. is_choice o.opens) os

-- one more, where a menu, a choice or an `if` opens
abbrev pub counted : Opens → ℕ → ℕ
counted opens.Menu n = suc n
counted opens.Choice n = suc n
counted opens.If n = suc n
counted opens.Source n = n

-- how many menus, choices and ifs are open
abbrev pub open_count : List Opener → ℕ
open_count [] = 0
open_count (o ∷ os) = counted o.opens (open_count os)

-- whether the innermost line opens this; a `source` line ends with its text, and by no word
abbrev pub is_ended_by : Opens → Opens → Bool
is_ended_by opens.Menu opens.Menu = true
is_ended_by opens.Choice opens.Choice = true
is_ended_by opens.If opens.If = true
is_ended_by what other = false

-- whether an end word ends the innermost of these lines
abbrev pub ends_innermost : Opens → List Opener → Bool
ends_innermost what [] = false
ends_innermost what (o ∷ os) = is_ended_by what o.opens

-- of the lines before the first `source` line the last one
abbrev pub unclosed_by : Opens → ℕ → Option ℕ → Option ℕ
unclosed_by opens.Source line outer = None
unclosed_by what line None = Some line
unclosed_by what line (Some outer) = Some outer

-- the line of the outermost entry that is open in the innermost text
abbrev pub unclosed : List Opener → Option ℕ
unclosed [] = None
unclosed (o ∷ os) = unclosed_by o.opens o.line (unclosed os)
