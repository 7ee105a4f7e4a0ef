-- The enclosing lines, from the outermost, as they are kept.
use Rattle.std.specs.Prelude.{ℕ, Bool, Option, None, List, [], ◌∷◌, ◌++◌}
use Rattle.kconf_entries.specs.declared.expr.Expr.{Expr}
use Rattle.kconf_statements.specs.declared.lines.Opens.{Opens}
use Rattle.kconf_statements.specs.Enclosing as enclosing
use Rattle.kconf_progress.specs.declared.openers.OpenLine.{OpenLine}

-- an enclosing line without conditions
abbrev pub opening : Opens → ℕ → OpenLine
opening what line = record { opens = what; line = line; depends = []; visible = [] }

-- an enclosing line, as the definition has it
abbrev pub opener_of : OpenLine → enclosing.Opener
opener_of o = record { opens = o.opens; line = o.line; depends = o.depends; visible = o.visible }

-- the enclosing lines from the innermost, as the definition has them
abbrev pub from_innermost : List OpenLine → List enclosing.Opener
from_innermost [] = []
from_innermost (o ∷ os) = from_innermost os ++ opener_of o ∷ []

-- their conditions, from the outermost
abbrev pub inherited : List OpenLine → List Expr
inherited [] = []
inherited (o ∷ os) = o.depends ++ inherited os

-- those of their `visible if` lines
abbrev pub inherited_visible : List OpenLine → List Expr
inherited_visible [] = []
inherited_visible (o ∷ os) = o.visible ++ inherited_visible os

-- whether an end word ends such a line
abbrev pub is_ended_by : Opens → Opens → Bool
is_ended_by what opens = enclosing.is_ended_by what opens

-- the line of the outermost entry that is open in the innermost text, where this is that of the lines before
abbrev pub unclosed_after : Option ℕ → List OpenLine → Option ℕ
unclosed_after line [] = line
unclosed_after line (o ∷ os) = unclosed_after (enclosing.unclosed_by o.opens o.line line) os

abbrev pub unclosed : List OpenLine → Option ℕ
unclosed os = unclosed_after None os
