-- Kconfig texts: the lines of the root text one after another, and in the place of a `source` line those of the text
-- that it names. The first refusal in this order ends reading. Rule: Linux kconfig-language, "Menu entries"; what is
-- refused first is this project's.
use Rattle.std.specs.Prelude.{ℕ, suc, zero, Bool, false, codes, ◌||◌, Option, None, Some, Result, Ok, Err, List, [], ◌∷◌}
use Rattle.ut_base.specs.declared.limits.Limit.TheVariants as limit
use Rattle.kconf_words.specs.declared.line_bad.SyntaxKind.TheVariants as fault
use Rattle.kconf_texts.specs.declared.bad.KconfBad.{KconfBad}
use Rattle.kconf_texts.specs.declared.bad.KconfBad.TheVariants as refusal
use Rattle.kconf_words.specs.declared.line_words.LineWord.{LineWord}
use Rattle.kconf_entries.specs.declared.entries.Entries.{Entries}
use Rattle.kconf_entries.specs.declared.entries.Var.{Var}
use Rattle.ut_text.specs.Bytes.{Bytes}
use Rattle.kconf_words.specs.declared.line_bad.LineBad.{LineBad}
use Rattle.kconf_words.specs.declared.line_bad.LineBad.TheVariants as bad
use Rattle.kconf_lines.specs.Lines.{Line}
use Rattle.kconf_lines.specs.LogicalLines.{logical_lines_of}
use Rattle.kconf_cut.specs.Words.{words_of}
use Rattle.kconf_words.specs.Kinds.{is_word}
use Rattle.kconf_statements.specs.EntryLines.{Entry, At, Before}
use Rattle.kconf_statements.specs.Enclosing.{enclosing, unclosed}
use Rattle.kconf_statements.specs.Entries.{entries_of}
use Rattle.kconf_statements.specs.Statements.{said}
use Rattle.ut_base.specs.Plans.{Plan, Gives, Refuses, Takes, ◌then◌}

-- `source` lines that may lead to one text
abbrev pub most_sourced : ℕ
most_sourced = 64

-- the refusal of a line of a file
abbrev pub at_line : Bytes → ℕ → LineBad → KconfBad
at_line file line (bad.Syntax kind) = refusal.Syntax file line kind
at_line file line bad.Macro = refusal.Macro file line
at_line file line (bad.Depth what) = refusal.Depth file line what
at_line file line bad.Oom = refusal.Oom

-- whether a line begins a help text
abbrev pub is_help : Result (List LineWord) LineBad → Bool
is_help (Ok (w ∷ ws)) = is_word (codes "help") w || is_word (codes "---help---") w
is_help (Ok []) = false
is_help (Err e) = false

-- what is read of lines: the entries so far, or a refusal
abbrev pub Reading : Type 0
Reading = Plan Before KconfBad

-- what a `source` line in a line of a file leads to
abbrev pub Sourcing : Type 0
Sourcing = Bytes → ℕ → Bytes → Before → Reading

-- after the lines of a sourced text
abbrev pub after_text : ℕ → Before → Reading
after_text line before = Gives (At line Entry.Sourced ∷ before)

-- the entries with what a line says; after a `source` line the lines of its text are read
abbrev pub with_text : Sourcing → Bytes → ℕ → Before → Reading
with_text sourcing file line (At own (Entry.Source target) ∷ before) =
    sourcing file line target (At own (Entry.Source target) ∷ before) then after_text line
with_text sourcing file line before = Gives before

-- what a line comes to: its refusal, or what follows it
abbrev pub unless_refused : Sourcing → Bytes → ℕ → Result Before LineBad → Reading
unless_refused sourcing file line (Ok before) = with_text sourcing file line before
unless_refused sourcing file line (Err e) = Refuses (at_line file line e)

-- at the end of a text each opener in it has its end word
abbrev pub text_end : Bytes → Before → Option ℕ → Reading
text_end file before None = Gives before
text_end file before (Some line) = Refuses (refusal.Syntax file line fault.Unclosed)

module _ (vars : List Var) (root : Bytes) where
  -- a line of words; one without words says nothing
  abbrev pub words_read : Sourcing → Bytes → ℕ → Before → Result (List LineWord) LineBad → Reading
  words_read sourcing file line before (Ok []) = Gives before
  words_read sourcing file line before (Ok (w ∷ ws)) = unless_refused sourcing file line (said root line before (w ∷ ws))
  words_read sourcing file line before (Err e) = Refuses (at_line file line e)

  -- the lines of a file one after another
  abbrev pub lines_read : Sourcing → Bytes → List Line → Before → Reading
  lines_read sourcing file [] before = text_end file before (unclosed (enclosing before))
  lines_read sourcing file (l ∷ ls) before = words_read sourcing file l.number before (words_of vars l.text) then lines_read sourcing file ls

  -- the text of a file
  abbrev pub text_read : Sourcing → Bytes → Before → Bytes → Reading
  text_read sourcing file before bytes = lines_read sourcing file (logical_lines_of (λ text. is_help (words_of vars text)) bytes) before

  -- a `source` line, where so many more may stand one in the text of another
  abbrev pub sourced : ℕ → Sourcing
  sourced zero file line target before = Refuses (refusal.Depth file line limit.SourceDepth)
  sourced (suc n) file line target before = Takes target (text_read (sourced n) target before)

  -- the entries of the root text and of the texts that it sources
  abbrev pub tree_plan : Plan Entries KconfBad
  tree_plan = Takes root (text_read (sourced most_sourced) root []) then λ before. Gives (entries_of before)
