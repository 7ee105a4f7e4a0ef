-- The text that a run writes: the report on the one source, with every question decided.
-- Rule: this project's own; the verdicts are those of the EuroSys 2011 paper on Undertaker.
use Rattle.std.specs.Prelude.{◌≡◌, ℕ, Bool, false, List, [], ◌∷◌, ◌++◌, Result, Ok, Err, map, codes, decimal}
use Rattle.ut_text.specs.Bytes.{Bytes}
use Rattle.cpp_directives.specs.declared.directive.Directive.{Directive}
use Rattle.kconf_tree.specs.Shape.{Shape}
use Rattle.kconf_tree.specs.Gathered.{gathered}
use Rattle.ut_case.specs.declared.question.Family.{Family}
use Rattle.ut_case.specs.declared.question.Ask.{Ask}
use Rattle.ut_case.specs.declared.word.Word.{Word}
use Rattle.ut_report.specs.Lines.{text_of, total_line, totals_of}
use Rattle.undertaker.specs.Report.{AreWords, IsReport}
use Rattle.undertaker.specs.Lines.{ended, lines_on}
use Rattle.undertaker.specs.Outcome.{Texts}

-- no question is left undecided
abbrev pub none_spent : ℕ → ℕ → Family → Ask → Bool
none_spent file block family ask = false

-- the line on a source that is not of the first form, where this line of it is named
abbrev pub refused_line : Bytes → ℕ → Bytes
refused_line name line = name ++ codes ".refused notyet " ++ decimal line

-- and after it the total line
abbrev pub refused_lines : Bytes → ℕ → List Bytes
refused_lines name line = refused_line name line ∷ total_line (totals_of []) ∷ []

-- the text on a source with this name that reads so: the report, or that it is refused
abbrev pub IsTextOn : Shape → Bytes → Result (List Directive) ℕ → Bytes → Type 0
IsTextOn tree name (Ok ds) text = IsReport tree (record { name = name; read = Ok ds } ∷ []) none_spent 0 text
IsTextOn tree name (Err line) text = text ≡ text_of (refused_lines name line)

-- the text on these texts
abbrev pub IsText : Texts → Bytes → Type 0
IsText texts text = IsTextOn (gathered texts.entries) texts.source.name texts.source.read text

-- its lines, each with its newline
abbrev pub AreLinesOn : Shape → Bytes → Result (List Directive) ℕ → List Bytes → Type 0
AreLinesOn tree name (Ok ds) lines = (words : List Word) × AreWords tree ds (none_spent 0) words × (lines ≡ lines_on name words)
AreLinesOn tree name (Err line) lines = lines ≡ map ended (refused_lines name line)
