-- What the readers of texts promise each other. Want of memory may come in place of every answer.
use Rattle.std.specs.Prelude.{◌≡◌, ℕ, Bool, false, codes, ◌||◌, Option, None, Some, Result, Ok, Err, List, [], ◌∷◌, if◌then◌else◌}
use Rattle.ut_text.specs.Bytes.{Bytes}
use Rattle.ut_base.specs.Plans.{Gives, Refuses, Takes, ◌then◌, plan}
use Rattle.ut_base.specs.Reading.{Stand, Reads}
use Rattle.kconf_entries.specs.declared.entries.Var.{Var}
use Rattle.kconf_lines.specs.Lines.{Line}
use Rattle.kconf_lines.specs.HelpTexts.{after_help}
use Rattle.kconf_words.specs.declared.line_words.LineWord.{LineWord}
use Rattle.kconf_words.specs.declared.line_bad.SyntaxKind.TheVariants.{Unclosed}
use Rattle.kconf_words.specs.declared.line_bad.LineBad.{LineBad}
use Rattle.kconf_words.specs.declared.line_bad.LineBad.TheVariants as bad
use Rattle.kconf_words.specs.Kinds.{is_word}
use Rattle.kconf_cut.specs.Words.{words_of}
use Rattle.kconf_statements.specs.EntryLines.{Before}
use Rattle.kconf_statements.specs.Enclosing.{enclosing, unclosed}
use Rattle.kconf_progress.specs.Kept.{Kept}
use Rattle.kconf_progress.specs.Progress.{Stands}
use Rattle.kconf_texts.specs.declared.bad.KconfBad.{KconfBad}
use Rattle.kconf_texts.specs.declared.bad.KconfBad.TheVariants.{Oom}
use Rattle.kconf_texts.specs.Errors.{kconf_errors}
use Rattle.kconf_texts.specs.Texts.{at_line, is_help, Reading, Sourcing, after_text, words_read, text_read, sourced}
use Rattle.kconf_parse.specs.declared.line.Follows.{Follows}

-- whether words begin a help text
abbrev pub begins_help : List LineWord → Bool
begins_help [] = false
begins_help (w ∷ ws) = is_word (codes "help") w || is_word (codes "---help---") w

-- what is left after a line, and after its help text where it begins one
abbrev pub after_help_if : Bool → List Line → List Line
after_help_if helps ls = if helps then after_help ls else ls

-- what follows a line
abbrev pub followed : Sourcing → Bytes → ℕ → Before → Option Bytes → Reading
followed sourcing file n new None = Gives new
followed sourcing file n new (Some target) = sourcing file n target new then after_text n

-- a refusal of a line of a file, unless there is no memory
abbrev pub IsRefusal : Bytes → ℕ → LineBad → KconfBad → Type 0
IsRefusal file n bad.Oom e = e ≡ Oom
IsRefusal file n b Oom = Unit {0}
IsRefusal file n b e = e ≡ at_line file n b

-- a line was added: the lines before it with what it says, and what follows it; or its refusal
abbrev pub Adds : (Sourcing → Bytes → Reading) → ℕ → Bool → Result Follows LineBad → Kept → Type 0
Adds reading n helps (Ok f) p =
    (new : Before) × ((sourcing : Sourcing) (file : Bytes) → reading sourcing file ≡ followed sourcing file n new f.text) × Stands new p × (f.is_help ≡ helps)
Adds reading n helps (Err bad.Oom) p = Unit {0}
Adds reading n helps (Err e) p = (sourcing : Sourcing) (file : Bytes) → reading sourcing file ≡ Refuses (at_line file n e)

-- the words of a line
abbrev pub AddsWords : Bytes → ℕ → Before → List LineWord → Result Follows LineBad → Kept → Type 0
AddsWords root n before ws r p = Adds (λ sourcing file. words_read [] root sourcing file n before (Ok ws)) n (begins_help ws) r p

-- a line of a text
abbrev pub ReadsLine : List Var → Bytes → ℕ → Before → Bytes → Result Follows LineBad → Kept → Type 0
ReadsLine vars root n before text r p = Adds (λ sourcing file. words_read vars root sourcing file n before (words_of vars text)) n (is_help (words_of vars text)) r p

-- at the end of a text
abbrev pub EndsText : {A : Type 0} → Bytes → Before → Result A KconfBad → Type 0
EndsText file before (Ok x) = unclosed (enclosing before) ≡ None
EndsText file before (Err e) = (line : ℕ) × (unclosed (enclosing before) ≡ Some line) × IsRefusal file line (bad.Syntax Unclosed) e

-- what is kept stands for what reading came to, with no entry of the text left open
abbrev pub Ends : {A : Type 0} → Result Before KconfBad → Result A KconfBad → Kept → Type 0
Ends (Ok before) (Ok x) p = Stands before p × (unclosed (enclosing before) ≡ None)
Ends (Ok before) (Err e) p = ⊥
Ends (Err d) (Ok x) p = ⊥
Ends (Err d) (Err e) p = d ≡ e

-- the text of a file was read
abbrev pub ReadsText : {A : Type 0} → List Var → Bytes → ℕ → Bytes → Before → Stand → Stand → ℕ → ℕ → Result A KconfBad → Kept → Type 0
ReadsText vars root room file before old new used now r p =
    (read : Result Before KconfBad)
    × Reads (plan kconf_errors (Takes file (text_read vars root (sourced vars root room) file before))) old new used now read
    × Ends read r p
