-- The report on the sources of a run, as this program makes it: every source is built, and no question needs evidence.
-- Rule: this project's own.
use Rattle.std.specs.Prelude.{◌≡◌, ℕ, ◌<◌, Bool, List, [], ◌∷◌, ◌++◌, suc, Result, Ok, Err, length, get_or}
use Rattle.std.specs.List.{flat_map}
use Rattle.ut_text.specs.Bytes.{Bytes}
use Rattle.cpp_directives.specs.declared.directive.Directive.{Directive}
use Rattle.cpp_directives.specs.declared.bad.CppBad.{CppBad}
use Rattle.cpp_blocks.specs.Blocks.{count_of}
use Rattle.kconf_tree.specs.Shape.{Shape}
use Rattle.ut_case.specs.declared.question.Family.{Family}
use Rattle.ut_case.specs.declared.question.Ask.{Ask}
use Rattle.ut_case.specs.declared.word.Word.{Word}
use Rattle.ut_case.specs.declared.word.Word.TheVariants.{Live}
use Rattle.ut_report.specs.Lines.{block_line, refused_line, totals_of, total_line, text_of}
use Rattle.undertaker.specs.Verdicts.{IsWordOf}

-- ---- sources

-- what a report says of a source: why it is refused, or the word on each block
pub data Said : Type 0 where
  Refusal : CppBad → Said
  Words : List Word → Said

-- the lines of the blocks from this number on
abbrev pub block_lines : Bytes → ℕ → ℕ → List Word → List Bytes
block_lines name steps block [] = []
block_lines name steps block (w ∷ ws) = block_line name steps block w ∷ block_lines name steps (suc block) ws

-- the lines of one source
abbrev pub source_lines : ℕ → Bytes × Said → List Bytes
source_lines steps (name, Refusal bad) = refused_line name bad ∷ []
source_lines steps (name, Words ws) = block_lines name steps 1 ws

-- the words on its blocks
abbrev pub words_of : Bytes × Said → List Word
words_of (name, Refusal bad) = []
words_of (name, Words ws) = ws

-- the lines of the report, from the names of the sources and what is said of each
abbrev pub report_lines : ℕ → List (Bytes × Said) → List Bytes
report_lines steps said = flat_map (source_lines steps) said ++ total_line (totals_of (flat_map words_of said)) ∷ []

-- ---- the report

-- a source as it was read: its name, and its directives or its first fault
pub record Source : Type 0 where
  pub name : Bytes
  pub read : Result (List Directive) CppBad

-- each block has its right word, where `spent` tells which questions weren't decided
pub record AreWords (t : Shape) (ds : List Directive) (spent : ℕ → Family → Ask → Bool) (words : List Word) : Type 0 where
  pub each : length words ≡ count_of ds
  pub right : (k : ℕ) → k < length words → IsWordOf t ds (spent (suc k)) (suc k) (get_or words k Live)

-- what is said of a source is right
abbrev pub IsSaidOf : Shape → (ℕ → Family → Ask → Bool) → Result (List Directive) CppBad → Said → Type 0
IsSaidOf t spent (Ok ds) (Words ws) = AreWords t ds spent ws
IsSaidOf t spent (Ok ds) (Refusal b) = ⊥
IsSaidOf t spent (Err e) (Words ws) = ⊥
IsSaidOf t spent (Err e) (Refusal b) = b ≡ e

-- and of each source in order, where `spent` takes the source's number first
abbrev pub AreSaid : Shape → (ℕ → ℕ → Family → Ask → Bool) → ℕ → List Source → List (Bytes × Said) → Type 0
AreSaid t spent file [] [] = Unit {0}
AreSaid t spent file (s ∷ ss) [] = ⊥
AreSaid t spent file [] (x ∷ xs) = ⊥
AreSaid t spent file (s ∷ ss) (x ∷ xs) = (x.0 ≡ s.name) × IsSaidOf t (spent file) s.read x.1 × AreSaid t spent (suc file) ss xs

-- the text is the report of these sources under this tree
pub record IsReport (t : Shape) (sources : List Source) (spent : ℕ → ℕ → Family → Ask → Bool) (steps : ℕ) (text : Bytes) : Type 0 where
  pub said : List (Bytes × Said)
  pub right : AreSaid t spent 0 sources said
  pub lines : text ≡ text_of (report_lines steps said)
