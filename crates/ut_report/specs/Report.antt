-- The report of a dead run: for each source in order either the one line that says why it is refused, or for each block in
-- order its line and what stands under it; and last the total line. `steps` is the budget of each question of the run.
-- Rule: this project's own.
use Rattle.std.specs.Prelude.{◌≡◌, ℕ, ◌<◌, Bool, List, [], ◌∷◌, ◌++◌, suc, Result, Ok, Err, map, length, get_or}
use Rattle.std.specs.List.{flat_map}
use Rattle.ut_text.specs.Bytes.{Bytes}
use Rattle.cpp_directives.specs.declared.directive.Directive.{Directive}
use Rattle.cpp_directives.specs.declared.bad.CppBad.{CppBad}
use Rattle.cpp_blocks.specs.Blocks.{count_of}
use Rattle.ut_case.specs.declared.question.Ask.{Ask}
use Rattle.ut_case.specs.declared.question.BlockId.{BlockId}
use Rattle.ut_case.specs.declared.question.Family.{Family}
use Rattle.ut_case.specs.declared.word.Word.{Word}
use Rattle.ut_case.specs.declared.word.Word.TheVariants.{Live}
use Rattle.ut_case.specs.Problem.{Source, Problem}
use Rattle.ut_case.specs.Words.{IsWordOf, IsWordAt, AreSpent}
use Rattle.ut_report.specs.Evidence.{AreFurther}
use Rattle.ut_report.specs.Lines.{block_line, refused_line, totals_of, total_line, text_of}

-- ---- what a report says

-- of a block: its word, and the lines under its line
pub record BlockSaid : Type 0 where
  pub word : Word
  pub under : List Bytes

-- the block that is read past the last one
abbrev pub nothing_said : BlockSaid
nothing_said = record { word = Live; under = [] }

-- of a source: why it is refused, or what is said of each block
pub data Said : Type 0 where
  Refusal : CppBad → Said
  Blocks : List BlockSaid → Said

-- ---- its lines

-- of the blocks from this number on
abbrev pub block_lines : Bytes → ℕ → ℕ → List BlockSaid → List Bytes
block_lines name steps block [] = []
block_lines name steps block (b ∷ bs) = (block_line name steps block b.word ∷ b.under) ++ block_lines name steps (suc block) bs

-- of one source
abbrev pub source_lines : ℕ → Bytes × Said → List Bytes
source_lines steps (name, Refusal bad) = refused_line name bad ∷ []
source_lines steps (name, Blocks bs) = block_lines name steps 1 bs

-- the words on its blocks
abbrev pub words_of : Bytes × Said → List Word
words_of (name, Refusal bad) = []
words_of (name, Blocks bs) = map (λ (b : BlockSaid). b.word) bs

-- of the whole report
abbrev pub report_lines : ℕ → List (Bytes × Said) → List Bytes
report_lines steps said = flat_map (source_lines steps) said ++ total_line (totals_of (flat_map words_of said)) ∷ []

-- ---- reports over a problem, where this says what is right of a block

-- what is said of each block of a source is right
pub record AreSaidOn (Right : BlockId → BlockSaid → Type 0) (file : ℕ) (ds : List Directive) (said : List BlockSaid) : Type 0 where
  pub count : length said ≡ count_of ds
  pub each : (k : ℕ) → k < length said → Right (record { file = file; block = suc k }) (get_or said k nothing_said)

-- what is said of a source is right
abbrev pub IsSaidOf : (BlockId → BlockSaid → Type 0) → ℕ → Result (List Directive) CppBad → Said → Type 0
IsSaidOf Right file (Ok ds) (Blocks bs) = AreSaidOn Right file ds bs
IsSaidOf Right file (Ok ds) (Refusal b) = ⊥
IsSaidOf Right file (Err e) (Blocks bs) = ⊥
IsSaidOf Right file (Err e) (Refusal b) = b ≡ e

-- and of each source in order, from this number on
abbrev pub AreSaid : (BlockId → BlockSaid → Type 0) → ℕ → List Source → List (Bytes × Said) → Type 0
AreSaid Right file [] [] = Unit {0}
AreSaid Right file (s ∷ ss) [] = ⊥
AreSaid Right file [] (x ∷ xs) = ⊥
AreSaid Right file (s ∷ ss) (x ∷ xs) = (x.0 ≡ s.name) × IsSaidOf Right file s.read x.1 × AreSaid Right (suc file) ss xs

-- the text says what is right of all sources
pub record IsReportBy (p : Problem) (Right : BlockId → BlockSaid → Type 0) (steps : ℕ) (text : Bytes) : Type 0 where
  pub said : List (Bytes × Said)
  pub right : AreSaid Right 0 p.sources said
  pub lines : text ≡ text_of (report_lines steps said)

-- ---- where some questions were not decided

-- which questions on each block were not decided
abbrev pub Spent : Type 0
Spent = BlockId → Family → Ask → Bool

-- the word on a block is right, and so is what stands under its line
pub record IsSaidOn (p : Problem) (steps : ℕ) (evidence : Bool) (spent : Spent) (b : BlockId) (said : BlockSaid) : Type 0 where
  pub right : IsWordOf p steps (spent b) b said.word
  pub under : AreFurther evidence p b said.word said.under

-- the text is the report where these questions were not decided
abbrev pub IsReport : Problem → ℕ → Bool → Spent → Bytes → Type 0
IsReport p steps evidence spent text = IsReportBy p (IsSaidOn p steps evidence spent) steps text

-- ---- the report of a run

-- the word on a block is right where it leaves undecided only what can run out of steps, and so is what stands under its line
pub record IsRunSaidOn (p : Problem) (steps : ℕ) (evidence : Bool) (b : BlockId) (said : BlockSaid) : Type 0 where
  pub right : IsWordAt p steps b said.word
  pub under : AreFurther evidence p b said.word said.under

-- the lines of a block in the report of a run
pub record IsBlockLines (p : Problem) (steps : ℕ) (evidence : Bool) (name : Bytes) (b : BlockId) (lines : List Bytes) : Type 0 where
  pub said : BlockSaid
  pub right : IsRunSaidOn p steps evidence b said
  pub text : lines ≡ block_line name steps b.block said.word ∷ said.under

-- the text is the report of a run with this budget
abbrev pub IsRunReport : Problem → ℕ → Bool → Bytes → Type 0
IsRunReport p steps evidence text = IsReportBy p (IsRunSaidOn p steps evidence) steps text

-- law: it is the report where some questions were not decided, each of which can run out of steps
abbrev pub RunsReport : Type 0
RunsReport = (p : Problem) (steps : ℕ) (evidence : Bool) (text : Bytes) → IsRunReport p steps evidence text
    → (spent : Spent) × IsReport p steps evidence spent text × ((b : BlockId) → AreSpent p steps (spent b) b)
