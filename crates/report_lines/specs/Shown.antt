-- The lines that a verdict has in a report, from the values that it holds. This project's rule.
use Rattle.std.specs.Prelude.{◌≡◌, ℕ, ◌+◌, ◌<◌, ◌^◌, Bool, true, false, List, [], ◌∷◌, ◌++◌, Option, None, Some, All, length}
use Rattle.ut_text.specs.Bytes.{Bytes}
use Rattle.log_check.specs.DerivationText.{IsPrintable}
use Rattle.log_check.specs.declared.derivations.DerivationLine.{DerivationLine}
use Rattle.ut_case.specs.declared.question.Ask.TheVariants.{Selected, Dropped}
use Rattle.ut_case.specs.declared.question.BlockId.{BlockId}
use Rattle.ut_case.specs.declared.question.Family.TheVariants.{Whole}
use Rattle.ut_case.specs.declared.verdict.Verdict.{Verdict}
use Rattle.ut_case.specs.declared.verdict.Verdict.TheVariants.{Dead, Undead, Live, Undecided}
use Rattle.ut_case.specs.declared.whole.Whole as made
use Rattle.ut_case.specs.Problem.{Problem, source_at}
use Rattle.ut_case.specs.Questions.{question_on}
use Rattle.ut_case.specs.Wholes.{Fits, case_of}
use Rattle.ut_case.specs.Words.{word_of}
use Rattle.ut_report.specs.Evidence.{step_lines}
use Rattle.ut_report.specs.Groups.{group_lines}
use Rattle.ut_report.specs.Lines.{block_line}
use Rattle.report_lines.specs.Reading.{HasClauses}

-- the budget that a verdict names, if it names one
abbrev pub steps_of : Verdict → ℕ
steps_of (Dead class why) = 0
steps_of (Undead class why on) = 0
steps_of (Live on off) = 0
steps_of (Undecided ask n on) = n

-- the group of a whole, if there is one
abbrev pub group_if : Problem → Option made.Whole → List Bytes
group_if p None = []
group_if p (Some w) = group_lines p true (case_of p w)

-- what shows a verdict; the steps of a derivation go on with the numbers of so many clauses
abbrev pub shown_lines : Problem → ℕ → Verdict → List Bytes
shown_lines p n (Dead class why) = step_lines (n + 1) why.lines
shown_lines p n (Undead class why on) = group_lines p true (case_of p on) ++ step_lines (n + 1) why.lines
shown_lines p n (Live on off) = group_lines p true (case_of p on) ++ group_lines p false (case_of p off)
shown_lines p n (Undecided ask steps on) = group_if p on

-- without evidence nothing does
abbrev pub further_lines : Bool → Problem → ℕ → Verdict → List Bytes
further_lines false p n v = []
further_lines true p n v = shown_lines p n v

-- so many clauses has the question on the block that the derivation of a verdict refutes
abbrev pub CountsFor : Problem → BlockId → Verdict → ℕ → Type 0
CountsFor p b (Dead class why) n = HasClauses p (question_on p b Whole Selected) n
CountsFor p b (Undead class why on) n = HasClauses p (question_on p b Whole Dropped) n
CountsFor p b (Live on off) n = Unit {0}
CountsFor p b (Undecided ask steps on) n = Unit {0}

-- with evidence alone
abbrev pub CountsIf : Bool → Problem → BlockId → Verdict → ℕ → Type 0
CountsIf false p b v n = Unit {0}
CountsIf true p b v n = CountsFor p b v n

-- steps that a text can have after so many clauses
pub record AreNumbered (n : ℕ) (lines : List DerivationLine) : Type 0 where
  pub numbers : n + length lines < 2 ^ 64
  pub printable : All IsPrintable lines

-- the same of those of a verdict
abbrev pub HasNumbers : ℕ → Verdict → Type 0
HasNumbers n (Dead class why) = AreNumbered n why.lines
HasNumbers n (Undead class why on) = AreNumbered n why.lines
HasNumbers n (Live on off) = Unit {0}
HasNumbers n (Undecided ask steps on) = Unit {0}

-- with evidence alone
abbrev pub HasNumbersIf : Bool → ℕ → Verdict → Type 0
HasNumbersIf false n v = Unit {0}
HasNumbersIf true n v = HasNumbers n v

-- the lines are those that stand under the line of a block with this verdict
pub record AreUnder (p : Problem) (evidence : Bool) (b : BlockId) (v : Verdict) (lines : List Bytes) : Type 0 where
  pub clauses : ℕ
  pub counted : CountsIf evidence p b v clauses
  pub numbers : HasNumbersIf evidence clauses v
  pub text : lines ≡ further_lines evidence p clauses v

-- the lines are those of a block with this verdict
pub record AreLinesOf (p : Problem) (evidence : Bool) (b : BlockId) (v : Verdict) (lines : List Bytes) : Type 0 where
  pub under : List Bytes
  pub are_under : AreUnder p evidence b v under
  pub text : lines ≡ block_line (source_at p b.file).name (steps_of v) b.block (word_of v) ∷ under

-- the whole fits, if there is one
abbrev pub FitsIf : Problem → Option made.Whole → Type 0
FitsIf p None = Unit {0}
FitsIf p (Some w) = Fits p w

-- the wholes of a verdict fit the problem
abbrev pub HasFitting : Problem → Verdict → Type 0
HasFitting p (Dead class why) = Unit {0}
HasFitting p (Undead class why on) = Fits p on
HasFitting p (Live on off) = Fits p on × Fits p off
HasFitting p (Undecided ask steps on) = FitsIf p on
