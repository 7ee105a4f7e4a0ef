-- When a verdict is right and what it holds shows it, so that its lines are those of the report.
-- Rule: the EuroSys 2011 paper on Undertaker; least wholes and classes are this project's rule.
use Rattle.std.specs.Prelude.{◌≡◌, ℕ, Bool, List, Option, None, Some}
use Rattle.ut_text.specs.Bytes.{Bytes}
use Rattle.ut_logic.specs.declared.item.Item.{Item}
use Rattle.ut_logic.specs.declared.literals.Lit.{Lit}
use Rattle.log_check.specs.Derivations.{Refutes}
use Rattle.log_check.specs.declared.derivations.DerivationLine.{DerivationLine}
use Rattle.ut_case.specs.declared.question.Ask.TheVariants.{Selected, Dropped}
use Rattle.ut_case.specs.declared.question.BlockId.{BlockId}
use Rattle.ut_case.specs.declared.question.Family.TheVariants.{Whole}
use Rattle.ut_case.specs.declared.verdict.Verdict.{Verdict}
use Rattle.ut_case.specs.declared.verdict.Verdict.TheVariants.{Dead, Undead, Live, Undecided}
use Rattle.ut_case.specs.declared.whole.Whole as made
use Rattle.ut_case.specs.ClauseForms.{AreClauses}
use Rattle.ut_case.specs.Least.{IsLeast}
use Rattle.ut_case.specs.Problem.{Problem, source_at}
use Rattle.ut_case.specs.Questions.{Question, question_on}
use Rattle.ut_case.specs.Wholes.{case_of}
use Rattle.ut_case.specs.Words.{IsWordAt, word_of}
use Rattle.ut_report.specs.Report.{IsBlockLines}
use Rattle.report_lines.specs.Shown.{AreLinesOf}

-- the derivation refutes the clauses of the question
pub record IsRefuted (p : Problem) (q : Question) (lines : List DerivationLine) : Type 0 where
  pub items : List Item
  pub vars : ℕ
  pub clauses : List (List Lit)
  pub form : AreClauses p q items vars clauses
  pub refutes : Refutes clauses lines

-- the whole is the least case that selects the block; none is there where that was not decided
abbrev pub IsLeastIf : Problem → BlockId → Option made.Whole → Type 0
IsLeastIf p b None = ⊥
IsLeastIf p b (Some w) = IsLeast p (question_on p b Whole Selected) (case_of p w)

-- what a verdict holds shows it
abbrev pub Shows : Problem → BlockId → Verdict → Type 0
Shows p b (Dead class why) = IsRefuted p (question_on p b Whole Selected) why.lines
Shows p b (Undead class why on) = IsRefuted p (question_on p b Whole Dropped) why.lines × IsLeast p (question_on p b Whole Selected) (case_of p on)
Shows p b (Live on off) = IsLeast p (question_on p b Whole Selected) (case_of p on) × IsLeast p (question_on p b Whole Dropped) (case_of p off)
Shows p b (Undecided Selected n on) = on ≡ None
Shows p b (Undecided Dropped n on) = IsLeastIf p b on

-- the budget that a verdict names, if it names one, is that of the run
abbrev pub HasSteps : ℕ → Verdict → Type 0
HasSteps steps (Dead class why) = Unit {0}
HasSteps steps (Undead class why on) = Unit {0}
HasSteps steps (Live on off) = Unit {0}
HasSteps steps (Undecided ask n on) = n ≡ steps

-- the word of a verdict is right, and what it holds shows it
pub record IsShown (p : Problem) (b : BlockId) (steps : ℕ) (v : Verdict) : Type 0 where
  pub word : IsWordAt p steps b (word_of v)
  pub shows : Shows p b v
  pub steps_named : HasSteps steps v

-- law: the lines of a right verdict are those of the report
abbrev pub LinesAreRight : Type 0
LinesAreRight = (p : Problem) (b : BlockId) (steps : ℕ) (evidence : Bool) (v : Verdict) (lines : List Bytes) → IsShown p b steps v
    → AreLinesOf p evidence b v lines → IsBlockLines p steps evidence (source_at p b.file).name b lines
