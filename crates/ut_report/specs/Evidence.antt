-- What stands under the line of a block: the least cases that select and drop it, and derivations. This project's rule.
use Rattle.std.specs.Prelude.{◌≡◌, ℕ, ◌+◌, ◌<◌, ◌^◌, Bool, true, false, List, [], ◌∷◌, ◌++◌, length, All}
use Rattle.ut_text.specs.Bytes.{Bytes}
use Rattle.ut_logic.specs.declared.item.Item.{Item}
use Rattle.ut_logic.specs.declared.literals.Lit.{Lit}
use Rattle.log_check.specs.Derivations.{Refutes}
use Rattle.log_check.specs.DerivationText.{step_text, IsPrintable}
use Rattle.log_check.specs.declared.derivations.DerivationLine.{DerivationLine}
use Rattle.ut_case.specs.declared.question.Ask.{Ask}
use Rattle.ut_case.specs.declared.question.Ask.TheVariants.{Selected, Dropped}
use Rattle.ut_case.specs.declared.question.BlockId.{BlockId}
use Rattle.ut_case.specs.declared.question.Family.TheVariants.{Whole}
use Rattle.ut_case.specs.declared.word.Word.{Word}
use Rattle.ut_case.specs.declared.word.Word.TheVariants.{Dead, Undead, Live, Undecided}
use Rattle.ut_case.specs.Cases.{Case}
use Rattle.ut_case.specs.ClauseForms.{AreClauses}
use Rattle.ut_case.specs.Least.{IsLeast}
use Rattle.ut_case.specs.Problem.{Problem}
use Rattle.ut_case.specs.Questions.{Question, question_on}
use Rattle.ut_report.specs.Groups.{group_lines}

-- the steps of a derivation, numbered from this one on
abbrev pub step_lines : ℕ → List DerivationLine → List Bytes
step_lines n [] = []
step_lines n (d ∷ ds) = step_text n d ∷ step_lines (n + 1) ds

-- the lines are a derivation that refutes the question's clauses, with the numbers after these
pub record AreSteps (p : Problem) (q : Question) (lines : List Bytes) : Type 0 where
  pub items : List Item
  pub vars : ℕ
  pub clauses : List (List Lit)
  pub form : AreClauses p q items vars clauses
  pub derivation : List DerivationLine
  pub refutes : Refutes clauses derivation
  pub printable : All IsPrintable derivation
  pub numbers : length clauses + length derivation < 2 ^ 64
  pub text : lines ≡ step_lines (length clauses + 1) derivation

-- the lines are the group of the least case of a question on the block: Selected has the group on, Dropped the group off
pub record IsGroup (p : Problem) (b : BlockId) (ask : Ask) (on : Bool) (lines : List Bytes) : Type 0 where
  pub shows : Case
  pub least : IsLeast p (question_on p b Whole ask) shows
  pub text : lines ≡ group_lines p on shows

-- what stands under the line of a block with this word
abbrev pub AreEvidence : Problem → BlockId → Word → List Bytes → Type 0
AreEvidence p b (Dead c) lines = AreSteps p (question_on p b Whole Selected) lines
AreEvidence p b (Undead c) lines = (group steps : List Bytes) × (lines ≡ group ++ steps) × IsGroup p b Selected true group
    × AreSteps p (question_on p b Whole Dropped) steps
AreEvidence p b Live lines = (on off : List Bytes) × (lines ≡ on ++ off) × IsGroup p b Selected true on × IsGroup p b Dropped false off
AreEvidence p b (Undecided Selected) lines = lines ≡ []
AreEvidence p b (Undecided Dropped) lines = IsGroup p b Selected true lines

-- without evidence nothing does
abbrev pub AreFurther : Bool → Problem → BlockId → Word → List Bytes → Type 0
AreFurther false p b w lines = lines ≡ []
AreFurther true p b w lines = AreEvidence p b w lines
