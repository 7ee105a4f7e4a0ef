-- Blocks whose questions over valid configurations were not decided.
use Rattle.std.proofs.Common.{ℕ, ◌<◌, zero, suc, false, refl, [], ◌∷◌, codes}
use Rattle.std.specs.Fmt.{digits}
use Rattle.ut_case.specs.declared.question.Ask.TheVariants.{Selected, Dropped}
use Rattle.ut_case.specs.declared.question.Family.TheVariants as family
use Rattle.ut_case.specs.declared.word.Word.TheVariants.{Undecided}
use Rattle.ut_case.specs.Cases.{Case}
use Rattle.ut_case.specs.Problem.{OfTree}
use Rattle.ut_case.specs.Words.{IsWordOf}
use Rattle.ut_report.specs.Report.{Blocks, BlockSaid, IsSaidOn, IsReport}
use Rattle.worked_rows.specs.Problems.{over, block, spent_at}
use Rattle.worked_rows.specs.Texts.{two_tree, contrary}
use Rattle.worked_rows.proofs.Asked.{selects, of_valid}
use Rattle.worked_rows.proofs.Facts.{no_third}
use Rattle.worked_rows.proofs.Macros.{config_a, case_with}
use Rattle.worked_rows.proofs.Nested.{outer_on_negated}
use Rattle.worked_rows.proofs.Validity.{all_at, on_is_valid}

-- every symbol is y
abbrev on_case : Case
on_case = case_with (all_at 2 (λ name. false)) 0

-- where the question on selecting wasn't decided
pub selected_word : (steps : ℕ) → IsWordOf (over two_tree contrary) steps (spent_at Selected) (block 1) (Undecided Selected)
selected_word steps = refl

-- where that on dropping wasn't, and some case selects the block
pub dropped_word : (steps : ℕ) → IsWordOf (over two_tree contrary) steps (spent_at Dropped) (block 1) (Undecided Dropped)
dropped_word steps = (
  (refl, selects (over two_tree contrary) (block 1) family.Whole on_case (of_valid two_tree _ on_is_valid) (outer_on_negated (OfTree two_tree) [] family.Whole on_case config_a config_a)),
  refl,
)

-- what is said of a block that wasn't decided
abbrev open_said : BlockSaid
open_said = record { word = Undecided Selected; under = [] }

-- the report where no block was decided
pub undecided_report : IsReport (over two_tree contrary) 0 false (λ b. spent_at Selected)
    (codes "a.c.B1.undecided selected 0\na.c.B2.undecided selected 0\nblocks 2 dead 0 undead 0 live 0 undecided 2\n")
unfolding digits
undecided_report = record {
  said = (codes "a.c", Blocks (open_said ∷ open_said ∷ [])) ∷ [];
  right = (refl, record { count = refl; each = at }, tt);
  lines = refl;
}
  where
    at : (k : ℕ) → k < 2 → IsSaidOn (over two_tree contrary) 0 false (λ b. spent_at Selected) (record { file = 0; block = suc k }) (Rattle.std.specs.Prelude.get_or (open_said ∷ open_said ∷ []) k Rattle.ut_report.specs.Report.nothing_said)
    at zero lt = record { right = refl; under = refl }
    at (suc zero) lt = record { right = refl; under = refl }
    at (suc (suc k)) lt = absurd (no_third k lt)
