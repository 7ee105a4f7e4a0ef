-- What a verdict of the checker says, by its two cases.
use Rattle.std.proofs.Common.{◌≡◌, ℕ, List, refl, subst}
use Rattle.std.specs.Prelude.{◌↔◌}
use Rattle.ut_logic.specs.declared.literals.Lit.{Lit}
use Rattle.ut_logic.specs.Clauses.{HasNoModel}
use Rattle.log_check.specs.declared.derivations.DerivationLine.{DerivationLine}
use Rattle.log_check.specs.declared.checking.Checked.{Checked}
use Rattle.log_check.specs.declared.checking.Checked.TheVariants.{Accepted, Bad}
use Rattle.log_check.specs.Derivations.{Refutes, IsFirstWrong}
use Rattle.log_check.specs.Verdicts.{IsVerdict}
use Rattle.log_check.proofs.Deriving.{wrong_refutes_not}
use Rattle.log_check.proofs.Soundness.{refuted_no_model}

-- it accepts exactly what refutes
pub verdict_accepted : (cs : List (List Lit)) (lines : List DerivationLine) (found : Checked) → IsVerdict cs lines found → (found ≡ Accepted) ↔ Refutes cs lines
verdict_accepted cs lines Accepted v = (λ e. v, λ r. refl)
verdict_accepted cs lines (Bad n) v = (λ e. cc, λ r. absurd (wrong_refutes_not cs lines n v r))

-- the line that it names is the first wrong one
pub verdict_first : (cs : List (List Lit)) (lines : List DerivationLine) (found : Checked) → IsVerdict cs lines found → (line : ℕ) → found ≡ Bad line → IsFirstWrong cs lines line
verdict_first cs lines found v line e = subst (IsVerdict cs lines) e v

-- what it accepts has no model
pub verdict_no_model : (cs : List (List Lit)) (lines : List DerivationLine) (found : Checked) → IsVerdict cs lines found → found ≡ Accepted → HasNoModel cs
verdict_no_model cs lines found v e = refuted_no_model cs lines ((verdict_accepted cs lines found v).0 e)
