-- What a verdict of the checker says. No public contract cites this module.
use Rattle.std.specs.Prelude.{List}
use Rattle.ut_logic.specs.declared.literals.Lit.{Lit}
use Rattle.log_check.specs.declared.derivations.DerivationLine.{DerivationLine}
use Rattle.log_check.specs.declared.checking.Checked.{Checked}
use Rattle.log_check.specs.declared.checking.Checked.TheVariants.{Accepted, Bad}
use Rattle.log_check.specs.Derivations.{Refutes, IsFirstWrong}

-- the lines refute the clauses, or this line is their first wrong one
abbrev pub IsVerdict : List (List Lit) → List DerivationLine → Checked → Type 0
IsVerdict clauses lines Accepted = Refutes clauses lines
IsVerdict clauses lines (Bad line) = IsFirstWrong clauses lines line
