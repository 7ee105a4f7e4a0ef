-- Public laws of plans, which the functions of src/laws.rt promise. This project's rule.
use Rattle.std.specs.Prelude.{◌≡◌, ℕ, Option, Result}
use Rattle.ut_text.specs.Bytes.{Bytes}
use Rattle.ut_base.specs.Plans.{Plan, plan, outcome}
use Rattle.ut_base.specs.Reading.{Errors}
use Rattle.ut_base.specs.Settled.{ComesTo}

-- what a plan comes to over some files is its outcome over them, with the bytes taken
abbrev pub HasOneOutcome : (A : Type 0) → {E : Type 0} → Errors E → Type 0
HasOneOutcome A {E} errors = (files : Bytes → Option Bytes) (p : Plan A E) (used now : ℕ) (r : Result A E) → ComesTo errors files (plan errors p) used now r
    → (now ≡ (outcome errors files p used).used) × (r ≡ (outcome errors files p used).result)
