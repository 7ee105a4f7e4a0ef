-- Public laws of what a run comes to, which the functions of src/laws.rt promise. This project's rule.
use Rattle.std.specs.Prelude.{List, Option, Result}
use Rattle.ut_text.specs.Bytes.{Bytes}
use Rattle.ut_base.specs.Settled.{AreAlike}
use Rattle.undertaker_run.specs.Work.{IsOutcome}
use Rattle.undertaker_run.specs.declared.bad.Bad.{Bad}

-- two outcomes of the same words over the same files are the same refusal, or two texts
abbrev pub HasOneRefusal : Type 0
HasOneRefusal = (files : Bytes → Option Bytes) (words : List Bytes) (o p : Result Bytes Bad) → IsOutcome files words o → IsOutcome files words p
    → AreAlike (λ text other. Unit {0}) o p
