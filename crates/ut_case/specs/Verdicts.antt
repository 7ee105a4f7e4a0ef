-- When a block is dead, undead or live.
-- Rule: the EuroSys 2011 paper on Undertaker (dead and undead blocks).
use Rattle.std.specs.Prelude.{◌≡◌, true, false, not, ◌&&◌}
use Rattle.ut_case.specs.declared.question.Family.TheVariants as family
use Rattle.ut_case.specs.declared.question.BlockId.{BlockId}
use Rattle.ut_case.specs.Cases.{Case, IsCaseOf}
use Rattle.ut_case.specs.On.{is_on, parent_in}
use Rattle.ut_case.specs.Problem.{Problem}
use Rattle.ut_case.specs.Questions.{SomeCase}

-- off in every valid configuration and environment
abbrev pub IsDead : Problem → BlockId → Type 0
IsDead p b = (x : Case) → IsCaseOf p family.Whole x → is_on p family.Whole x b ≡ false

-- not dead, and on wherever its parent is
pub record IsUndead (p : Problem) (b : BlockId) : Type 0 where
  pub selected : SomeCase p family.Whole (λ x. is_on p family.Whole x b)
  pub on : (x : Case) → IsCaseOf p family.Whole x → is_on p family.Whole x (parent_in p b) ≡ true → is_on p family.Whole x b ≡ true

-- some valid configuration and environment selects it, and some drops it while its parent is on
pub record IsLive (p : Problem) (b : BlockId) : Type 0 where
  pub selected : SomeCase p family.Whole (λ x. is_on p family.Whole x b)
  pub dropped : SomeCase p family.Whole (λ x. is_on p family.Whole x (parent_in p b) && not (is_on p family.Whole x b))
