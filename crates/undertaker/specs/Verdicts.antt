-- When a block is dead, undead or live, and which word a report has for it.
-- Rule: the EuroSys 2011 paper on Undertaker (dead and undead blocks).
use Rattle.std.specs.Prelude.{◌≡◌, ℕ, Bool, true, false, List}
use Rattle.cpp_directives.specs.declared.directive.Directive.{Directive}
use Rattle.cpp_blocks.specs.Blocks.{parent_of}
use Rattle.kconf_tree.specs.Shape.{Shape}
use Rattle.kconf_tree.specs.Valid.{IsValid}
use Rattle.ut_case.specs.declared.question.Family.{Family}
use Rattle.ut_case.specs.declared.question.Family.TheVariants as family
use Rattle.ut_case.specs.declared.question.Ask.{Ask}
use Rattle.ut_case.specs.declared.question.Ask.TheVariants.{Selected, Dropped}
use Rattle.ut_case.specs.declared.word.Word.{Word}
use Rattle.ut_case.specs.declared.word.Word.TheVariants.{Dead, Undead, Live, Undecided}
use Rattle.undertaker.specs.On.{Case, is_on}
use Rattle.undertaker.specs.Classes.{CanBe, HasClass}

-- off in every valid configuration and environment
abbrev pub IsDead : Shape → List Directive → ℕ → Type 0
IsDead t ds block = (x : Case) → IsValid t x.configuration → is_on family.Whole t ds x block ≡ false

-- not dead, and on wherever its parent is
pub record IsUndead (t : Shape) (ds : List Directive) (block : ℕ) : Type 0 where
  pub selected : CanBe family.Whole t ds Selected block
  pub on : (x : Case) → IsValid t x.configuration → is_on family.Whole t ds x (parent_of ds block) ≡ true → is_on family.Whole t ds x block ≡ true

-- some valid configuration and environment selects it, and some drops it while its parent is on
pub record IsLive (t : Shape) (ds : List Directive) (block : ℕ) : Type 0 where
  pub selected : CanBe family.Whole t ds Selected block
  pub dropped : CanBe family.Whole t ds Dropped block

-- which word is right, where `spent` tells of each question on the block whether it wasn't decided
abbrev pub IsWordOf : Shape → List Directive → (Family → Ask → Bool) → ℕ → Word → Type 0
IsWordOf t ds spent block (Dead class) = (spent family.Whole Selected ≡ false) × IsDead t ds block
    × HasClass t ds (λ f. spent f Selected) Selected block class
IsWordOf t ds spent block (Undead class) = (spent family.Whole Selected ≡ false) × (spent family.Whole Dropped ≡ false)
    × IsUndead t ds block × HasClass t ds (λ f. spent f Dropped) Dropped block class
IsWordOf t ds spent block Live = (spent family.Whole Selected ≡ false) × (spent family.Whole Dropped ≡ false) × IsLive t ds block
IsWordOf t ds spent block (Undecided Selected) = spent family.Whole Selected ≡ true
IsWordOf t ds spent block (Undecided Dropped) = (spent family.Whole Selected ≡ false) × CanBe family.Whole t ds Selected block
    × (spent family.Whole Dropped ≡ true)
