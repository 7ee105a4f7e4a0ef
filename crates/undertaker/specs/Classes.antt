-- The three families of cases, what is asked over them, and which class a defect has: the first family
-- over which it holds, from any states of the macros over the rules of the Kconfig texts to valid
-- configurations.
-- Rule: the classes of defects are those of the EuroSys 2011 paper on Undertaker; the exact families are
-- this project's rule.
use Rattle.std.specs.Prelude.{◌≡◌, ◌⊎◌, ℕ, Bool, true, false, not, ◌&&◌, List}
use Rattle.cpp_directives.specs.declared.directive.Directive.{Directive}
use Rattle.cpp_blocks.specs.Blocks.{parent_of}
use Rattle.kconf_tree.specs.Shape.{Shape}
use Rattle.kconf_tree.specs.Valid.{KeepsRules, IsValid}
use Rattle.ut_case.specs.declared.question.Family.{Family}
use Rattle.ut_case.specs.declared.question.Family.TheVariants as family
use Rattle.ut_case.specs.declared.question.Ask.{Ask}
use Rattle.ut_case.specs.declared.question.Ask.TheVariants.{Selected, Dropped}
use Rattle.ut_case.specs.declared.question.Class.{Class}
use Rattle.ut_case.specs.declared.question.Class.TheVariants as class
use Rattle.undertaker.specs.On.{Case, is_on}

-- whether a case belongs to a family
abbrev pub IsCaseOf : Family → Shape → Case → Type 0
IsCaseOf family.Code t x = Unit {0}
IsCaseOf family.Kconfig t x = KeepsRules t x.configuration
IsCaseOf family.Whole t x = IsValid t x.configuration

-- Selected: the block is on. Dropped: its parent is on, and it isn't.
abbrev pub meets : Family → Shape → List Directive → Ask → ℕ → Case → Bool
meets f t ds Selected block x = is_on f t ds x block
meets f t ds Dropped block x = is_on f t ds x (parent_of ds block) && not (is_on f t ds x block)

-- some case of the family meets the question
pub record CanBe (f : Family) (t : Shape) (ds : List Directive) (ask : Ask) (block : ℕ) : Type 0 where
  pub witness : Case
  pub belongs : IsCaseOf f t witness
  pub met : meets f t ds ask block witness ≡ true

-- no case of the family meets it
abbrev pub CanNotBe : Family → Shape → List Directive → Ask → ℕ → Type 0
CanNotBe f t ds ask block = (x : Case) → IsCaseOf f t x → meets f t ds ask block x ≡ false

-- the class of a defect that holds over valid configurations; `spent` tells of each family whether its
-- question wasn't decided
abbrev pub HasClass : Shape → List Directive → (Family → Bool) → Ask → ℕ → Class → Type 0
HasClass t ds spent ask block class.Code = (spent family.Code ≡ false) × CanNotBe family.Code t ds ask block
HasClass t ds spent ask block class.Kconfig = (spent family.Code ≡ false) × CanBe family.Code t ds ask block
    × (spent family.Kconfig ≡ false) × CanNotBe family.Kconfig t ds ask block
HasClass t ds spent ask block class.Missing = (spent family.Code ≡ false) × CanBe family.Code t ds ask block
    × (spent family.Kconfig ≡ false) × CanBe family.Kconfig t ds ask block
HasClass t ds spent ask block (class.Unclassified steps) = (spent family.Code ≡ true)
    ⊎ ((spent family.Code ≡ false) × CanBe family.Code t ds ask block × (spent family.Kconfig ≡ true))
