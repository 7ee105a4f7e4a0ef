-- From when a block is on to the answers to the questions on it.
use Rattle.std.proofs.Common.{◌≡◌, true, false, not, ◌&&◌, refl, ◌∙◌, [], ◌∷◌}
use Rattle.kconf_tree.specs.Shape.{Shape}
use Rattle.kconf_tree.specs.Valid.{IsValid}
use Rattle.kconf_tree.specs.Value.{Configuration}
use Rattle.ut_case.specs.declared.question.Ask.TheVariants.{Selected, Dropped}
use Rattle.ut_case.specs.declared.question.BlockId.{BlockId}
use Rattle.ut_case.specs.declared.question.Family.{Family}
use Rattle.ut_case.specs.declared.question.Family.TheVariants as family
use Rattle.ut_case.specs.Built.{is_built}
use Rattle.ut_case.specs.Cases.{Case, Keeps, HasNoUndeclared, IsCaseOf}
use Rattle.ut_case.specs.Numbering.{Shared}
use Rattle.ut_case.specs.On.{is_on, parent_in}
use Rattle.ut_case.specs.Problem.{OfTree, Problem}
use Rattle.ut_case.specs.Questions.{question_on, CanBe, CanNotBe}
use Rattle.ut_case.proofs.Asking.{selected_met, dropped_met}

module _ (p : Problem) (b : BlockId) where
  -- a case in which the block is on
  pub selects : (f : Family) (x : Case) → IsCaseOf p f x → is_on p f x b ≡ true → CanBe p (question_on p b f Selected)
  selects f x v h = record { witness = x; belongs = v; held = selected_met p b f x ∙ h }

  -- it is on in none
  pub never_selects : (f : Family) → ((x : Case) → IsCaseOf p f x → is_on p f x b ≡ false) → CanNotBe p (question_on p b f Selected)
  never_selects f n x v = selected_met p b f x ∙ n x v

  -- a case in which its parent is on, and it isn't
  pub drops : (f : Family) (x : Case) → IsCaseOf p f x → (is_on p f x (parent_in p b) && not (is_on p f x b)) ≡ true → CanBe p (question_on p b f Dropped)
  drops f x v h = record { witness = x; belongs = v; held = dropped_met p b f x ∙ h }

  -- there is none
  pub never_drops : (f : Family) → ((x : Case) → IsCaseOf p f x → (is_on p f x (parent_in p b) && not (is_on p f x b)) ≡ false) → CanNotBe p (question_on p b f Dropped)
  never_drops f n x v = dropped_met p b f x ∙ n x v

-- a source that no Kbuild text names is built in every family
pub plain_is_built : (s : Shared) (f : Family) (c : Configuration) → is_built s f c ([] ∷ []) ≡ true
plain_is_built s family.Code c = refl
plain_is_built s family.Kconfig c = refl
plain_is_built s family.Whole c = refl

-- a valid configuration is one of family Whole
pub of_valid : (t : Shape) (c : Configuration) → IsValid t c → Keeps (OfTree t) c × HasNoUndeclared c
of_valid t c v = (v.rules, v.undeclared_are_n)

-- in families Kconfig and Whole the rules are kept
pub kept_in_whole : (p : Problem) (x : Case) → IsCaseOf p family.Whole x → Keeps p.basis x.configuration
kept_in_whole p x v = v.0
