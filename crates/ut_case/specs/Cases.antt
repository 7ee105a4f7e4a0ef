-- Cases, and their three families, each holding the next: in family Code any states of the macros, in family Kconfig
-- configurations that keep the rules, where undeclared names may be read as y, in family Whole valid configurations.
-- Rule: the classes of defects of the EuroSys 2011 paper on Undertaker; the exact families are this project's rule.
use Rattle.std.specs.Prelude.{◌≡◌, ◌==◌, Bool, true, false}
use Rattle.ut_text.specs.Bytes.{Bytes}
use Rattle.ut_logic.specs.declared.item.Item.{Item}
use Rattle.ut_logic.specs.declared.item.Item.TheVariants as item
use Rattle.ut_logic.specs.Truth.{truths, all_true}
use Rattle.kconf_tree.specs.Value.{Configuration}
use Rattle.kconf_tree.specs.Valid.{KeepsRules}
use Rattle.ut_case.specs.declared.question.Family.{Family}
use Rattle.ut_case.specs.declared.question.Family.TheVariants as family
use Rattle.ut_case.specs.Problem.{Basis, OfTree, OfRules, Problem}

-- a configuration; and of the items of sources outside it which are true: starts of macros, truths of written symbols,
-- opaque pieces and `#define` lines
pub record Case : Type 0 where
  pub configuration : Configuration
  pub environment : Item → Bool

-- a name of a model text is true where it has y
abbrev pub name_truth : Configuration → Item → Bool
name_truth c (item.SymY k) = c.value k == 2
name_truth c _ = false

-- the configuration keeps the rules of the Kconfig texts, or meets each rule of the model text
abbrev pub Keeps : Basis → Configuration → Type 0
Keeps (OfTree t) c = KeepsRules t c
Keeps (OfRules r) c = all_true (truths (name_truth c) r.holds) ≡ true

-- no undeclared name is read as y
abbrev pub HasNoUndeclared : Configuration → Type 0
HasNoUndeclared c = (name : Bytes) → c.undeclared name ≡ false

-- whether a case belongs to a family
abbrev pub IsCaseOf : Problem → Family → Case → Type 0
IsCaseOf p family.Code x = Unit {0}
IsCaseOf p family.Kconfig x = Keeps p.basis x.configuration
IsCaseOf p family.Whole x = Keeps p.basis x.configuration × HasNoUndeclared x.configuration
