-- What is told of the words of a report and of the lines that a refusal names.
-- Rule: the EuroSys 2011 paper on Undertaker (dead and undead blocks); which line is named is this project's rule.
use Rattle.std.specs.Prelude.{◌≡◌, ℕ, true, false, List, Some, Result, Ok, Err}
use Rattle.std.specs.FinMap.{get}
use Rattle.ut_base.specs.Outside.{Held}
use Rattle.ut_text.specs.Bytes.{Bytes}
use Rattle.ut_text.specs.Lines.{lines_of}
use Rattle.cpp_directives.specs.declared.directive.Directive.{Directive}
use Rattle.cpp_blocks.specs.Blocks.{parent_of}
use Rattle.kconf_tree.specs.Shape.{Shape}
use Rattle.kconf_tree.specs.Valid.{IsValid}
use Rattle.ut_case.specs.declared.question.Class.{Class}
use Rattle.ut_case.specs.declared.question.Family.TheVariants as family
use Rattle.ut_case.specs.declared.word.Word.TheVariants.{Dead, Undead, Live}
use Rattle.undertaker.specs.On.{Case, is_on}
use Rattle.undertaker.specs.Verdicts.{IsDead, IsUndead, IsWordOf}
use Rattle.undertaker.specs.FirstKconfig.BadLine as kconfig
use Rattle.undertaker.specs.FirstSource.BadLine as source
use Rattle.undertaker.specs.Outcome.{Refusal, refused, usage, missing, limit, Texts}
use Rattle.undertaker.specs.Written.{none_spent}

-- a block that is rightly called dead is off in every valid configuration and environment
abbrev pub DeadIsOff : Type 0
DeadIsOff = (t : Shape) (ds : List Directive) (block : ℕ) (class : Class) → IsWordOf t ds (none_spent 0 block) block (Dead class)
    → (x : Case) → IsValid t x.configuration → is_on family.Whole t ds x block ≡ false

-- a block that is rightly called undead is on in each of them in which its parent is
abbrev pub UndeadIsOn : Type 0
UndeadIsOn = (t : Shape) (ds : List Directive) (block : ℕ) (class : Class) → IsWordOf t ds (none_spent 0 block) block (Undead class)
    → (x : Case) → IsValid t x.configuration → is_on family.Whole t ds x (parent_of ds block) ≡ true → is_on family.Whole t ds x block ≡ true

-- a block that is rightly called live is neither dead nor undead
abbrev pub LiveIsNeither : Type 0
LiveIsNeither = (t : Shape) (ds : List Directive) (block : ℕ) → IsWordOf t ds (none_spent 0 block) block Live
    → (¬ IsDead t ds block) × (¬ IsUndead t ds block)

-- the line that is named in a Kconfig text of this name
abbrev pub NamesInKconfig : Held → Bytes → ℕ → Type 0
NamesInKconfig held name n = (bytes : Bytes) × (get held name ≡ Some bytes) × kconfig.IsNamed (lines_of bytes) n

-- the line that is named in a source of this name
abbrev pub NamesInSource : Held → Bytes → ℕ → Type 0
NamesInSource held name n = (bytes : Bytes) × (get held name ≡ Some bytes) × source.IsNamed (lines_of bytes) n

-- a text that is refused is so at the first line with which it can't be continued to its form, or where its end is wrong
abbrev pub NamesBadLine : Held → Result Texts Refusal → Type 0
NamesBadLine held (Ok texts) = (n : ℕ) → texts.source.read ≡ Err n → NamesInSource held texts.source.name n
NamesBadLine held (Err usage) = Unit {0}
NamesBadLine held (Err (refused name n)) = NamesInKconfig held name n
NamesBadLine held (Err (missing name)) = Unit {0}
NamesBadLine held (Err (limit what count)) = Unit {0}
