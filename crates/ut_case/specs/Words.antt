-- Which word a report has for a block, and which class a defect has: the first family over which it holds, from any states
-- of the macros over the rules of the Kconfig texts to valid configurations.
-- Rule: the classes of defects are those of the EuroSys 2011 paper on Undertaker; the order of questions is this project's.
use Rattle.std.specs.Prelude.{◌≡◌, ◌⊎◌, ℕ, Bool, true, false, not, ◌&&◌}
use Rattle.ut_case.specs.declared.question.Family.{Family}
use Rattle.ut_case.specs.declared.question.Family.TheVariants.{Code, Kconfig, Whole}
use Rattle.ut_case.specs.declared.question.Ask.{Ask}
use Rattle.ut_case.specs.declared.question.Ask.TheVariants.{Selected, Dropped}
use Rattle.ut_case.specs.declared.question.BlockId.{BlockId}
use Rattle.ut_case.specs.declared.question.Class.{Class}
use Rattle.ut_case.specs.declared.question.Class.TheVariants as class
use Rattle.ut_case.specs.declared.word.Word.{Word}
use Rattle.ut_case.specs.declared.word.Word.TheVariants.{Dead, Undead, Live, Undecided}
use Rattle.ut_case.specs.declared.verdict.Verdict.{Verdict}
use Rattle.ut_case.specs.declared.verdict.Verdict.TheVariants as verdict
use Rattle.ut_case.specs.ClauseForms.{CanRunOut}
use Rattle.ut_case.specs.Problem.{Problem}
use Rattle.ut_case.specs.Questions.{CanBe, CanNotBe, question_on}

-- over a problem, for a block, where `steps` is the budget of each question, and `spent` tells which questions on the block
-- were not decided within it
module _ (p : Problem) (steps : ℕ) (spent : Family → Ask → Bool) (b : BlockId) where
  -- the question was decided, and some case meets it
  abbrev pub IsFound : Family → Ask → Type 0
  IsFound f ask = (spent f ask ≡ false) × CanBe p (question_on p b f ask)

  -- the question was decided, and no case meets it
  abbrev pub IsRefused : Family → Ask → Type 0
  IsRefused f ask = (spent f ask ≡ false) × CanNotBe p (question_on p b f ask)

  -- the class of what is refused over valid configurations
  abbrev pub HasClass : Ask → Class → Type 0
  HasClass ask class.Code = IsRefused Code ask
  HasClass ask class.Kconfig = IsFound Code ask × IsRefused Kconfig ask
  HasClass ask class.Missing = IsFound Code ask × IsFound Kconfig ask
  HasClass ask (class.Unclassified n) = (n ≡ steps) × ((spent Code ask ≡ true) ⊎ (IsFound Code ask × (spent Kconfig ask ≡ true)))

  -- which word is right
  abbrev pub IsWordOf : Word → Type 0
  IsWordOf (Dead c) = IsRefused Whole Selected × HasClass Selected c
  IsWordOf (Undead c) = IsFound Whole Selected × IsRefused Whole Dropped × HasClass Dropped c
  IsWordOf Live = IsFound Whole Selected × IsFound Whole Dropped
  IsWordOf (Undecided Selected) = spent Whole Selected ≡ true
  IsWordOf (Undecided Dropped) = IsFound Whole Selected × (spent Whole Dropped ≡ true)

  -- each question that was not decided can run out of so many steps
  abbrev pub AreSpent : Type 0
  AreSpent = (f : Family) (ask : Ask) → spent f ask ≡ true → CanRunOut p (question_on p b f ask) steps

-- ---- what a word leaves undecided

-- the class was not found
abbrev pub is_unclassified : Class → Bool
is_unclassified class.Code = false
is_unclassified class.Kconfig = false
is_unclassified class.Missing = false
is_unclassified (class.Unclassified n) = true

-- the first class question that was not decided is that of family Code, or else that of family Kconfig
abbrev pub stops_at : (Family → Bool) → Family → Bool
stops_at spent Code = true
stops_at spent Kconfig = not (spent Code)
stops_at spent Whole = false

-- the same is asked
abbrev pub same_ask : Ask → Ask → Bool
same_ask Selected Selected = true
same_ask Selected Dropped = false
same_ask Dropped Selected = false
same_ask Dropped Dropped = true

-- the family is that of valid configurations
abbrev pub is_whole : Family → Bool
is_whole Code = false
is_whole Kconfig = false
is_whole Whole = true

-- whether a word leaves this question undecided
abbrev pub leaves : (Family → Ask → Bool) → Word → Family → Ask → Bool
leaves spent (Dead c) f ask = is_unclassified c && (same_ask ask Selected && stops_at (λ g. spent g Selected) f)
leaves spent (Undead c) f ask = is_unclassified c && (same_ask ask Dropped && stops_at (λ g. spent g Dropped) f)
leaves spent Live f ask = false
leaves spent (Undecided a) f ask = same_ask ask a && is_whole f

-- the questions that were not decided are those that the word leaves so
abbrev pub AreLeft : (Family → Ask → Bool) → Word → Type 0
AreLeft spent w = (f : Family) (ask : Ask) → spent f ask ≡ true → leaves spent w f ask ≡ true

-- the word is right, and each question that it leaves undecided can run out of so many steps
pub record IsWordAt (p : Problem) (steps : ℕ) (b : BlockId) (w : Word) : Type 0 where
  pub spent : Family → Ask → Bool
  pub left : AreLeft spent w
  pub run_out : AreSpent p steps spent b
  pub right : IsWordOf p steps spent b w

-- the word of a verdict
abbrev pub word_of : Verdict → Word
word_of (verdict.Dead class why) = Dead class
word_of (verdict.Undead class why on) = Undead class
word_of (verdict.Live on off) = Live
word_of (verdict.Undecided ask steps on) = Undecided ask
