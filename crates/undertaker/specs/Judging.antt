-- What the plain decision answers on wishes: the first family of cases that can't meet them, if there is one;
-- and the word on a block, from the answers on its selection and on its dropping.
use Rattle.std.specs.Prelude.{◌≡◌, ℕ, true, false, List, [], ◌∷◌, ◌++◌, Option, None, Some}
use Rattle.kconf_tree.specs.Shape.{Shape}
use Rattle.ut_case.specs.declared.question.Family.{Family}
use Rattle.ut_case.specs.declared.question.Family.TheVariants as family
use Rattle.ut_case.specs.declared.question.Class.{Class}
use Rattle.ut_case.specs.declared.question.Class.TheVariants as class
use Rattle.ut_case.specs.declared.word.Word.{Word}
use Rattle.ut_case.specs.declared.word.Word.TheVariants.{Dead, Undead, Live}
use Rattle.undertaker.specs.On.{Case, macro_start}
use Rattle.undertaker.specs.Classes.{IsCaseOf}
use Rattle.undertaker.specs.declared.wishes.Wish.{Wish}
use Rattle.undertaker.specs.declared.steps.Step.{Step}
use Rattle.undertaker.specs.declared.steps.Step.TheVariants.{Opens, Closes}
use Rattle.undertaker.specs.Dependencies.{Graph}
use Rattle.undertaker.specs.FirstTrees.{Shows}
use Rattle.undertaker.specs.Steps.{wishes_in, asked_from}
use Rattle.ut_text.specs.Text.{text_eq}
use Rattle.undertaker.specs.Wishes.{Among, macro_of, meaning_of, are_met, turned}

-- wishes on one name have one number
abbrev pub AreNumbered : List (List ℕ) → List Wish → Type 0
AreNumbered macros ws = (w v : Wish) → Among w ws → Among v ws → text_eq (macro_of macros w) (macro_of macros v) ≡ true → w.name ≡ v.name

-- the wishes stand for macros of a source under a tree
pub record AreOf (t : Shape) (macros : List (List ℕ)) (ws : List Wish) : Type 0 where
  pub numbered : AreNumbered macros ws
  pub meanings : (w : Wish) → Among w ws → meaning_of t (macro_of macros w) ≡ w.meaning

-- some case of a family meets the wishes
pub record CanMeet (f : Family) (t : Shape) (macros : List (List ℕ)) (ws : List Wish) : Type 0 where
  pub witness : Case
  pub belongs : IsCaseOf f t witness
  pub met : are_met (macro_start f t witness) macros ws ≡ true

-- none does
abbrev pub CanNotMeet : Family → Shape → List (List ℕ) → List Wish → Type 0
CanNotMeet f t macros ws = (x : Case) → IsCaseOf f t x → are_met (macro_start f t x) macros ws ≡ false

-- the first family that refuses the wishes, from the widest; none where a valid configuration meets them
abbrev pub IsFirstRefusal : Shape → List (List ℕ) → List Wish → Option Class → Type 0
IsFirstRefusal t macros ws None = CanMeet family.Whole t macros ws
IsFirstRefusal t macros ws (Some class.Code) = CanNotMeet family.Code t macros ws × CanNotMeet family.Whole t macros ws
IsFirstRefusal t macros ws (Some class.Kconfig) = CanMeet family.Code t macros ws × CanNotMeet family.Kconfig t macros ws × CanNotMeet family.Whole t macros ws
IsFirstRefusal t macros ws (Some class.Missing) = CanMeet family.Code t macros ws × CanMeet family.Kconfig t macros ws × CanNotMeet family.Whole t macros ws
IsFirstRefusal t macros ws (Some (class.Unclassified steps)) = ⊥

-- the wishes of a block's dropping: those round it, and the contrary of its own
abbrev pub dropping : List Wish → List Wish
dropping [] = []
dropping (w ∷ ws) = turned w ∷ ws

-- dead where the selection is refused, undead where the dropping is, else live
abbrev pub AnswersWord : Shape → List (List ℕ) → List Wish → Word → Type 0
AnswersWord t macros ws (Dead class) = IsFirstRefusal t macros ws (Some class)
AnswersWord t macros ws (Undead class) = IsFirstRefusal t macros ws None × IsFirstRefusal t macros (dropping ws) (Some class)
AnswersWord t macros ws Live = IsFirstRefusal t macros ws None × IsFirstRefusal t macros (dropping ws) None
AnswersWord t macros ws word = ⊥

-- one answered word for each list of wishes
abbrev pub AnswerWords : Shape → List (List ℕ) → List (List Wish) → List Word → Type 0
AnswerWords t macros [] [] = Unit {0}
AnswerWords t macros (ws ∷ asked) [] = ⊥
AnswerWords t macros [] (word ∷ words) = ⊥
AnswerWords t macros (ws ∷ asked) (word ∷ words) = AnswersWord t macros ws word × AnswerWords t macros asked words

-- one more word after the others, which answers the wishes of the block that the step opens
abbrev pub WordsBehind : Graph → List Wish → Step → List Word → List Word → Type 0
WordsBehind g ws (Opens w) before words = (word : Word) × (words ≡ before ++ word ∷ [])
    × ((t : Shape) (macros : List (List ℕ)) → Shows t g → AreOf t macros (w ∷ ws) → AnswersWord t macros (w ∷ ws) word)
WordsBehind g ws Closes before words = words ≡ before

-- the words answer the blocks of the steps, under each tree that the graph shows and for macros that the wishes stand for
abbrev pub AreAnswered : Graph → List Step → List Word → Type 0
AreAnswered g ss words = (t : Shape) (macros : List (List ℕ)) → Shows t g → AreOf t macros (wishes_in ss) → AnswerWords t macros (asked_from [] ss) words
