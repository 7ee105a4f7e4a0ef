-- A block's questions are its wishes, and so its word is the one that the answers on them give.
use Rattle.std.proofs.Common.{◌≡◌, ℕ, ◌<◌, ◌-◌, zero, suc, Bool, true, false, not, ◌&&◌, refl, ap, sym, ◌∙◌, arith, List, [], ◌∷◌, length, get_or, map, Some}
use Rattle.cpp_directives.specs.declared.directive.Directive.{Directive}
use Rattle.cpp_blocks.specs.declared.state.MacroState.{MacroState}
use Rattle.cpp_blocks.specs.declared.state.MacroState.TheVariants.{Undefined}
use Rattle.cpp_blocks.specs.Run.{is_defined, run_of}
use Rattle.cpp_blocks.specs.Blocks.{parents_of, parent_of}
use Rattle.kconf_tree.specs.Shape.{Shape}
use Rattle.kconf_tree.specs.Valid.{IsValid}
use Rattle.ut_case.specs.declared.question.Family.{Family}
use Rattle.ut_case.specs.declared.question.Family.TheVariants as family
use Rattle.ut_case.specs.declared.question.Ask.{Ask}
use Rattle.ut_case.specs.declared.question.Ask.TheVariants.{Selected, Dropped}
use Rattle.ut_case.specs.declared.question.Class.{Class}
use Rattle.ut_case.specs.declared.question.Class.TheVariants as class
use Rattle.ut_case.specs.declared.word.Word.{Word}
use Rattle.ut_case.specs.declared.word.Word.TheVariants.{Dead, Undead, Live, Undecided}
use Rattle.undertaker.specs.On.{Case, macro_start, start_of, is_on}
use Rattle.undertaker.specs.Classes.{meets, CanBe, CanNotBe, HasClass}
use Rattle.undertaker.specs.Verdicts.{IsWordOf}
use Rattle.undertaker.specs.Report.{AreWords}
use Rattle.undertaker.specs.declared.wishes.Wish.{Wish}
use Rattle.undertaker.specs.declared.steps.Step.{Step}
use Rattle.undertaker.specs.declared.steps.Step.TheVariants.{Opens, Closes}
use Rattle.undertaker.specs.Wishes.{agrees, macro_of, is_met, are_met, turned}
use Rattle.undertaker.specs.Steps.{StandFor, behind, asked_from}
use Rattle.undertaker.specs.Judging.{CanMeet, CanNotMeet, IsFirstRefusal, dropping, AnswersWord, AnswerWords}
use Rattle.undertaker.proofs.Runs.{blocks_are, parents_are, parents_count}

get_or-map : {A B : Type 0} (g : A → B) (xs : List A) (k : ℕ) (d : B) (e : A) → k < length xs → get_or (map g xs) k d ≡ g (get_or xs k e)
get_or-map g [] k d e lt = absurd (omega arith)
get_or-map g (x ∷ xs) zero d e lt = refl
get_or-map g (x ∷ xs) (suc k) d e lt = get_or-map g xs k d e (omega arith)

-- no block asks nothing
some_wish : (ws : List Wish) (ss : List Step) (k : ℕ) → k < length (asked_from ws ss) → get_or (asked_from ws ss) k [] ≡ [] → ⊥
some_wish ws [] k lt e = omega arith
some_wish ws (Opens w ∷ ss) zero lt e = absurd (cc)
some_wish ws (Opens w ∷ ss) (suc k) lt e = some_wish (w ∷ ws) ss k (omega arith) e
some_wish ws (Closes ∷ ss) k lt e = some_wish (behind ws) ss k lt e

turned_met : (states : List ℕ → MacroState) (macros : List (List ℕ)) (w : Wish) → is_met states macros (turned w) ≡ not (is_met states macros w)
turned_met states macros w = by w.defined (is_defined (states (macro_of macros w)))
  where
    by : (d b : Bool) → agrees (not d) b ≡ not (agrees d b)
    by true b = refl
    by false true = refl
    by false false = refl

dropped_met : (states : List ℕ → MacroState) (macros : List (List ℕ)) (path : List Wish) → (path ≡ [] → ⊥)
    → (are_met states macros (behind path) && not (are_met states macros path)) ≡ are_met states macros (dropping path)
dropped_met states macros [] h = absurd (h refl)
dropped_met states macros (w ∷ ws) h = by (is_met states macros w) (are_met states macros ws) ∙ ap (λ b. b && are_met states macros ws) (sym (turned_met states macros w))
  where
    by : (a b : Bool) → (b && not (a && b)) ≡ (not a && b)
    by true true = refl
    by true false = refl
    by false true = refl
    by false false = refl

module _ (t : Shape) (macros : List (List ℕ)) (ss : List Step) (ds : List Directive) (stand : StandFor macros ss ds) where
  abbrev asked : List (List Wish)
  asked = asked_from [] ss

  module _ (f : Family) (x : Case) where
    blocks : (run_of (start_of f t x) ds).blocks ≡ true ∷ map (are_met (macro_start f t x) macros) asked
    blocks = blocks_are (start_of f t x) macros ss ds stand [] (record { on = true; chains = []; macros = macro_start f t x; touched = []; blocks = true ∷ [] }) (record { same = refl; on = refl; chained = tt })

    own_on : (k : ℕ) → k < length asked → is_on f t ds x (suc k) ≡ are_met (macro_start f t x) macros (get_or asked k [])
    own_on k lt = ap (λ (bs : List Bool). get_or bs (suc k) false) blocks ∙ get_or-map (are_met (macro_start f t x) macros) asked k false [] lt

    parent_on : (k : ℕ) → k < length asked → is_on f t ds x (parent_of ds (suc k)) ≡ are_met (macro_start f t x) macros (behind (get_or asked k []))
    parent_on k lt = ap (λ (bs : List Bool). get_or bs (parent_of ds (suc k)) false) blocks
        ∙ (ap (λ (n : ℕ). get_or (true ∷ map (are_met (macro_start f t x) macros) asked) (get_or (parents_of ds) n 0) false) same
        ∙ parents_are (start_of f t x) macros ss ds stand [] [] (true ∷ []) (omega arith, refl) k lt)
      where
        same : suc k - 1 ≡ k
        same = omega arith

    selected_is : (k : ℕ) → k < length asked → meets f t ds Selected (suc k) x ≡ are_met (macro_start f t x) macros (get_or asked k [])
    selected_is k lt = own_on k lt

    dropped_is : (k : ℕ) → k < length asked → meets f t ds Dropped (suc k) x ≡ are_met (macro_start f t x) macros (dropping (get_or asked k []))
    dropped_is k lt = rw (parent_on k lt, own_on k lt) (dropped_met (macro_start f t x) macros (get_or asked k []) (some_wish [] ss k lt))

  -- the wishes of a question
  abbrev wishes_of : Ask → ℕ → List Wish
  wishes_of Selected k = get_or asked k []
  wishes_of Dropped k = dropping (get_or asked k [])

  meets_is : (f : Family) (x : Case) (ask : Ask) (k : ℕ) → k < length asked → meets f t ds ask (suc k) x ≡ are_met (macro_start f t x) macros (wishes_of ask k)
  meets_is f x Selected k lt = selected_is f x k lt
  meets_is f x Dropped k lt = dropped_is f x k lt

  can_be : (f : Family) (ask : Ask) (k : ℕ) → k < length asked → CanMeet f t macros (wishes_of ask k) → CanBe f t ds ask (suc k)
  can_be f ask k lt c = record { witness = c.witness; belongs = c.belongs; met = meets_is f c.witness ask k lt ∙ c.met }

  can_not_be : (f : Family) (ask : Ask) (k : ℕ) → k < length asked → CanNotMeet f t macros (wishes_of ask k) → CanNotBe f t ds ask (suc k)
  can_not_be f ask k lt c x b = meets_is f x ask k lt ∙ c x b

  class_is : (ask : Ask) (k : ℕ) → k < length asked → (class : Class) → IsFirstRefusal t macros (wishes_of ask k) (Some class) → HasClass t ds (λ f. false) ask (suc k) class
  class_is ask k lt class.Code r = (refl, can_not_be family.Code ask k lt r.0)
  class_is ask k lt class.Kconfig r = (refl, can_be family.Code ask k lt r.0, refl, can_not_be family.Kconfig ask k lt r.1)
  class_is ask k lt class.Missing r = (refl, can_be family.Code ask k lt r.0, refl, can_be family.Kconfig ask k lt r.1)
  class_is ask k lt (class.Unclassified steps) r = absurd r

  refused_whole : (ask : Ask) (k : ℕ) (class : Class) → IsFirstRefusal t macros (wishes_of ask k) (Some class) → CanNotMeet family.Whole t macros (wishes_of ask k)
  refused_whole ask k class.Code r = r.1
  refused_whole ask k class.Kconfig r = r.2
  refused_whole ask k class.Missing r = r.2
  refused_whole ask k (class.Unclassified steps) r = absurd r

  undead_on : (k : ℕ) → k < length asked → CanNotMeet family.Whole t macros (wishes_of Dropped k) → (x : Case) → IsValid t x.configuration
      → is_on family.Whole t ds x (parent_of ds (suc k)) ≡ true → is_on family.Whole t ds x (suc k) ≡ true
  undead_on k lt c x v p = by (is_on family.Whole t ds x (parent_of ds (suc k))) (is_on family.Whole t ds x (suc k)) p (can_not_be family.Whole Dropped k lt c x v)
    where
      by : (a b : Bool) → a ≡ true → (a && not b) ≡ false → b ≡ true
      by a true p h = refl
      by true false p h = sym h
      by false false p h = p

  word_is : (k : ℕ) → k < length asked → (word : Word) → AnswersWord t macros (get_or asked k []) word → IsWordOf t ds (λ f ask. false) (suc k) word
  word_is k lt (Dead class) a = (refl, can_not_be family.Whole Selected k lt (refused_whole Selected k class a), class_is Selected k lt class a)
  word_is k lt (Undead class) a = (refl, refl, record { selected = can_be family.Whole Selected k lt a.0; on = undead_on k lt (refused_whole Dropped k class a.1) }, class_is Dropped k lt class a.1)
  word_is k lt Live a = (refl, refl, record { selected = can_be family.Whole Selected k lt a.0; dropped = can_be family.Whole Dropped k lt a.1 })
  word_is k lt (Undecided ask) a = absurd a

  answered_at : (paths : List (List Wish)) (words : List Word) → AnswerWords t macros paths words → (k : ℕ) → k < length words → AnswersWord t macros (get_or paths k []) (get_or words k Live)
  answered_at [] [] a k lt = absurd (omega arith)
  answered_at [] (w ∷ ws) a k lt = absurd a
  answered_at (p ∷ ps) [] a k lt = absurd a
  answered_at (p ∷ ps) (w ∷ ws) a zero lt = a.0
  answered_at (p ∷ ps) (w ∷ ws) a (suc k) lt = answered_at ps ws a.1 k (omega arith)

  answered_each : (paths : List (List Wish)) (words : List Word) → AnswerWords t macros paths words → length words ≡ length paths
  answered_each [] [] a = refl
  answered_each [] (w ∷ ws) a = absurd a
  answered_each (p ∷ ps) [] a = absurd a
  answered_each (p ∷ ps) (w ∷ ws) a = ap suc (answered_each ps ws a.1)

  -- words that answer the wishes of the blocks in order are the words of the blocks
  pub words_are : (words : List Word) → AnswerWords t macros asked words → AreWords t ds (λ block f ask. false) words
  words_are words a = record {
    each = answered_each asked words a ∙ sym (parents_count (start_of family.Code t no_case) macros ss ds stand [] 1 []);
    right = λ k lt. word_is k (rw (sym (answered_each asked words a)) lt) (get_or words k Live) (answered_at asked words a k lt);
  }
    where
      no_case : Case
      no_case = record {
        configuration = record { value = λ k. 0; mode = λ k. 0; outer = λ k. false; undeclared = λ n. false };
        environment = record { start = λ n. Undefined; truth = λ n. false; piece = λ n k. false; line = λ n. false };
      }
