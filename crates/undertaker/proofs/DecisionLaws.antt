-- From the steps of a source to the words on its blocks.
use Rattle.std.proofs.Common.{◌≡◌, ℕ, ◌<◌, Bool, true, false, cond, refl, ap, sym, subst, ◌∙◌, arith, List, [], ◌∷◌, length, Option, None, Some, nat_lt, inl, inr}
use Rattle.std.proofs.lemmas.Bool.Decides.{nat_tests}
use Rattle.std.proofs.lemmas.List.Quantifiers.{position-Some}
use Rattle.std.specs.List.{list_all}
use Rattle.std.specs.Option.{option_and_then, is_some}
use Rattle.ut_text.specs.Text.{text_eq}
use Rattle.cpp_directives.specs.declared.directive.Directive.{Directive}
use Rattle.kconf_tree.specs.Shape.{Shape}
use Rattle.ut_case.specs.declared.word.Word.{Word}
use Rattle.undertaker.specs.On.{config_name, module_name, module_of}
use Rattle.undertaker.specs.Report.{AreWords}
use Rattle.undertaker.specs.declared.wishes.Meaning.{Meaning}
use Rattle.undertaker.specs.declared.wishes.Meaning.TheVariants.{Module, Undeclared}
use Rattle.undertaker.specs.declared.wishes.Wish.{Wish}
use Rattle.undertaker.specs.declared.steps.Step.{Step}
use Rattle.undertaker.specs.declared.steps.Step.TheVariants.{Opens, Closes}
use Rattle.undertaker.specs.Names.{number_among}
use Rattle.undertaker.specs.Dependencies.{Graph}
use Rattle.undertaker.specs.FirstTrees.{Shows}
use Rattle.undertaker.specs.Wishes.{Among, macro_of, meaning_in, meaning_by, meaning_of, is_below}
use Rattle.undertaker.specs.Meanings.{is_module_under, config_meaning_by, meaning_by_name, meaning_under}
use Rattle.undertaker.specs.Steps.{StandFor, wishes_in}
use Rattle.undertaker.specs.StepsOf.{AreMeant, AreStepsOf}
use Rattle.undertaker.specs.Judging.{AreOf, AreAnswered}
use Rattle.undertaker.proofs.Bools.{and_both}
use Rattle.undertaker.proofs.Questions.{words_are}

-- ---- the symbols that are meant are declared

symbol_below : (names : List (List ℕ)) (n : ℕ) → n ≡ length names → (macro : List ℕ) → is_below n (record { name = 0; meaning = meaning_under names macro; defined = true }) ≡ true
symbol_below names n e macro = by (config_name macro)
  where
    by : (o : Option (List ℕ)) → is_below n (record { name = 0; meaning = meaning_by_name names o; defined = true }) ≡ true
    by None = refl
    by (Some name) = at (number_among names name) refl
      where
        less : (k : ℕ) → k < n → nat_lt k n ≡ true
        less k lt = grind (arith, nat_tests)

        either : (b : Bool) → is_below n (record { name = 0; meaning = cond b Module Undeclared; defined = true }) ≡ true
        either true = refl
        either false = refl

        at : (o : Option ℕ) → number_among names name ≡ o → is_below n (record { name = 0; meaning = config_meaning_by names name o; defined = true }) ≡ true
        at (Some k) f = less k (rw e (position-Some (λ m. text_eq m name) names k [] f).0)
        at None f = either (is_module_under names name)

pub steps_below : (names macros : List (List ℕ)) (n : ℕ) → n ≡ length names → (ss : List Step) → AreMeant names macros ss → list_all (is_below n) (wishes_in ss) ≡ true
steps_below names macros n e [] m = refl
steps_below names macros n e (Opens w ∷ ss) m = and_both (is_below n w) (list_all (is_below n) (wishes_in ss))
    (subst (λ (k : Meaning). is_below n (record w { meaning = k }) ≡ true) (sym m.0) (symbol_below names n e (macro_of macros w))) (steps_below names macros n e ss m.1)
steps_below names macros n e (Closes ∷ ss) m = steps_below names macros n e ss m.1

-- ---- the wishes stand for the macros of the source under the tree

meaning_same : (t : Shape) (g : Graph) → Shows t g → (macro : List ℕ) → meaning_of t macro ≡ meaning_under g.names macro
meaning_same t g shows macro = by (config_name macro)
  where
    module_same : (name : List ℕ) → is_some (module_of t name) ≡ is_module_under g.names name
    module_same name = ap (λ (f : List ℕ → Option ℕ). is_some (option_and_then f (module_name name))) (λ i n. shows.number n i)

    at : (name : List ℕ) (o : Option ℕ) → meaning_in t name o ≡ config_meaning_by g.names name o
    at name (Some k) = refl
    at name None = ap (λ b. cond b Module Undeclared) (module_same name)

    by : (o : Option (List ℕ)) → meaning_by t o ≡ meaning_by_name g.names o
    by None = refl
    by (Some name) = ap (meaning_in t name) (shows.number name) ∙ at name (number_among g.names name)

known : (names macros : List (List ℕ)) (ss : List Step) (ds : List Directive) → StandFor macros ss ds → AreMeant names macros ss → (w : Wish) → Among w (wishes_in ss)
    → (w.name < length macros) × (w.meaning ≡ meaning_under names (macro_of macros w))
known names macros [] ds h m w a = absurd a
known names macros (s ∷ ss) [] h m w a = absurd h
known names macros (Opens v ∷ ss) (d ∷ ds) h m w (inl e) = subst (λ (u : Wish). (u.name < length macros) × (u.meaning ≡ meaning_under names (macro_of macros u))) (sym e) (h.0.0, m.0)
known names macros (Opens v ∷ ss) (d ∷ ds) h m w (inr a) = known names macros ss ds h.1 m.1 w a
known names macros (Closes ∷ ss) (d ∷ ds) h m w a = known names macros ss ds h.1 m.1 w a

pub steps_are_of : (t : Shape) (g : Graph) → Shows t g → (ds : List Directive) (ss : List Step) (s : AreStepsOf g.names ds ss) → AreOf t s.macros (wishes_in ss)
steps_are_of t g shows ds ss s = record {
  numbered = λ w v a b e. s.distinct w.name v.name (known g.names s.macros ss ds s.stand s.meant w a).0 (known g.names s.macros ss ds s.stand s.meant v b).0 e;
  meanings = λ w a. meaning_same t g shows (macro_of s.macros w) ∙ sym (known g.names s.macros ss ds s.stand s.meant w a).1;
}

-- ---- the words

pub answered_words : (t : Shape) (g : Graph) → Shows t g → (ds : List Directive) (ss : List Step) → AreStepsOf g.names ds ss → (words : List Word) → AreAnswered g ss words → AreWords t ds (λ block f ask. false) words
answered_words t g shows ds ss s words a = words_are t s.macros ss ds s.stand words (a t s.macros shows (steps_are_of t g shows ds ss s))
