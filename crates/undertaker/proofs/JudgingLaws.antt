-- From the tests of the plain decision to its answer.
use Rattle.std.proofs.Common.{◌≡◌, ℕ, ◌≤◌, ◌<◌, ◌==◌, zero, suc, Bool, true, false, refl, ap, sym, subst, ◌∙◌, arith, List, [], ◌∷◌, ◌++◌, length, drop, get_or, nat_lt, None, Some, ◌⊎◌, inl, inr, ⊎_elim}
use Rattle.std.proofs.lemmas.Bool.Decides.{nat_tests}
use Rattle.std.proofs.lemmas.Bool.{cases_lt}
use Rattle.std.specs.List.{list_any, list_all, All}
use Rattle.kconf_tree.specs.Shape.{Shape}
use Rattle.kconf_tree.specs.Value.{Configuration}
use Rattle.kconf_tree.specs.Valid.{KeepsRules, IsValid}
use Rattle.ut_case.specs.declared.question.Family.TheVariants as family
use Rattle.ut_case.specs.declared.question.Class.TheVariants as class
use Rattle.undertaker.specs.On.{Case, start_by, config_name}
use Rattle.undertaker.specs.declared.wishes.Wish.{Wish}
use Rattle.undertaker.specs.declared.wishes.Meaning.{Meaning}
use Rattle.undertaker.specs.declared.wishes.Meaning.TheVariants.{Free, Symbol, Module, Undeclared}
use Rattle.undertaker.specs.Dependencies.{Graph, IsLeastClosed, is_among}
use Rattle.undertaker.specs.FirstTrees.{Shows}
use Rattle.undertaker.specs.Marks.{is_marked, Marked}
use Rattle.ut_text.specs.Text.{text_eq}
use Rattle.ut_case.specs.declared.word.Word.{Word}
use Rattle.undertaker.specs.declared.steps.Step.{Step}
use Rattle.undertaker.specs.declared.steps.Step.TheVariants.{Opens, Closes}
use Rattle.undertaker.specs.Steps.{behind, path_behind, asked_from, wishes_in}
use Rattle.undertaker.specs.Wishes.{Among, turned, meaning_of, are_met, clashes, wants_module, wants_undeclared, wanted_symbol, wanted_symbols, is_hit, is_below}
use Rattle.undertaker.specs.Judging.{AreOf, CanNotMeet, IsFirstRefusal, AnswersWord, AnswerWords, WordsBehind, AreAnswered}
use Rattle.undertaker.proofs.Bools.{and_left, and_right, and_both, all_among, all_from_among}
use Rattle.undertaker.proofs.Deciding.{clash_in_none, no_clash_in_code, passes_in_kconfig, passes_in_whole, met_wants_no_module, met_wants_no_undeclared, met_hits_none}

-- ---- numbers of wanted symbols

all_joined : (s : ℕ → Bool) (js ks : List ℕ) → list_all s js ≡ true → list_all s ks ≡ true → list_all s (js ++ ks) ≡ true
all_joined s [] ks g i = i
all_joined s (j ∷ js) ks g i = and_both _ _ (and_left (s j) (list_all s js) g) (all_joined s js ks (and_right (s j) (list_all s js) g) i)

one_below : (n : ℕ) (w : Wish) → is_below n w ≡ true → list_all (λ k. nat_lt k n) (wanted_symbol w) ≡ true
one_below n w h = by w.defined w.meaning h
  where
    by : (d : Bool) (m : Meaning) → is_below n (record w { meaning = m }) ≡ true → list_all (λ k. nat_lt k n) (wanted_symbol (record w { meaning = m; defined = d })) ≡ true
    by true Free g = refl
    by true (Symbol k) g = rw g refl
    by true Module g = refl
    by true Undeclared g = refl
    by false m g = refl

pub wanted_below : (n : ℕ) (ws : List Wish) → list_all (is_below n) ws ≡ true → list_all (λ k. nat_lt k n) (wanted_symbols ws) ≡ true
wanted_below n [] h = refl
wanted_below n (w ∷ ws) h = all_joined (λ k. nat_lt k n) (wanted_symbol w) (wanted_symbols ws) (one_below n w (and_left (is_below n w) (list_all (is_below n) ws) h)) (wanted_below n ws (and_right (is_below n w) (list_all (is_below n) ws) h))

pub all_below : (n : ℕ) (ks : List ℕ) → list_all (λ k. nat_lt k n) ks ≡ true → All (λ k. k < n) ks
all_below n [] h i d lt = absurd (omega arith)
all_below n (k ∷ ks) h zero d lt = less k (and_left (nat_lt k n) (list_all (λ j. nat_lt j n) ks) h)
  where
    less : (k : ℕ) → nat_lt k n ≡ true → k < n
    less k g = grind (arith, nat_tests)
all_below n (k ∷ ks) h (suc i) d lt = all_below n ks (and_right (nat_lt k n) (list_all (λ j. nat_lt j n) ks) h) i d (omega arith)

-- the least closed set doesn't depend on the order of what is wanted
pub same_least : (g : Graph) (xs ys found : List ℕ) → ((s : ℕ → Bool) → list_all s xs ≡ list_all s ys) → IsLeastClosed g xs found → IsLeastClosed g ys found
same_least g xs ys found same l = record { rooted = sym (same (is_among found)) ∙ l.rooted; closed = l.closed; least = λ s r c. l.least s (same s ∙ r) c }

-- ---- marks

not_among : (n : ℕ) (ks : List ℕ) (k : ℕ) → All (λ j. j < n) ks → n ≤ k → is_among ks k ≡ false
not_among n [] k b ge = refl
not_among n (j ∷ ks) k b ge = rw (apart j (b 0 j (omega arith))) (not_among n ks k (λ i d lt. b (suc i) d (omega arith)) ge)
  where
    apart : (j : ℕ) → j < n → (j == k) ≡ false
    apart j lt = grind (arith, nat_tests)

beyond : (bs : List Bool) (k : ℕ) → length bs ≤ k → get_or bs k false ≡ false
beyond [] k h = refl
beyond (b ∷ bs) zero h = absurd (omega arith)
beyond (b ∷ bs) (suc k) h = beyond bs k (omega arith)

pub marks_are : (marks : List Bool) (found : List ℕ) → Marked marks found → All (λ j. j < length marks) found → (k : ℕ) → is_marked marks k ≡ is_among found k
marks_are marks found m b k = ⊎_elim (m k) (λ ge. beyond marks k ge ∙ sym (not_among (length marks) found k b ge)) (cases_lt k (length marks))

-- ---- the first refusal

no_configuration : Configuration
no_configuration = record { value = λ k. 0; mode = λ k. 0; outer = λ k. false; undeclared = λ n. false }

true_false : (b : Bool) → b ≡ true → b ≡ false → ⊥
true_false b h g = absurd (cc)

module _ (t : Shape) (g : Graph) (macros : List (List ℕ)) (shows : Shows t g) (ws : List Wish) (of : AreOf t macros ws) where
  pub first_clash : clashes ws ≡ true → IsFirstRefusal t macros ws (Some class.Code)
  first_clash h = (clash_in_none family.Code t macros ws h, clash_in_none family.Whole t macros ws h)

  -- what no case of the rules meets
  abbrev Refused : Type 0
  Refused = (x : Case) → KeepsRules t x.configuration → are_met (λ macro. start_by t x macro (config_name macro)) macros ws ≡ false

  refused_by : ((x : Case) → KeepsRules t x.configuration → are_met (λ macro. start_by t x macro (config_name macro)) macros ws ≡ true → ⊥) → Refused
  refused_by h x r = by (are_met (λ macro. start_by t x macro (config_name macro)) macros ws) refl
    where
      by : (b : Bool) → are_met (λ macro. start_by t x macro (config_name macro)) macros ws ≡ b → b ≡ false
      by true e = absurd (h x r e)
      by false e = refl

  in_kconfig : Refused → CanNotMeet family.Kconfig t macros ws
  in_kconfig h x r = h x r

  in_whole : Refused → CanNotMeet family.Whole t macros ws
  in_whole h x v = h x v.rules

  first_refused : clashes ws ≡ false → Refused → IsFirstRefusal t macros ws (Some class.Kconfig)
  first_refused clear h = (no_clash_in_code t no_configuration macros ws of.numbered clear, in_kconfig h, in_whole h)

  pub first_hit : clashes ws ≡ false → (found : List ℕ) → IsLeastClosed g (wanted_symbols ws) found → list_any (is_hit (is_among found)) ws ≡ true → IsFirstRefusal t macros ws (Some class.Kconfig)
  first_hit clear found least hit = first_refused clear (refused_by (λ x r met. true_false (list_any (is_hit (is_among found)) ws) hit (met_hits_none t g shows macros ws of x r met found least)))

  pub first_module : clashes ws ≡ false → list_any wants_module ws ≡ true → IsFirstRefusal t macros ws (Some class.Kconfig)
  first_module clear wants = first_refused clear (refused_by (λ x r met. true_false (list_any wants_module ws) wants (met_wants_no_module t g shows macros ws of x r met)))

  module _ (clear : clashes ws ≡ false) (found : List ℕ) (least : IsLeastClosed g (wanted_symbols ws) found) (no_hit : list_any (is_hit (is_among found)) ws ≡ false) (no_module : list_any wants_module ws ≡ false) where
    pub first_undeclared : list_any wants_undeclared ws ≡ true → IsFirstRefusal t macros ws (Some class.Missing)
    first_undeclared wants = (
      no_clash_in_code t no_configuration macros ws of.numbered clear,
      passes_in_kconfig t g shows macros ws of clear (is_among found) least.closed rooted no_module no_hit,
      λ x v. by x v (are_met (λ macro. start_by t x macro (config_name macro)) macros ws) refl,
    )
      where
        rooted : list_all (is_among found) (wanted_symbols ws) ≡ true
        rooted = least.rooted

        by : (x : Case) → IsValid t x.configuration → (b : Bool) → are_met (λ macro. start_by t x macro (config_name macro)) macros ws ≡ b → b ≡ false
        by x v true e = absurd (true_false (list_any wants_undeclared ws) wants (met_wants_no_undeclared t g shows macros ws of x v.rules e v.undeclared_are_n))
        by x v false e = refl

    pub no_refusal : list_any wants_undeclared ws ≡ false → IsFirstRefusal t macros ws None
    no_refusal none = passes_in_whole t g shows macros ws of clear (is_among found) least.closed least.rooted no_module no_hit none

-- ---- the contrary of a block's own wish asks the same macro

as_own : (w x : Wish) (ws : List Wish) → Among x (turned w ∷ ws) → (y : Wish) × Among y (w ∷ ws) × (x.name ≡ y.name) × (x.meaning ≡ y.meaning)
as_own w x ws (inl e) = (w, inl refl, ap (λ (v : Wish). v.name) e, ap (λ (v : Wish). v.meaning) e)
as_own w x ws (inr m) = (x, inr m, refl, refl)

pub turned_of : (t : Shape) (macros : List (List ℕ)) (w : Wish) (ws : List Wish) → AreOf t macros (w ∷ ws) → AreOf t macros (turned w ∷ ws)
turned_of t macros w ws of = record {
  numbered = λ x v m n h. let a = as_own w x ws m in let b = as_own w v ws n in
      a.2 ∙ (of.numbered a.0 b.0 a.1 b.1 (subst (λ k. text_eq (get_or macros a.0.name []) (get_or macros k []) ≡ true) b.2 (subst (λ k. text_eq (get_or macros k []) (get_or macros v.name []) ≡ true) a.2 h)) ∙ sym b.2);
  meanings = λ x m. let a = as_own w x ws m in subst (λ k. meaning_of t (get_or macros k []) ≡ x.meaning) (sym a.2) (of.meanings a.0 a.1 ∙ sym a.3);
}

-- wishes among those of a source are of it
pub fewer_of : (t : Shape) (macros : List (List ℕ)) (ws vs : List Wish) → ((w : Wish) → Among w vs → Among w ws) → AreOf t macros ws → AreOf t macros vs
fewer_of t macros ws vs sub of = record { numbered = λ w v m n h. of.numbered w v (sub w m) (sub v n) h; meanings = λ w m. of.meanings w (sub w m) }

-- ---- one word after another

abbrev pub Answered : Shape → List (List ℕ) → List Word → List Wish → List Step → List (List Wish) → Type 0
Answered t macros words ws ss all = (rest : List Word) → AnswerWords t macros (asked_from ws ss) rest → AnswerWords t macros all (words ++ rest)

words_assoc : (xs : List Word) (y : Word) (zs : List Word) → (xs ++ y ∷ []) ++ zs ≡ xs ++ y ∷ zs
words_assoc [] y zs = refl
words_assoc (x ∷ xs) y zs = ap (λ rest. x ∷ rest) (words_assoc xs y zs)

pub one_more_word : (t : Shape) (macros : List (List ℕ)) (words : List Word) (word : Word) (w : Wish) (ws : List Wish) (ss : List Step) (all : List (List Wish)) → AnswersWord t macros (w ∷ ws) word
    → Answered t macros words ws (Opens w ∷ ss) all → Answered t macros (words ++ word ∷ []) (w ∷ ws) ss all
one_more_word t macros words word w ws ss all a h rest r = subst (AnswerWords t macros all) (sym (words_assoc words word rest)) (h (word ∷ rest) (a, r))

pub one_less_block : (t : Shape) (macros : List (List ℕ)) (words : List Word) (ws : List Wish) (ss : List Step) (all : List (List Wish)) → Answered t macros words ws (Closes ∷ ss) all → Answered t macros words (behind ws) ss all
one_less_block t macros words ws ss all h = h

-- ---- the wishes of one step and of what is left

among_first : (s : Step) (ss : List Step) (ws : List Wish) (w : Wish) → Among w (wishes_in (s ∷ []) ++ ws) → Among w (wishes_in (s ∷ ss)) ⊎ Among w ws
among_first (Opens v) ss ws w (inl e) = inl (inl e)
among_first (Opens v) ss ws w (inr m) = inr m
among_first Closes ss ws w m = inr m

pub step_below : (n : ℕ) (all : List Wish) (s : Step) (ss : List Step) (ws : List Wish) → list_all (is_below n) all ≡ true → ((w : Wish) → Among w ws → Among w all)
    → ((w : Wish) → Among w (wishes_in (s ∷ ss)) → Among w all) → list_all (is_below n) (wishes_in (s ∷ []) ++ ws) ≡ true
step_below n all s ss ws h known left = all_from_among (is_below n) (wishes_in (s ∷ []) ++ ws) (λ w m. all_among (is_below n) all w h (⊎_elim (left w) (known w) (among_first s ss ws w m)))

among_behind : (s : Step) (ss : List Step) (w : Wish) → Among w (wishes_in ss) → Among w (wishes_in (s ∷ ss))
among_behind (Opens v) ss w m = inr m
among_behind Closes ss w m = m

-- what the loop over the steps keeps
pub record Judged (g : Graph) (all : List Step) (words : List Word) (path : List Wish) (rest : List Step) : Type 0 where
  pub known : (w : Wish) → Among w path → Among w (wishes_in all)
  pub left : (w : Wish) → Among w (wishes_in rest) → Among w (wishes_in all)
  pub answered : (t : Shape) (macros : List (List ℕ)) → Shows t g → AreOf t macros (wishes_in all) → Answered t macros words path rest (asked_from [] all)

pub judged_nothing : (g : Graph) (all : List Step) → Judged g all [] [] all
judged_nothing g all = record { known = λ w m. absurd m; left = λ w m. m; answered = λ t macros shows of rest r. r }

pub judged_step : (g : Graph) (all : List Step) (before words : List Word) (path : List Wish) (s : Step) (rest : List Step) → Judged g all before path (s ∷ rest)
    → WordsBehind g path s before words → Judged g all words (path_behind path s) rest
judged_step g all before words path (Opens v) rest j w = record {
  known = opened;
  left = λ u m. j.left u (inr m);
  answered = λ t macros shows of. subst (λ ws. Answered t macros ws (v ∷ path) rest (asked_from [] all)) (sym w.1)
      (one_more_word t macros before w.0 v path rest (asked_from [] all) (w.2 t macros shows (fewer_of t macros (wishes_in all) (v ∷ path) opened of)) (j.answered t macros shows of));
}
  where
    opened : (u : Wish) → Among u (v ∷ path) → Among u (wishes_in all)
    opened u (inl e) = j.left u (inl e)
    opened u (inr m) = j.known u m
judged_step g all before words path Closes rest j w = record {
  known = λ u m. j.known u (outer path u m);
  left = j.left;
  answered = λ t macros shows of. subst (λ ws. Answered t macros ws (behind path) rest (asked_from [] all)) (sym w) (j.answered t macros shows of);
}
  where
    outer : (ws : List Wish) (u : Wish) → Among u (behind ws) → Among u ws
    outer [] u m = m
    outer (x ∷ ws) u m = inr m

words_whole : (ws : List Word) → ws ++ [] ≡ ws
words_whole [] = refl
words_whole (w ∷ ws) = ap (λ rest. w ∷ rest) (words_whole ws)

pub judged_all : (g : Graph) (all : List Step) (words : List Word) (path : List Wish) → Judged g all words path [] → AreAnswered g all words
judged_all g all words path j = λ t macros shows of. subst (AnswerWords t macros (asked_from [] all)) (words_whole words) (j.answered t macros shows of [] tt)

pub drop_none : (ss : List Step) (i : ℕ) → length ss ≤ i → drop i ss ≡ []
drop_none [] zero h = refl
drop_none [] (suc i) h = refl
drop_none (s ∷ ss) zero h = absurd (omega arith)
drop_none (s ∷ ss) (suc i) h = drop_none ss i (omega arith)
