-- What job golem comes to over given files is the text of the files that its plan of reading comes to, or that plan's
-- refusal.
use Rattle.std.proofs.Common.{◌≡◌, ◌⊎◌, ◌∙◌, ℕ, inl, inr, sym, subst, ap, List, ◌++◌, Option, Some, Result, Ok, Err}
use Rattle.std.specs.List.{AllByRecursion}
use Rattle.std.specs.Result.{result_map_both}
use Rattle.ut_text.specs.Bytes.{Bytes}
use Rattle.ut_base.specs.Plans.{outcome}
use Rattle.ut_base.specs.Reading.{Agrees, Came, Led, Ended, IsOwnOrOk, IsBroke, SomeRead}
use Rattle.ut_base.specs.Settled.{ComesTo, IsCut}
use Rattle.ut_base.proofs.PlanLaws.{follows_held}
use Rattle.ut_base.proofs.ReadingLaws.{all_of_both, some_in_front}
use Rattle.kbuild_files.specs.Golem.{golem_text_of}
use Rattle.kbuild_folders.specs.Errors.{kbuild_errors}
use Rattle.kbuild_folders.specs.declared.bad.KbuildBad.{KbuildBad}
use Rattle.kbuild_cond.specs.Reading.{kbuild_plan}
use Rattle.kbuild_paths.specs.Paths.{Conds}
use Rattle.ut_words.specs.declared.order.Order.{Order}
use Rattle.undertaker_run.specs.Errors.{bad_of_kbuild, run_errors}
use Rattle.undertaker_run.specs.Jobs.Golem.{IsGolem, golem_of}
use Rattle.undertaker_run.specs.Texts.{kbuild_of, texts_of, wanted_of}
use Rattle.undertaker_run.specs.Work.{work_by}
use Rattle.undertaker_run.specs.declared.bad.Bad.{Bad}
use Rattle.undertaker_run.specs.declared.bad.Bad.TheVariants as bad
use Rattle.undertaker_run.specs.declared.texts.Texts.{Texts}

-- a value, and what is made of it
mapped_ok : (x : Result Conds KbuildBad) (conds : Conds) → Ok conds ≡ result_map_both (λ c. c) bad_of_kbuild x
    → Ok (golem_text_of conds) ≡ result_map_both golem_text_of bad_of_kbuild x
mapped_ok (Ok c) conds h = let same : conds ≡ c = cc in ap (λ v. Ok (golem_text_of v)) same
mapped_ok (Err d) conds h = absurd (cc)

-- a refusal
mapped_err : (x : Result Conds KbuildBad) (e : Bad) → Err e ≡ result_map_both (λ c. c) bad_of_kbuild x
    → Err e ≡ result_map_both golem_text_of bad_of_kbuild x
mapped_err (Ok c) e h = absurd (cc)
mapped_err (Err d) e h = let same : e ≡ bad_of_kbuild d = cc in ap Err same

module _ (files : Bytes → Option Bytes) (root : Bytes) where
  -- what is read of Kbuild texts, over these files
  abbrev read : Result Conds KbuildBad
  read = (outcome kbuild_errors files (kbuild_plan root) 0).result

  texts_come : (n : ℕ) (cs : List Came) (r : Result Conds Bad) → kbuild_of (Some root) 0 cs n r → AllByRecursion (Agrees files) cs
      → IsCut run_errors cs r ⊎ (r ≡ result_map_both (λ c. c) bad_of_kbuild read)
  texts_come n cs r h agree = by h.before h.answer (follows_held kbuild_errors files (kbuild_plan root) 0 n cs h.before h.follows agree)
    where
      by : (q : Result Conds KbuildBad) → r ≡ result_map_both (λ c. c) bad_of_kbuild q
          → IsCut kbuild_errors cs q ⊎ ((n ≡ (outcome kbuild_errors files (kbuild_plan root) 0).used) × (q ≡ read))
          → IsCut run_errors cs r ⊎ (r ≡ result_map_both (λ c. c) bad_of_kbuild read)
      by q is (inl (inl broke)) = inl (inl broke)
      by q is (inl (inr memory)) = inl (inr (is ∙ ap (result_map_both (λ c. c) bad_of_kbuild) memory))
      by q is (inr come) = inr (is ∙ ap (result_map_both (λ c. c) bad_of_kbuild) come.1)

  module _ (order : Order) (kbuild : order.kbuild ≡ Some root) where
    -- a refusal of the texts
    refused : (n : ℕ) (cs : List Came) (e : Bad) → texts_of (wanted_of order) 0 cs n (Err e) → AllByRecursion (Agrees files) cs
        → IsCut run_errors {A = Texts} cs (Err e) ⊎ (Err e ≡ golem_of files root)
    refused n cs e (Led conds mid front rest is h g) agree = by g.answer
      where
        by : ((◌≡◌ {A = Result Texts Bad} (Err e) (Ok (record { kbuild = conds }))) × IsOwnOrOk run_errors {A = Texts} (Err e)) ⊎ (◌≡◌ {A = Result Texts Bad} (Err e) (Err bad.Oom))
            → IsCut run_errors {A = Texts} cs (Err e) ⊎ (Err e ≡ golem_of files root)
        by (inl ok) = absurd (let w = ok.0 in cc)
        by (inr memory) = inl (inr memory)
    refused n cs e (Ended d h is) agree = by (texts_come n cs (Err d) (subst (λ o. kbuild_of o 0 cs n (Err d)) kbuild h) agree)
      where
        same : e ≡ d
        same = cc

        by : IsCut run_errors {A = Conds} cs (Err d) ⊎ (Err d ≡ result_map_both (λ c. c) bad_of_kbuild read) → IsCut run_errors {A = Texts} cs (Err e) ⊎ (Err e ≡ golem_of files root)
        by (inl (inl broke)) = inl (inl broke)
        by (inl (inr memory)) = let m : d ≡ bad.Oom = cc in inl (inr (ap Err (same ∙ m)))
        by (inr come) = inr (ap Err same ∙ mapped_err read d come)

    -- the texts, and the text of the job
    done : (mid n : ℕ) (front rest cs : List Came) (texts : Texts) (r : Result Bytes Bad) → cs ≡ front ++ rest → texts_of (wanted_of order) 0 front mid (Ok texts)
        → AllByRecursion (Agrees files) front → r ≡ Ok (golem_text_of texts.kbuild) → IsCut run_errors cs r ⊎ (r ≡ golem_of files root)
    done mid n front rest cs texts r is (Led conds m fs rs at h g) agree made = by g.answer
      where
        ends : conds ≡ texts.kbuild → IsCut run_errors {A = Conds} fs (Ok conds) ⊎ (Ok conds ≡ result_map_both (λ c. c) bad_of_kbuild read) → IsCut run_errors cs r ⊎ (r ≡ golem_of files root)
        ends same (inl (inl broke)) = inl (inl (subst (SomeRead IsBroke) (sym is) (some_in_front IsBroke front rest (subst (SomeRead IsBroke) (sym at) (some_in_front IsBroke fs rs broke)))))
        ends same (inl (inr memory)) = absurd (cc)
        ends same (inr come) = inr (made ∙ ap (λ c. Ok (golem_text_of c)) (sym same) ∙ mapped_ok read conds come)

        come : IsCut run_errors {A = Conds} fs (Ok conds) ⊎ (Ok conds ≡ result_map_both (λ c. c) bad_of_kbuild read)
        come = texts_come m fs (Ok conds) (subst (λ o. kbuild_of o 0 fs m (Ok conds)) kbuild h) (all_of_both (Agrees files) fs rs (subst (AllByRecursion (Agrees files)) at agree)).0

        by : ((◌≡◌ {A = Result Texts Bad} (Ok texts) (Ok (record { kbuild = conds }))) × Unit {0}) ⊎ (◌≡◌ {A = Result Texts Bad} (Ok texts) (Err bad.Oom)) → IsCut run_errors cs r ⊎ (r ≡ golem_of files root)
        by (inl ok) = let same : texts ≡ record { kbuild = conds } = (let w = ok.0 in cc) in ends (ap (λ t. t.kbuild) (sym same)) come
        by (inr memory) = absurd (cc)
    done mid n front rest cs texts r is (Ended d h err) agree made = absurd (cc)

    follows : (n : ℕ) (cs : List Came) (r : Result Bytes Bad) → work_by (Ok order) 0 cs n r → AllByRecursion (Agrees files) cs
        → IsCut run_errors cs r ⊎ (r ≡ golem_of files root)
    follows n cs r (Led texts mid front rest is h g) agree = by g.answer
      where
        by : (IsGolem texts r × IsOwnOrOk run_errors r) ⊎ (r ≡ Err bad.Oom) → IsCut run_errors cs r ⊎ (r ≡ golem_of files root)
        by (inl made) = done mid n front rest cs texts r is h (all_of_both (Agrees files) front rest (subst (AllByRecursion (Agrees files)) is agree)).0 made.0
        by (inr memory) = inl (inr memory)
    follows n cs r (Ended e h is) agree = by (refused n cs e h agree)
      where
        by : IsCut run_errors {A = Texts} cs (Err e) ⊎ (Err e ≡ golem_of files root) → IsCut run_errors cs r ⊎ (r ≡ golem_of files root)
        by (inl (inl broke)) = inl (inl broke)
        by (inl (inr memory)) = let m : e ≡ bad.Oom = cc in inl (inr (is ∙ ap Err m))
        by (inr come) = inr (is ∙ come)

    -- the work of such an order
    pub golem_comes : (n : ℕ) (r : Result Bytes Bad) → ComesTo run_errors files (work_by (Ok order)) 0 n r → r ≡ golem_of files root
    golem_comes n r way = by (follows n way.came r way.follows way.agrees)
      where
        by : IsCut run_errors way.came r ⊎ (r ≡ golem_of files root) → r ≡ golem_of files root
        by (inl cut) = absurd (way.uncut cut)
        by (inr come) = come
