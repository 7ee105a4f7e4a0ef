-- What the texts come to, from the paths to folders and those to files.
use Rattle.std.proofs.Common.{◌≡◌, ◌⊎◌, ◌∙◌, ◌+◌, ◌||◌, ℕ, Bool, true, false, inl, inr, refl, sym, subst, ap, List, [], ◌∷◌, ◌++◌, Result, Ok, Err, if◌then◌else◌}
use Rattle.std.specs.List.{flat_map}
use Rattle.ut_text.specs.Bytes.{Bytes}
use Rattle.std.specs.Prelude.{IsErrAnd}
use Rattle.ut_base.specs.Names.{folder_of}
use Rattle.ut_base.specs.Plans.{◌then◌, of_result, plan}
use Rattle.ut_base.specs.Reading.{IsOwnOrOk, Reads, Stand}
use Rattle.ut_base.proofs.PlanLaws.{reads_joined, reads_result}
use Rattle.ut_base.proofs.ReadingLaws.{exit_is, reads_exit, reads_then}
use Rattle.ut_base.specs.declared.limits.Limit.{Limit}
use Rattle.ut_base.specs.declared.limits.Limit.TheVariants as limit
use Rattle.kbuild_paths.specs.Paths.{Conds}
use Rattle.kbuild_folders.specs.Errors.{kbuild_errors}
use Rattle.kbuild_folders.specs.Folders.{texts_plan}
use Rattle.kbuild_folders.specs.declared.bad.KbuildBad.{KbuildBad}
use Rattle.kbuild_folders.specs.declared.bad.KbuildBad.TheVariants as bad
use Rattle.kbuild_folders.specs.declared.texts.TextRead.{TextRead}
use Rattle.kbuild_cond.specs.Adding.{FilesOr, FoldersOr, HasFolders}
use Rattle.kbuild_cond.specs.Files.{files_by, files_named, paths_at, paths_to, text_ways, with_ways}
use Rattle.kbuild_cond.specs.Reading.{conds_of, has_over, has_too_many, kbuild_plan, most_paths, over_limit}

module _ (base : Bytes) (texts : List TextRead) where
  -- the files by the paths of all folders are those that texts name
  files_same : (folders : Conds) → HasFolders base texts folders → files_by base folders.files texts ≡ files_named base texts
  files_same folders has = ap (with_ways []) (each texts)
    where
      each : (ts : List TextRead) → flat_map (λ text. text_ways base (paths_at folders.files text.folder) text) ts ≡ flat_map (λ text. text_ways base (paths_to base texts text.folder) text) ts
      each [] = refl
      each (t ∷ ts) = λ i. text_ways base (has.known t.folder i) t ++ each ts i

  over_is : (what : Limit) (count : ℕ) → what ≡ limit.Paths → count ≡ most_paths + 1 → bad.TooLarge what count ≡ over_limit
  over_is what count w n = λ i. bad.TooLarge (w i) (n i)

  -- too many paths to a folder
  folders_over : (e : KbuildBad) → FoldersOr base texts (Err e) → (◌≡◌ {A = Result Conds KbuildBad} (Err e) (conds_of base texts)) ⊎ (e ≡ bad.Oom)
  folders_over bad.Oom out = inr refl
  folders_over (bad.TooLarge what count) out =
      inl (ap Err (over_is what count out.0 out.1) ∙ sym (ap (λ b. if b || has_over (files_named base texts) then Err over_limit else Ok (record { folder = base; files = files_named base texts })) out.2))
  folders_over (bad.Syntax file line) out = absurd out
  folders_over (bad.Missing file) out = absurd out
  folders_over (bad.ReadFault file) out = absurd out

  pub folders_out : (e : KbuildBad) (r : Result Conds KbuildBad) → IsErrAnd r (λ y. y ≡ e) → FoldersOr base texts (Err e) → (r ≡ conds_of base texts) ⊎ (r ≡ Err bad.Oom)
  folders_out e r is out = by (folders_over e out)
    where
      by : (◌≡◌ {A = Result Conds KbuildBad} (Err e) (conds_of base texts)) ⊎ (e ≡ bad.Oom) → (r ≡ conds_of base texts) ⊎ (r ≡ Err bad.Oom)
      by (inl same) = inl (exit_is is ∙ same)
      by (inr lacks) = inr (exit_is is ∙ ap Err lacks)

  -- the files, or too many paths to one
  pub files_come : (folders : Conds) (r : Result Conds KbuildBad) → HasFolders base texts folders → FilesOr base (files_by base folders.files texts) r
      → (r ≡ conds_of base texts) ⊎ (r ≡ Err bad.Oom)
  files_come folders r known come = by r come
    where
      same : files_by base folders.files texts ≡ files_named base texts
      same = files_same folders known

      decided : (b : Bool) → has_over (files_by base folders.files texts) ≡ b → has_too_many base texts ≡ b
      decided b e = ap (λ o. o || has_over (files_named base texts)) known.within ∙ (ap has_over (sym same) ∙ e)

      ends : (b : Bool) → has_too_many base texts ≡ b → conds_of base texts ≡ (if b then Err over_limit else Ok (record { folder = base; files = files_named base texts }))
      ends b e = ap (λ o. if o then Err over_limit else Ok (record { folder = base; files = files_named base texts })) e

      by : (r : Result Conds KbuildBad) → FilesOr base (files_by base folders.files texts) r → (r ≡ conds_of base texts) ⊎ (r ≡ Err bad.Oom)
      by (Ok conds) come = inl (ap Ok (come.0 ∙ ap (λ f. record { folder = base; files = f }) same) ∙ sym (ends false (decided false come.1)))
      by (Err bad.Oom) come = inr refl
      by (Err (bad.TooLarge what count)) come = inl (ap Err (over_is what count come.0 come.1) ∙ sym (ends true (decided true come.2)))
      by (Err (bad.Syntax file line)) come = absurd come
      by (Err (bad.Missing file)) come = absurd come
      by (Err (bad.ReadFault file)) come = absurd come

  -- it is a value, or a refusal for what the texts say
  pub conds_own : IsOwnOrOk kbuild_errors (conds_of base texts)
  conds_own = by (has_too_many base texts)
    where
      by : (b : Bool) → IsOwnOrOk kbuild_errors {A = Conds} (if b then Err over_limit else Ok (record { folder = base; files = files_named base texts }))
      by true = refl
      by false = tt

-- ---- reading all of it

module _ (root base : Bytes) (is : base ≡ folder_of root) where
  as_kbuild : {a b : Stand} {u n : ℕ} {r : Result Conds KbuildBad} → Reads (plan kbuild_errors (texts_plan root base then λ texts. of_result (conds_of base texts))) a b u n r
      → Reads (plan kbuild_errors (kbuild_plan root)) a b u n r
  as_kbuild {a = a} {b = b} {u = u} {n = n} {r = r} h = subst (λ d. Reads (plan kbuild_errors (texts_plan root d then λ texts. of_result (conds_of d texts))) a b u n r) is h

  -- the texts, and what they come to
  pub reads_kbuild : {a b : Stand} {u n : ℕ} {r : Result Conds KbuildBad} (texts : List TextRead) → Reads (plan kbuild_errors (texts_plan root base)) a b u n (Ok texts)
      → (r ≡ conds_of base texts) ⊎ (r ≡ Err bad.Oom) → Reads (plan kbuild_errors (kbuild_plan root)) a b u n r
  reads_kbuild texts h come =
      as_kbuild (reads_joined kbuild_errors (λ ts. of_result (conds_of base ts)) (texts_plan root base) (reads_then h (reads_result kbuild_errors (conds_of base texts) (conds_own base texts) come)))

  -- or a refusal on the way
  pub reads_refused : {a b : Stand} {u n : ℕ} {r : Result Conds KbuildBad} {e : KbuildBad} → IsErrAnd r (λ y. y ≡ e) → Reads {A = List TextRead} (plan kbuild_errors (texts_plan root base)) a b u n (Err e)
      → Reads (plan kbuild_errors (kbuild_plan root)) a b u n r
  reads_refused out h = as_kbuild (reads_joined kbuild_errors (λ ts. of_result (conds_of base ts)) (texts_plan root base) (reads_exit out h))
