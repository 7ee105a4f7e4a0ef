-- Too many paths: tables of folders with the same paths agree on whether one of them has too many.
use Rattle.std.proofs.Common.{◌≡◌, ◌⊎◌, ◌∙◌, ◌<◌, ◌≤◌, ◌+◌, ℕ, drop, get_or, Bool, true, false, ◌||◌, inl, inr, refl, sym, ap, subst, List, [], ◌∷◌, length, if◌then◌else◌, arith, true≢false, Result, Err, Some}
use Rattle.std.specs.Prelude.{IsErrAnd}
use Rattle.std.proofs.lemmas.Bool.{lt-ltb, ltb-true}
use Rattle.ut_base.proofs.ReadingLaws.{exit_is}
use Rattle.ut_text.specs.Bytes.{Bytes}
use Rattle.ut_text.specs.Text.{text_eq}
use Rattle.kbuild_paths.specs.Paths.{Conds, NamedFile, paths_named, with_way}
use Rattle.kbuild_paths.specs.Steps.{with_path, with_paths}
use Rattle.kbuild_paths.specs.declared.step.Step.{Step}
use Rattle.kbuild_folders.specs.declared.bad.KbuildBad.{KbuildBad}
use Rattle.kbuild_folders.specs.declared.bad.KbuildBad.TheVariants as bad
use Rattle.kbuild_folders.specs.declared.texts.TextRead.{TextRead}
use Rattle.kbuild_cond.specs.Adding.{Adds, AddsLeft, AddsOr, FoldersOr, HasFolders, IsShorterFirst}
use Rattle.kbuild_cond.specs.Files.{Naming, Way, folders_named, naming_ways, namings, paths_at, paths_or_none, paths_to, root_folder, steps_to, ways_over, with_ways}
use Rattle.kbuild_cond.specs.Reading.{are_too_many, has_over}
use Rattle.kbuild_cond.proofs.AddingLaws.{item_on, item_out, items_end, longer, or_cases, or_left, or_right}
use Rattle.kbuild_cond.proofs.WayLaws.{named_known, named_ways, sorted_known, turn_known}

-- a list of paths doesn't get shorter
longer_many : (paths more : List (List Step)) → length paths ≤ length (with_paths paths more)
longer_many paths [] = omega arith
longer_many paths (p ∷ ps) = let one = longer paths p in let many = longer_many (with_path paths p) ps in omega (arith, one, many)

-- a file with too many paths is one of the files
over_named : (files : List NamedFile) (name : Bytes) → are_too_many (paths_at files name) ≡ true → has_over files ≡ true
over_named [] name h = absurd (true≢false (sym h))
over_named (f ∷ fs) name h = by (text_eq name f.name) h (over_named fs name)
  where
    by : (b : Bool) → are_too_many (paths_or_none (if b then Some f.paths else paths_named fs name)) ≡ true → (are_too_many (paths_at fs name) ≡ true → has_over fs ≡ true)
        → (are_too_many f.paths || has_over fs) ≡ true
    by true h rest = or_left (are_too_many f.paths) (has_over fs) h
    by false h rest = or_right (are_too_many f.paths) (has_over fs) (rest h)

-- too many after one more way: too many before, or its file has them
over_before : (files : List NamedFile) (n : Bytes) (p : List Step) → has_over (with_way files n p) ≡ true → (has_over files ≡ true) ⊎ (are_too_many (paths_at (with_way files n p) n) ≡ true)
over_before [] n p h = absurd (true≢false (sym h))
over_before (f ∷ fs) n p h = by (text_eq n f.name) refl h (over_before fs n p)
  where
    its : (c : Bool) → text_eq n f.name ≡ c → (paths : List (List Step)) (rest : List NamedFile) → are_too_many (paths_or_none (if c then Some paths else paths_named rest n)) ≡ true
        → are_too_many (paths_at (record f { paths = paths } ∷ rest) n) ≡ true
    its c e paths rest h = ap (λ (t : Bool). are_too_many (paths_or_none (if t then Some paths else paths_named rest n))) e ∙ h

    by : (b : Bool) → text_eq n f.name ≡ b → has_over (if b then record f { paths = with_path f.paths p } ∷ fs else f ∷ with_way fs n p) ≡ true
        → (has_over (with_way fs n p) ≡ true → (has_over fs ≡ true) ⊎ (are_too_many (paths_at (with_way fs n p) n) ≡ true))
        → (has_over (f ∷ fs) ≡ true) ⊎ (are_too_many (paths_at (if b then record f { paths = with_path f.paths p } ∷ fs else f ∷ with_way fs n p) n) ≡ true)
    by true e h rest = here (or_cases (are_too_many (with_path f.paths p)) (has_over fs) h)
      where
        here : (are_too_many (with_path f.paths p) ≡ true) ⊎ (has_over fs ≡ true)
            → (has_over (f ∷ fs) ≡ true) ⊎ (are_too_many (paths_at (record f { paths = with_path f.paths p } ∷ fs) n) ≡ true)
        here (inl over) = inr (its true e (with_path f.paths p) fs over)
        here (inr over) = inl (or_right (are_too_many f.paths) (has_over fs) over)
    by false e h rest = here (or_cases (are_too_many f.paths) (has_over (with_way fs n p)) h)
      where
        after : (has_over fs ≡ true) ⊎ (are_too_many (paths_at (with_way fs n p) n) ≡ true) → (has_over (f ∷ fs) ≡ true) ⊎ (are_too_many (paths_at (f ∷ with_way fs n p) n) ≡ true)
        after (inl over) = inl (or_right (are_too_many f.paths) (has_over fs) over)
        after (inr over) = inr (its false e f.paths (with_way fs n p) over)

        here : (are_too_many f.paths ≡ true) ⊎ (has_over (with_way fs n p) ≡ true) → (has_over (f ∷ fs) ≡ true) ⊎ (are_too_many (paths_at (f ∷ with_way fs n p) n) ≡ true)
        here (inl over) = inl (or_left (are_too_many f.paths) (has_over fs) over)
        here (inr over) = after (rest over)

-- a file that has too many paths
abbrev IsOver : List NamedFile → Type 0
IsOver files = (name : Bytes) × (are_too_many (paths_at files name) ≡ true)

over_found : (files : List NamedFile) (ways : List Way) → has_over (with_ways files ways) ≡ true → (has_over files ≡ true) ⊎ IsOver (with_ways files ways)
over_found files [] h = inl h
over_found files (w ∷ ws) h = by (over_found (with_way files w.to w.steps) ws h)
  where
    here : List NamedFile
    here = with_way files w.to w.steps

    stays : are_too_many (paths_at here w.to) ≡ true → are_too_many (paths_at (with_ways here ws) w.to) ≡ true
    stays over =
        let many = ltb-true 1024 (length (paths_at here w.to)) over in
        let more = longer_many (paths_at here w.to) (steps_to w.to ws) in
        ap are_too_many (named_ways ws here w.to)
        ∙ lt-ltb 1024 (length (with_paths (paths_at here w.to) (steps_to w.to ws))) (omega (arith, many, more))

    at_first : (has_over files ≡ true) ⊎ (are_too_many (paths_at here w.to) ≡ true) → (has_over files ≡ true) ⊎ IsOver (with_ways here ws)
    at_first (inl over) = inl over
    at_first (inr over) = inr (w.to, stays over)

    by : (has_over here ≡ true) ⊎ IsOver (with_ways here ws) → (has_over files ≡ true) ⊎ IsOver (with_ways here ws)
    by (inl over) = at_first (over_before files w.to w.steps over)
    by (inr found) = inr found

-- the same paths, the same answer
same_over : (xs ys : List Way) → ((name : Bytes) → paths_at (with_ways root_folder xs) name ≡ paths_at (with_ways root_folder ys) name) → has_over (with_ways root_folder xs) ≡ true
    → has_over (with_ways root_folder ys) ≡ true
same_over xs ys same h = by (over_found root_folder xs h)
  where
    by : (has_over root_folder ≡ true) ⊎ IsOver (with_ways root_folder xs) → has_over (with_ways root_folder ys) ≡ true
    by (inl over) = absurd (true≢false (sym over))
    by (inr found) = over_named (with_ways root_folder ys) found.0 (ap are_too_many (sym (same found.0)) ∙ found.1)

module _ (base : Bytes) (texts : List TextRead) (sorted : List Naming) (order : IsShorterFirst (namings base texts) sorted) where
  abbrev ways : List Way
  ways = ways_over (paths_to base texts) sorted

  same_paths : (name : Bytes) → paths_at (with_ways root_folder ways) name ≡ paths_at (folders_named base texts) name
  same_paths name = sorted_known base texts sorted order name ∙ sym (named_known base texts name)

  over_too : has_over (with_ways root_folder ways) ≡ true → has_over (folders_named base texts) ≡ true
  over_too = same_over ways (ways_over (paths_to base texts) (namings base texts)) same_paths

  within_too : has_over (with_ways root_folder ways) ≡ false → has_over (folders_named base texts) ≡ false
  within_too h = by (has_over (folders_named base texts)) refl
    where
      by : (b : Bool) → has_over (folders_named base texts) ≡ b → has_over (folders_named base texts) ≡ false
      by true e = absurd (true≢false (sym (same_over (ways_over (paths_to base texts) (namings base texts)) ways (λ name. sym (same_paths name)) e) ∙ h))
      by false e = e

  -- the folder of the root text alone
  abbrev start : Conds
  start = record { folder = []; files = root_folder }

  abbrev by_word : Naming → List Way
  by_word naming = naming_ways (paths_to base texts naming.from) naming

  as_folders : (other : Conds) (e : KbuildBad) → AddsOr ways start (Err e) other → FoldersOr base texts (Err e)
  as_folders other bad.Oom out = tt
  as_folders other (bad.TooLarge what count) out = (out.0, out.1, over_too out.2)
  as_folders other (bad.Syntax file line) out = absurd out
  as_folders other (bad.Missing file) out = absurd out
  as_folders other (bad.ReadFault file) out = absurd out

  module _ (k : ℕ) (here : Conds) (left : AddsLeft ways start (ways_over (paths_to base texts) (drop k sorted)) here) where
    -- after the last word
    pub folders_come : length sorted ≤ k → HasFolders base texts here
    folders_come done =
        let added = items_end by_word sorted k ways start here done left in
        record {
          known = λ name. ap (λ f. paths_at f name) added.files ∙ sorted_known base texts sorted order name;
          within = within_too (sym (ap has_over added.files) ∙ added.within refl);
        }

    module _ (naming : Naming) (lt : k < length sorted) (at : naming ≡ get_or sorted k naming) (new : Conds) where
      known : paths_at here.files naming.from ≡ paths_to base texts naming.from
      known = turn_known base texts sorted order k naming lt at start here refl left

      -- past a word
      pub folders_on : Adds (naming_ways (paths_at here.files naming.from) naming) here new → AddsLeft ways start (ways_over (paths_to base texts) (drop (k + 1) sorted)) new
      folders_on added = item_on by_word sorted k ways start here naming lt at new left (subst (λ p. Adds (naming_ways p naming) here new) known added)

      -- out by a word's refusal
      pub folders_out : (e : KbuildBad) (r : Result Conds KbuildBad) → IsErrAnd r (λ y. y ≡ e) → AddsOr (naming_ways (paths_at here.files naming.from) naming) here (Err e) new → FoldersOr base texts r
      folders_out e r err out =
          let all = item_out by_word sorted k ways start here naming lt at new new e (Err e) refl left (subst (λ p. AddsOr (naming_ways p naming) here (Err e) new) known out) in
          subst (FoldersOr base texts) (sym (exit_is err)) (as_folders new e all)
