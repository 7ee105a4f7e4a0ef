-- Ways added one after another: a file with too many paths keeps them.
use Rattle.std.proofs.Common.{◌≡◌, ◌⊎◌, ◌∙◌, ◌<◌, ◌≤◌, ◌+◌, ℕ, Bool, true, false, ◌||◌, inl, inr, refl, sym, ap, subst, List, [], ◌∷◌, ◌++◌, length, drop, get_or, nat_lt, if◌then◌else◌, arith, true≢false, Result, Ok, Err}
use Rattle.std.specs.List.{flat_map, list_any}
use Rattle.std.proofs.lemmas.Bool.{le-ltb, lt-ltb, ltb-true, ltb-false}
use Rattle.kbuild_files.specs.Tables.{count_of}
use Rattle.std.proofs.lemmas.List.{drop_all, length_push}
use Rattle.ut_text.specs.Bytes.{Bytes}
use Rattle.ut_text.specs.Text.{text_eq}
use Rattle.kbuild_paths.specs.Paths.{Conds, NamedFile, with_way}
use Rattle.kbuild_paths.specs.Steps.{path_eq, with_path}
use Rattle.kbuild_paths.specs.declared.step.Step.{Step}
use Rattle.kbuild_cond.specs.Adding.{Adds, AddsLeft, AddsOr, FilesOr}
use Rattle.kbuild_cond.specs.Files.{Way, with_ways}
use Rattle.kbuild_cond.specs.Reading.{are_too_many, has_over, over_limit}
use Rattle.kbuild_folders.specs.declared.bad.KbuildBad.{KbuildBad}
use Rattle.kbuild_folders.specs.declared.bad.KbuildBad.TheVariants as bad
use Rattle.ut_base.proofs.ReadingLaws.{exit_is, first_left}
use Rattle.std.specs.Prelude.{IsErrAnd}

pub or_cases : (a b : Bool) → (a || b) ≡ true → (a ≡ true) ⊎ (b ≡ true)
or_cases true b h = inl refl
or_cases false b h = inr h

pub or_left : (a b : Bool) → a ≡ true → (a || b) ≡ true
or_left true b h = refl
or_left false b h = absurd (true≢false (sym h))

pub or_right : (a b : Bool) → b ≡ true → (a || b) ≡ true
or_right true b h = refl
or_right false b h = h

-- a list of paths doesn't get shorter
pub longer : (paths : List (List Step)) (p : List Step) → length paths ≤ length (with_path paths p)
longer paths p = by (list_any (path_eq p) paths)
  where
    by : (b : Bool) → length paths ≤ length (if b then paths else paths ++ p ∷ [])
    by true = omega arith
    by false = omega (arith, length_push paths p)

over_path : (paths : List (List Step)) (p : List Step) → are_too_many paths ≡ true → are_too_many (with_path paths p) ≡ true
over_path paths p h = let more = longer paths p in let many = ltb-true 1024 (length paths) h in lt-ltb 1024 (length (with_path paths p)) (omega (arith, more, many))

-- too many stays too many
pub over_way : (files : List NamedFile) (n : Bytes) (p : List Step) → has_over files ≡ true → has_over (with_way files n p) ≡ true
over_way [] n p h = absurd (true≢false (sym h))
over_way (f ∷ fs) n p h = by (text_eq n f.name) (or_cases (are_too_many f.paths) (has_over fs) h) (over_way fs n p)
  where
    by : (b : Bool) → (are_too_many f.paths ≡ true) ⊎ (has_over fs ≡ true) → (has_over fs ≡ true → has_over (with_way fs n p) ≡ true)
        → has_over (if b then record f { paths = with_path f.paths p } ∷ fs else f ∷ with_way fs n p) ≡ true
    by true (inl h) rest = or_left (are_too_many (with_path f.paths p)) (has_over fs) (over_path f.paths p h)
    by true (inr h) rest = or_right (are_too_many (with_path f.paths p)) (has_over fs) h
    by false (inl h) rest = or_left (are_too_many f.paths) (has_over (with_way fs n p)) h
    by false (inr h) rest = or_right (are_too_many f.paths) (has_over (with_way fs n p)) (rest h)

pub over_ways : (files : List NamedFile) (ways : List Way) → has_over files ≡ true → has_over (with_ways files ways) ≡ true
over_ways files [] h = h
over_ways files (w ∷ ws) h = over_ways (with_way files w.to w.steps) ws (over_way files w.to w.steps h)

pub with_ways-append : (files : List NamedFile) (xs ys : List Way) → with_ways files (xs ++ ys) ≡ with_ways (with_ways files xs) ys
with_ways-append files [] ys = refl
with_ways-append files (x ∷ xs) ys = with_ways-append (with_way files x.to x.steps) xs ys

-- ways, and then more ways
pub adds_none : (c : Conds) → Adds [] c c
adds_none c = record { files = refl; folder = refl; within = λ h. h }

pub adds_then : (xs ys : List Way) (a b c : Conds) → Adds xs a b → Adds ys b c → Adds (xs ++ ys) a c
adds_then xs ys a b c h g = record {
  files = g.files ∙ (ap (λ f. with_ways f ys) h.files ∙ sym (with_ways-append a.files xs ys));
  folder = g.folder ∙ h.folder;
  within = λ w. g.within (h.within w);
}

-- too many by more ways is too many by all
pub over_then : (xs ys : List Way) (a b : Conds) → Adds xs a b → has_over (with_ways b.files ys) ≡ true → has_over (with_ways a.files (xs ++ ys)) ≡ true
over_then xs ys a b h over = ap has_over (with_ways-append a.files xs ys ∙ ap (λ f. with_ways f ys) (sym h.files)) ∙ over

pub over_front : (xs ys : List Way) (a : Conds) → has_over (with_ways a.files xs) ≡ true → has_over (with_ways a.files (xs ++ ys)) ≡ true
over_front xs ys a over = ap has_over (with_ways-append a.files xs ys) ∙ over_ways (with_ways a.files xs) ys over

-- ---- one way, and the number of paths that its file has then

or_false : (a b : Bool) → (a || b) ≡ false → (a ≡ false) × (b ≡ false)
or_false true b h = absurd (true≢false h)
or_false false b h = (refl, h)

both_false : (a b : Bool) → a ≡ false → b ≡ false → (a || b) ≡ false
both_false true b h g = absurd (true≢false h)
both_false false b h g = g

module _ (n : Bytes) (p : List Step) where
  over_count : (files : List NamedFile) → 1024 < count_of (with_way files n p) n → has_over (with_way files n p) ≡ true
  over_count [] lt = absurd (by (text_eq n n) lt)
    where
      by : (b : Bool) → 1024 < (if b then length (p ∷ []) else 0) → ⊥
      by true h = let one : length (p ∷ []) ≡ 1 = refl in omega (arith, h, one)
      by false h = omega (arith, h)
  over_count (f ∷ fs) lt = by (text_eq n f.name) refl lt (over_count fs)
    where
      by : (b : Bool) → text_eq n f.name ≡ b → 1024 < count_of (if b then record f { paths = with_path f.paths p } ∷ fs else f ∷ with_way fs n p) n
          → (1024 < count_of (with_way fs n p) n → has_over (with_way fs n p) ≡ true) → has_over (if b then record f { paths = with_path f.paths p } ∷ fs else f ∷ with_way fs n p) ≡ true
      by true e h rest =
          or_left (are_too_many (with_path f.paths p)) (has_over fs)
          (lt-ltb 1024 (length (with_path f.paths p)) (subst (λ b. 1024 < (if b then length (with_path f.paths p) else count_of fs n)) e h))
      by false e h rest = or_right (are_too_many f.paths) (has_over (with_way fs n p)) (rest (subst (λ b. 1024 < (if b then length f.paths else count_of (with_way fs n p) n)) e h))

  within_count : (files : List NamedFile) → count_of (with_way files n p) n ≤ 1024 → has_over files ≡ false → has_over (with_way files n p) ≡ false
  within_count [] le h = refl
  within_count (f ∷ fs) le h = by (text_eq n f.name) refl le (or_false (are_too_many f.paths) (has_over fs) h) (within_count fs)
    where
      by : (b : Bool) → text_eq n f.name ≡ b → count_of (if b then record f { paths = with_path f.paths p } ∷ fs else f ∷ with_way fs n p) n ≤ 1024
          → (are_too_many f.paths ≡ false) × (has_over fs ≡ false) → (count_of (with_way fs n p) n ≤ 1024 → has_over fs ≡ false → has_over (with_way fs n p) ≡ false)
          → has_over (if b then record f { paths = with_path f.paths p } ∷ fs else f ∷ with_way fs n p) ≡ false
      by true e le h rest =
          both_false (are_too_many (with_path f.paths p)) (has_over fs)
          (le-ltb 1024 (length (with_path f.paths p)) (subst (λ b. (if b then length (with_path f.paths p) else count_of fs n) ≤ 1024) e le)) h.1
      by false e le h rest =
          both_false (are_too_many f.paths) (has_over (with_way fs n p)) h.0
          (rest (subst (λ b. (if b then length f.paths else count_of (with_way fs n p) n) ≤ 1024) e le) h.1)

  -- one way is added, or its file has too many paths then, or memory is wanting
  pub way_added : (old new : Conds) (count : ℕ) (over : Bool) → new ≡ record old { files = with_way old.files n p } → count ≡ count_of new.files n → over ≡ nat_lt 1024 count → over ≡ false
      → Adds (record { to = n; steps = p } ∷ []) old new
  way_added old new count over is counted test not =
      let files : new.files ≡ with_way old.files n p = ap (λ (c : Conds). c.files) is in
      let le = ltb-false 1024 count (sym test ∙ not) in
      record {
        files = files;
        folder = ap (λ (c : Conds). c.folder) is;
        within = λ h. ap has_over files ∙ within_count old.files (omega (arith, counted, ap (λ f. count_of f n) files, le)) h;
      }

  pub way_over : (old new other : Conds) (count : ℕ) (over : Bool) (e : KbuildBad) → e ≡ over_limit → new ≡ record old { files = with_way old.files n p } → count ≡ count_of new.files n
      → over ≡ nat_lt 1024 count → over ≡ true → AddsOr (record { to = n; steps = p } ∷ []) old (Err e) other
  way_over old new other count over e limited is counted test holds =
      let lt = ltb-true 1024 count (sym test ∙ holds) in
      let many = over_count old.files (omega (arith, counted, ap (λ (c : Conds). count_of c.files n) is, lt)) in
      let out : AddsOr (record { to = n; steps = p } ∷ []) old (Err over_limit) other = (refl, refl, many) in
      subst (λ x. AddsOr (record { to = n; steps = p } ∷ []) old (Err x) other) (sym limited) out

  pub way_lacks : (old new : Conds) (r : Result (Unit {0}) KbuildBad) → IsErrAnd r (λ y. y ≡ bad.Oom) → AddsOr (record { to = n; steps = p } ∷ []) old r new
  way_lacks old new r is = subst (λ q. AddsOr (record { to = n; steps = p } ∷ []) old q new) (sym (exit_is is)) tt

-- ---- in a loop

pub left_start : (ways : List Way) (c : Conds) → AddsLeft ways c ways c
left_start ways c = record { same = refl; folder = refl; within = λ h. h }

-- the same where the files are known to be these
pub left_from : (ways : List Way) (start here : Conds) → here ≡ start → AddsLeft ways start ways here
left_from ways start here is = subst (AddsLeft ways start ways) (sym is) (left_start ways start)

pub left_on : {whole : List Way} {start here new : Conds} (xs ys : List Way) → AddsLeft whole start (xs ++ ys) here → Adds xs here new → AddsLeft whole start ys new
left_on {here = here} xs ys led added = record {
  same = ap (λ f. with_ways f ys) added.files ∙ (sym (with_ways-append here.files xs ys) ∙ led.same);
  folder = added.folder ∙ led.folder;
  within = λ h. added.within (led.within h);
}

pub left_end : {whole : List Way} {start here : Conds} → AddsLeft whole start [] here → Adds whole start here
left_end led = record { files = led.same; folder = led.folder; within = led.within }

left_out : (whole xs ys : List Way) (start here new other : Conds) (e : KbuildBad) → AddsLeft whole start (xs ++ ys) here → AddsOr xs here (Err e) new → AddsOr whole start (Err e) other
left_out whole xs ys start here new other bad.Oom led out = tt
left_out whole xs ys start here new other (bad.TooLarge what count) led out = (out.0, out.1, ap has_over (sym led.same) ∙ over_front xs ys here out.2)
left_out whole xs ys start here new other (bad.Syntax file line) led out = absurd out
left_out whole xs ys start here new other (bad.Missing file) led out = absurd out
left_out whole xs ys start here new other (bad.ReadFault file) led out = absurd out

-- out of it by `?`
pub loop_out : (whole xs ys : List Way) (start here new other : Conds) (e : KbuildBad) (r : Result (Unit {0}) KbuildBad) → IsErrAnd r (λ y. y ≡ e) → AddsLeft whole start (xs ++ ys) here
    → AddsOr xs here (Err e) new → AddsOr whole start r other
loop_out whole xs ys start here new other e r is led out = subst (λ q. AddsOr whole start q other) (sym (exit_is is)) (left_out whole xs ys start here new other e led out)

-- out by want of memory
pub lacks_out : (ways : List Way) (old new : Conds) (r : Result (Unit {0}) KbuildBad) → IsErrAnd r (λ y. y ≡ bad.Oom) → AddsOr ways old r new
lacks_out ways old new r is = subst (λ q. AddsOr ways old q new) (sym (exit_is is)) tt

as_files : (base : Bytes) (ways : List Way) (start other : Conds) (files : List NamedFile) (e : KbuildBad) → with_ways start.files ways ≡ files → AddsOr ways start (Err e) other → FilesOr base files (Err e)
as_files base ways start other files bad.Oom is out = tt
as_files base ways start other files (bad.TooLarge what count) is out = (out.0, out.1, ap has_over (sym is) ∙ out.2)
as_files base ways start other files (bad.Syntax file line) is out = absurd out
as_files base ways start other files (bad.Missing file) is out = absurd out
as_files base ways start other files (bad.ReadFault file) is out = absurd out

module _ {X : Type 0} (f : X → List Way) (xs : List X) (i : ℕ) (whole : List Way) (start here : Conds) where
  module _ (x : X) (lt : i < length xs) (at : x ≡ get_or xs i x) where
    at_item : AddsLeft whole start (flat_map f (drop i xs)) here → AddsLeft whole start (f x ++ flat_map f (drop (i + 1) xs)) here
    at_item led = subst (λ l. AddsLeft whole start (flat_map f l) here) (first_left xs i x lt at) led

    -- past an item
    pub item_on : (new : Conds) → AddsLeft whole start (flat_map f (drop i xs)) here → Adds (f x) here new → AddsLeft whole start (flat_map f (drop (i + 1) xs)) new
    item_on new led added = left_on (f x) (flat_map f (drop (i + 1) xs)) (at_item led) added

    -- out by an item's refusal
    pub item_out : (new other : Conds) (e : KbuildBad) (r : Result (Unit {0}) KbuildBad) → IsErrAnd r (λ y. y ≡ e) → AddsLeft whole start (flat_map f (drop i xs)) here
        → AddsOr (f x) here (Err e) new → AddsOr whole start r other
    item_out new other e r is led out = loop_out whole (f x) (flat_map f (drop (i + 1) xs)) start here new other e r is (at_item led) out

    -- the same for the files from none on
    pub item_files : (base : Bytes) (new : Conds) (e : KbuildBad) (r : Result Conds KbuildBad) → start ≡ record { folder = base; files = [] } → IsErrAnd r (λ y. y ≡ e)
        → AddsLeft whole start (flat_map f (drop i xs)) here → AddsOr (f x) here (Err e) new → FilesOr base (with_ways [] whole) r
    item_files base new e r none is led out =
        subst (FilesOr base (with_ways [] whole)) (sym (exit_is is))
        (as_files base whole start new (with_ways [] whole) e (ap (λ (c : Conds). with_ways c.files whole) none)
        (left_out whole (f x) (flat_map f (drop (i + 1) xs)) start here new new e (at_item led) out))

  -- after the last item
  pub items_end : length xs ≤ i → AddsLeft whole start (flat_map f (drop i xs)) here → Adds whole start here
  items_end done led = left_end (subst (λ l. AddsLeft whole start (flat_map f l) here) (drop_all i xs done) led)

-- ---- from no file on

pub files_end : (base : Bytes) (ways : List Way) (here : Conds) → Adds ways (record { folder = base; files = [] }) here → FilesOr base (with_ways [] ways) (Ok here)
files_end base ways here added = ((λ i. record { folder = added.folder i; files = added.files i }), ap has_over (sym added.files) ∙ added.within refl)

pub files_lack : (base : Bytes) (files : List NamedFile) (r : Result Conds KbuildBad) → IsErrAnd r (λ y. y ≡ bad.Oom) → FilesOr base files r
files_lack base files r is = subst (FilesOr base files) (sym (exit_is is)) tt

-- some of the ways, and more after them
pub files_over : (base : Bytes) (xs ys : List Way) (start new : Conds) (files : List NamedFile) (e : KbuildBad) (r : Result Conds KbuildBad) → IsErrAnd r (λ y. y ≡ e)
    → with_ways start.files (xs ++ ys) ≡ files → AddsOr xs start (Err e) new → FilesOr base files r
files_over base xs ys start new files e r is all out =
    subst (FilesOr base files) (sym (exit_is is))
    (as_files base (xs ++ ys) start new files e all (left_out (xs ++ ys) xs ys start start new new e (left_start (xs ++ ys) start) out))

-- ---- items one after another, without a limit

module _ {X : Type 0} (f : X → List Way) (xs : List X) (i : ℕ) (x : X) (lt : i < length xs) (at : x ≡ get_or xs i x) (here new whole : List NamedFile) where
  pub ways_more : new ≡ with_ways here (f x) → with_ways here (flat_map f (drop i xs)) ≡ whole → with_ways new (flat_map f (drop (i + 1) xs)) ≡ whole
  ways_more is all =
      ap (λ n. with_ways n (flat_map f (drop (i + 1) xs))) is
      ∙ (sym (with_ways-append here (f x) (flat_map f (drop (i + 1) xs))) ∙ (ap (λ l. with_ways here (flat_map f l)) (sym (first_left xs i x lt at)) ∙ all))

pub ways_done : {X : Type 0} (f : X → List Way) (xs : List X) (i : ℕ) (here whole : List NamedFile) → length xs ≤ i → with_ways here (flat_map f (drop i xs)) ≡ whole → here ≡ whole
ways_done f xs i here whole done all = ap (λ l. with_ways here (flat_map f l)) (sym (drop_all i xs done)) ∙ all
