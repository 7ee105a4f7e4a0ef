-- Which file a source belongs to: at most one.
use Rattle.std.proofs.Common.{◌≡◌, ◌⊎◌, ◌∙◌, ◌+◌, ℕ, Bool, true, false, ◌||◌, inl, inr, refl, sym, ap, subst, List, [], ◌∷◌, ◌++◌, codes, append_assoc, Vec, Option, None, Some, cond, not, suc, length, get_or, set, nat_lt, ◌<◌, ◌≤◌, if◌then◌else◌, arith, true≢false}
use Rattle.std.specs.Bool.{Decides, one_answer}
use Rattle.std.specs.List.{list_any, position_or_len}
use Rattle.std.proofs.lemmas.Bool.{ltb-true, ltb-false}
use Rattle.std.specs.declared.alloc.Global.{Global}
use Rattle.std.proofs.lemmas.List.{append_cancel_left, append_cancel_right, same_from_push}
use Rattle.ut_text.specs.Bytes.{Bytes}
use Rattle.ut_text.specs.Text.{text_eq, text_equiv, text_eq-exact}
use Rattle.kbuild_paths.specs.Paths.{Conds, NamedFile, IsSourceOf, is_source, paths_named, paths_of, paths_where, with_way}
use Rattle.kbuild_files.specs.Tables.{IsPlace, PushesFile, count_of, files_of, or_always, place_in}
use Rattle.kbuild_paths.specs.Steps.{with_path}
use Rattle.kbuild_paths.specs.declared.step.Step.{Step}
use Rattle.kbuild_paths.specs.declared.path.FileCond.{FileCond}

pub text_decides : (x y : Bytes) → Decides (text_eq x y) (x ≡ y)
text_decides x y = (text_eq-exact x y, λ e. subst (λ z. text_eq x z ≡ true) e (text_equiv.refl x))

either_decides : {P Q : Type 0} (a b : Bool) → Decides a P → Decides b Q → Decides (a || b) (P ⊎ Q)
either_decides true b da db = ((λ h. inl (da.0 refl)), (λ e. refl))
either_decides {P} {Q} false b da db = ((λ h. inr (db.0 h)), by)
  where
    by : P ⊎ Q → b ≡ true
    by (inl p) = absurd (true≢false (sym (da.1 p)))
    by (inr q) = db.1 q

-- the test says just this
pub source_decides : (file source : Bytes) → Decides (is_source file source) (IsSourceOf file source)
source_decides file source = either_decides _ _ (text_decides source (file ++ codes ".c")) (text_decides source (file ++ codes ".S"))

-- the two endings differ
no_both : (a b s : Bytes) → s ≡ a ++ codes ".c" → s ≡ b ++ codes ".S" → ⊥
no_both a b s p q =
    let e : (a ++ 46 ∷ []) ++ 99 ∷ [] ≡ (b ++ 46 ∷ []) ++ 83 ∷ [] = append_assoc a (46 ∷ []) (99 ∷ []) ∙ (sym p ∙ (q ∙ sym (append_assoc b (46 ∷ []) (83 ∷ [])))) in
    let last : 99 ≡ 83 = (same_from_push (a ++ 46 ∷ []) (b ++ 46 ∷ []) 99 83 e).1 in omega (arith, last)

-- a source belongs to one file
pub one_file : (a b s : Bytes) → IsSourceOf a s → IsSourceOf b s → a ≡ b
one_file a b s (inl p) (inl q) = append_cancel_right a b (codes ".c") (sym p ∙ q)
one_file a b s (inr p) (inr q) = append_cancel_right a b (codes ".S") (sym p ∙ q)
one_file a b s (inl p) (inr q) = absurd (no_both a b s p q)
one_file a b s (inr p) (inl q) = absurd (no_both b a s q p)

-- in a folder
pub in_folder : (folder path file : Bytes) → IsSourceOf file path → IsSourceOf (folder ++ file) (folder ++ path)
in_folder folder path file (inl p) = inl (ap (λ l. folder ++ l) p ∙ sym (append_assoc folder file (codes ".c")))
in_folder folder path file (inr p) = inr (ap (λ l. folder ++ l) p ∙ sym (append_assoc folder file (codes ".S")))

pub out_of_folder : (folder path file : Bytes) → IsSourceOf (folder ++ file) (folder ++ path) → IsSourceOf file path
out_of_folder folder path file (inl p) = inl (append_cancel_left folder path (file ++ codes ".c") (p ∙ append_assoc folder file (codes ".c")))
out_of_folder folder path file (inr p) = inr (append_cancel_left folder path (file ++ codes ".S") (p ∙ append_assoc folder file (codes ".S")))

-- outside of the folder
pub not_in_folder : (folder file source : Bytes) → ((rest : Bytes) → ¬ (source ≡ folder ++ rest)) → ¬ IsSourceOf (folder ++ file) source
not_in_folder folder file source none (inl p) = none (file ++ codes ".c") (p ∙ append_assoc folder file (codes ".c"))
not_in_folder folder file source none (inr p) = none (file ++ codes ".S") (p ∙ append_assoc folder file (codes ".S"))

-- ---- the paths of a file in a table

-- where no name passes
pub where_none : (is : Bytes → Bool) → ((name : Bytes) → is name ≡ false) → (files : List NamedFile) → paths_where is files ≡ [] ∷ []
where_none is none_passes [] = refl
where_none is none_passes (f ∷ fs) = ap (λ b. cond b f.paths (paths_where is fs)) (none_passes f.name) ∙ where_none is none_passes fs

-- where a name passes just where it is the one of a file
pub where_named : (is : Bytes → Bool) (name : Bytes) → ((n : Bytes) → is n ≡ text_eq name n) → (files : List NamedFile) → paths_where is files ≡ or_always (paths_named files name)
where_named is name same [] = refl
where_named is name same (f ∷ fs) = ap (λ b. cond b f.paths (paths_where is fs)) (same f.name) ∙ by (text_eq name f.name) (where_named is name same fs)
  where
    by : (b : Bool) → paths_where is fs ≡ or_always (paths_named fs name) → cond b f.paths (paths_where is fs) ≡ or_always (cond b (Some f.paths) (paths_named fs name))
    by true rest = refl
    by false rest = rest

-- a file in two lists of one length
module _ (name : Bytes) where
  pub named_at : (names : List (Vec ℕ Global)) (conds : List FileCond) (d : FileCond) → length conds ≡ length names → place_in names name < length names
      → paths_named (files_of names conds) name ≡ Some (get_or conds (place_in names name) d).paths
  named_at [] conds d e lt = absurd (omega (arith, lt))
  named_at (n ∷ ns) [] d e lt = absurd (omega (arith, e))
  named_at (n ∷ ns) (c ∷ cs) d e lt = by (text_eq name n.items) lt (named_at ns cs d (omega (arith, e)))
    where
      by : (b : Bool) → cond (not b) (1 + place_in ns name) 0 < length (n ∷ ns)
          → (place_in ns name < length ns → paths_named (files_of ns cs) name ≡ Some (get_or cs (place_in ns name) d).paths)
          → cond b (Some c.paths) (paths_named (files_of ns cs) name) ≡ Some (get_or (c ∷ cs) (cond (not b) (1 + place_in ns name) 0) d).paths
      by true lt rest = refl
      by false lt rest = let one : 1 + place_in ns name ≡ suc (place_in ns name) = omega arith in rw one (rest (omega (arith, lt)))

  pub named_absent : (names : List (Vec ℕ Global)) (conds : List FileCond) → length names ≤ place_in names name → paths_named (files_of names conds) name ≡ None
  named_absent [] conds le = refl
  named_absent (n ∷ ns) [] le = refl
  named_absent (n ∷ ns) (c ∷ cs) le = by (text_eq name n.items) le (named_absent ns cs)
    where
      by : (b : Bool) → length (n ∷ ns) ≤ cond (not b) (1 + place_in ns name) 0 → (length ns ≤ place_in ns name → paths_named (files_of ns cs) name ≡ None)
          → cond b (Some c.paths) (paths_named (files_of ns cs) name) ≡ None
      by true le rest = absurd (omega (arith, le))
      by false le rest = rest (omega (arith, le))

-- what a search by place says
pub at_place : (n len i : ℕ) → cond (nat_lt n len) (Some n) None ≡ Some i → (i ≡ n) × (n < len)
at_place n len i = by (nat_lt n len) refl
  where
    by : (b : Bool) → nat_lt n len ≡ b → cond b (Some n) None ≡ Some i → (i ≡ n) × (n < len)
    by true lt e = let same : n ≡ i = cc in (sym same, ltb-true n len lt)
    by false lt e = absurd (cc)

pub no_place : (n len : ℕ) → cond (nat_lt n len) (Some n) None ≡ None → len ≤ n
no_place n len = by (nat_lt n len) refl
  where
    by : (b : Bool) → nat_lt n len ≡ b → cond b (Some n) None ≡ None → len ≤ n
    by true lt e = absurd (cc)
    by false lt e = ltb-false n len lt

-- one more way to a file at its place
module _ (name : Bytes) (path : List Step) where
  pub way_at : (names : List (Vec ℕ Global)) (conds : List FileCond) (d c : FileCond) → length conds ≡ length names → place_in names name < length names
      → c.paths ≡ with_path (get_or conds (place_in names name) d).paths path → files_of names (set conds (place_in names name) c) ≡ with_way (files_of names conds) name path
  way_at [] conds d c e lt is = absurd (omega (arith, lt))
  way_at (n ∷ ns) [] d c e lt is = absurd (omega (arith, e))
  way_at (n ∷ ns) (x ∷ xs) d c e lt is = by (text_eq name n.items) lt is (way_at ns xs d c (omega (arith, e)))
    where
      by : (b : Bool) → cond (not b) (1 + place_in ns name) 0 < length (n ∷ ns) → c.paths ≡ with_path (get_or (x ∷ xs) (cond (not b) (1 + place_in ns name) 0) d).paths path
          → (place_in ns name < length ns → c.paths ≡ with_path (get_or xs (place_in ns name) d).paths path → files_of ns (set xs (place_in ns name) c) ≡ with_way (files_of ns xs) name path)
          → files_of (n ∷ ns) (set (x ∷ xs) (cond (not b) (1 + place_in ns name) 0) c)
          ≡ (if b then record { name = n.items; paths = with_path x.paths path } ∷ files_of ns xs else record { name = n.items; paths = x.paths } ∷ with_way (files_of ns xs) name path)
      by true lt is rest = ap (λ p. record { name = n.items; paths = p } ∷ files_of ns xs) is
      by false lt is rest =
          let one : 1 + place_in ns name ≡ suc (place_in ns name) = omega arith in
          rw one (ap (λ l. record { name = n.items; paths = x.paths } ∷ l) (rest (omega (arith, lt)) (rw one at is)))

  pub way_absent : (names : List (Vec ℕ Global)) (conds : List FileCond) (v : Vec ℕ Global) (c : FileCond) → length conds ≡ length names → length names ≤ place_in names name
      → v.items ≡ name → c.paths ≡ path ∷ [] → files_of (names ++ v ∷ []) (conds ++ c ∷ []) ≡ with_way (files_of names conds) name path
  way_absent [] [] v c e le is one = λ i. record { name = is i; paths = one i } ∷ []
  way_absent [] (x ∷ xs) v c e le is one = absurd (omega (arith, e))
  way_absent (n ∷ ns) [] v c e le is one = absurd (omega (arith, e))
  way_absent (n ∷ ns) (x ∷ xs) v c e le is one = by (text_eq name n.items) le (λ l. way_absent ns xs v c (omega (arith, e)) l is one)
    where
      by : (b : Bool) → length (n ∷ ns) ≤ cond (not b) (1 + place_in ns name) 0
          → (length ns ≤ place_in ns name → files_of (ns ++ v ∷ []) (xs ++ c ∷ []) ≡ with_way (files_of ns xs) name path)
          → record { name = n.items; paths = x.paths } ∷ files_of (ns ++ v ∷ []) (xs ++ c ∷ [])
          ≡ (if b then record { name = n.items; paths = with_path x.paths path } ∷ files_of ns xs else record { name = n.items; paths = x.paths } ∷ with_way (files_of ns xs) name path)
      by true le rest = absurd (omega (arith, le))
      by false le rest = ap (λ l. record { name = n.items; paths = x.paths } ∷ l) (rest (omega (arith, le)))

  -- and how many paths it has then
  pub count_at : (names : List (Vec ℕ Global)) (conds : List FileCond) (d c : FileCond) → length conds ≡ length names → place_in names name < length names
      → count_of (files_of names (set conds (place_in names name) c)) name ≡ length c.paths
  count_at [] conds d c e lt = absurd (omega (arith, lt))
  count_at (n ∷ ns) [] d c e lt = absurd (omega (arith, e))
  count_at (n ∷ ns) (x ∷ xs) d c e lt = by (text_eq name n.items) refl lt (count_at ns xs d c (omega (arith, e)))
    where
      by : (b : Bool) → text_eq name n.items ≡ b → cond (not b) (1 + place_in ns name) 0 < length (n ∷ ns)
          → (place_in ns name < length ns → count_of (files_of ns (set xs (place_in ns name) c)) name ≡ length c.paths)
          → count_of (files_of (n ∷ ns) (set (x ∷ xs) (cond (not b) (1 + place_in ns name) 0) c)) name ≡ length c.paths
      by true t lt rest = ap (λ b. if b then length c.paths else count_of (files_of ns xs) name) t
      by false t lt rest =
          let one : 1 + place_in ns name ≡ suc (place_in ns name) = omega arith in
          rw one (ap (λ b. if b then length x.paths else count_of (files_of ns (set xs (place_in ns name) c)) name) t ∙ rest (omega (arith, lt)))

  pub count_absent : (names : List (Vec ℕ Global)) (conds : List FileCond) (v : Vec ℕ Global) (c : FileCond) → length conds ≡ length names → length names ≤ place_in names name
      → v.items ≡ name → c.paths ≡ path ∷ [] → count_of (files_of (names ++ v ∷ []) (conds ++ c ∷ [])) name ≡ 1
  count_absent [] [] v c e le is one = ap (λ b. if b then length c.paths else 0) ((text_decides name v.items).1 (sym is)) ∙ ap length one
  count_absent [] (x ∷ xs) v c e le is one = absurd (omega (arith, e))
  count_absent (n ∷ ns) [] v c e le is one = absurd (omega (arith, e))
  count_absent (n ∷ ns) (x ∷ xs) v c e le is one = by (text_eq name n.items) refl le (λ l. count_absent ns xs v c (omega (arith, e)) l is one)
    where
      by : (b : Bool) → text_eq name n.items ≡ b → length (n ∷ ns) ≤ cond (not b) (1 + place_in ns name) 0
          → (length ns ≤ place_in ns name → count_of (files_of (ns ++ v ∷ []) (xs ++ c ∷ [])) name ≡ 1)
          → count_of (record { name = n.items; paths = x.paths } ∷ files_of (ns ++ v ∷ []) (xs ++ c ∷ [])) name ≡ 1
      by true t le rest = absurd (omega (arith, le))
      by false t le rest = ap (λ b. if b then length x.paths else count_of (files_of (ns ++ v ∷ []) (xs ++ c ∷ [])) name) t ∙ rest (omega (arith, le))

-- a file's name passes the test of a source exactly where it is the source's file
pub same_test : (folder file name source : Bytes) → IsSourceOf (folder ++ file) source → is_source (folder ++ name) source ≡ text_eq file name
same_test folder file name source is = one_answer _ _ (source_decides (folder ++ name) source) (
  (λ h. subst (λ z. IsSourceOf (folder ++ z) source) (text_eq-exact file name h) is),
  (λ other. (text_decides file name).1 (append_cancel_left folder file name (one_file (folder ++ file) (folder ++ name) source is other))),
)

-- and no name does where it has no file
pub no_test : (name source : Bytes) → ¬ IsSourceOf name source → is_source name source ≡ false
no_test name source is_none = by (is_source name source) (source_decides name source)
  where
    by : (b : Bool) → Decides b (IsSourceOf name source) → b ≡ false
    by true d = absurd (is_none (d.0 refl))
    by false d = refl

-- two lists of one length are so many files
pub length-files_of : (names : List (Vec ℕ Global)) (conds : List FileCond) → length conds ≡ length names → length (files_of names conds) ≡ length names
length-files_of [] conds e = refl
length-files_of (n ∷ ns) [] e = absurd (omega (arith, e))
length-files_of (n ∷ ns) (c ∷ cs) e = ap suc (length-files_of ns cs (omega (arith, e)))

-- a name that stands nowhere is none of them
pub not_any : (name : Bytes) (names : List (Vec ℕ Global)) → length names ≤ place_in names name → list_any (λ key. text_eq name key.items) names ≡ false
not_any name [] le = refl
not_any name (n ∷ ns) le = by (text_eq name n.items) le (not_any name ns)
  where
    by : (b : Bool) → length (n ∷ ns) ≤ cond (not b) (1 + place_in ns name) 0 → (length ns ≤ place_in ns name → list_any (λ key. text_eq name key.items) ns ≡ false)
        → (b || list_any (λ key. text_eq name key.items) ns) ≡ false
    by true le rest = absurd (omega (arith, le))
    by false le rest = rest (omega (arith, le))

-- so it is added
pub inserted : (names new : List (Vec ℕ Global)) (name : Vec ℕ Global) → length names ≤ place_in names name.items
    → new ≡ (if list_any (λ key. text_eq name.items key.items) names then names else names ++ name ∷ []) → new ≡ names ++ name ∷ []
inserted names new name le is = is ∙ ap (λ b. if b then names else names ++ name ∷ []) (not_any name.items names le)

-- the paths of the file that a source belongs to
pub paths_by : (conds : Conds) (folder source file : Bytes) → folder ≡ conds.folder → IsSourceOf (folder ++ file) source → paths_of conds source ≡ or_always (paths_named conds.files file)
paths_by conds folder source file same is =
    where_named (λ name. is_source (conds.folder ++ name) source) file
    (λ name. same_test conds.folder file name source (subst (λ f. IsSourceOf (f ++ file) source) same is)) conds.files

pub paths_none : (conds : Conds) (folder source : Bytes) → folder ≡ conds.folder → ((file : Bytes) → ¬ IsSourceOf (folder ++ file) source) → paths_of conds source ≡ [] ∷ []
paths_none conds folder source same none =
    where_none (λ name. is_source (conds.folder ++ name) source)
    (λ name. no_test (conds.folder ++ name) source (λ is. none name (subst (λ f. IsSourceOf (f ++ name) source) (sym same) is))) conds.files

-- ---- at the place where a name stands

module _ (name : Bytes) (names : List (Vec ℕ Global)) (conds : List FileCond) (place : ℕ) (had : FileCond) (same : length conds ≡ length names) (is : IsPlace names name place)
    (at : had ≡ get_or conds place had) where
  here : place_in names name < length names
  here = subst (λ n. n < length names) is.first is.within

  at_first : had ≡ get_or conds (place_in names name) had
  at_first = at ∙ ap (λ n. get_or conds n had) is.first

  -- its file has the condition that stands there
  pub named_there : Some had.paths ≡ paths_named (files_of names conds) name
  named_there = ap (λ c. Some c.paths) at_first ∙ sym (named_at name names conds had same here)

  -- one more way to it
  pub way_there : (path : List Step) (now : FileCond) → now.paths ≡ with_path had.paths path → files_of names (set conds place now) ≡ with_way (files_of names conds) name path
  way_there path now more =
      ap (λ n. files_of names (set conds n now)) is.first
      ∙ way_at name path names conds had now same here (more ∙ ap (λ c. with_path c.paths path) at_first)

  pub count_there : (path : List Step) (now : FileCond) → length now.paths ≡ count_of (files_of names (set conds place now)) name
  count_there path now = sym (ap (λ n. count_of (files_of names (set conds n now)) name) is.first ∙ count_at name path names conds had now same here)

-- a file that is put behind the others
module _ (names now : List (Vec ℕ Global)) (conds then_conds : List FileCond) (name : Vec ℕ Global) (path : List Step) (same : length conds ≡ length names)
    (absent : length names ≤ place_in names name.items) (pushes : PushesFile names conds name path now then_conds) where
  pub way_pushed : files_of now then_conds ≡ with_way (files_of names conds) name.items path
  way_pushed = (λ i. files_of (pushes.is_named i) (pushes.has_cond i)) ∙ way_absent name.items path names conds name pushes.cond same absent refl pushes.one_path

  pub count_pushed : 1 ≡ count_of (files_of now then_conds) name.items
  count_pushed = sym ((λ i. count_of (files_of (pushes.is_named i) (pushes.has_cond i)) name.items) ∙ count_absent name.items path names conds name pushes.cond same absent refl pushes.one_path)
