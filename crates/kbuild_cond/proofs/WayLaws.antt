-- The paths to folders: a folder's name is longer than that of one whose text names it, so inner folders bring nothing to outer ones.
use Rattle.std.proofs.Common.{◌≡◌, ◌∙◌, ◌<◌, ◌≤◌, ◌+◌, ◌==◌, ℕ, zero, suc, Bool, true, false, ◌&&◌, not, cond, refl, sym, ap, subst, List, [], ◌∷◌, ◌++◌, length, map, if◌then◌else◌, None, Some, is_some, arith, length-append, codes, true≢false, drop, get_or}
use Rattle.std.specs.List.{All, AllByRecursion, filter, flat_map}
use Rattle.std.specs.List.Sorted.{ties}
use Rattle.std.specs.Ordering.{nat_cmp, is_lt}
use Rattle.std.specs.declared.cmp.Ordering.TheVariants.{Less, Equal, Greater}
use Rattle.std.proofs.lemmas.Bool.{le-ltb}
use Rattle.std.proofs.lemmas.List.{get_or-drop, get_or_default, length-drop}
use Rattle.std.proofs.lemmas.List.Sorted.{All-permutation}
use Rattle.ut_text.specs.Bytes.{Bytes}
use Rattle.ut_text.specs.Text.{text_eq, text_eq-exact, text_equiv}
use Rattle.kbuild_paths.specs.Paths.{Conds, NamedFile, paths_named, with_way}
use Rattle.kbuild_paths.specs.Steps.{with_path, with_paths}
use Rattle.kbuild_paths.specs.declared.step.Step.{Step}
use Rattle.kbuild_text.specs.declared.goals.Goal.{Goal}
use Rattle.kbuild_text.specs.declared.goals.Goal.TheVariants.{Object, Folder}
use Rattle.kbuild_text.specs.declared.listings.Listing.{Listing}
use Rattle.kbuild_folders.specs.Folders.{folders_in, onto_if}
use Rattle.kbuild_folders.specs.Names.{file_at}
use Rattle.kbuild_folders.specs.declared.texts.TextRead.{TextRead}
use Rattle.kbuild_cond.specs.Adding.{AddsLeft, IsShorterFirst}
use Rattle.kbuild_cond.specs.Files.{Naming, Way, folders_named, naming_at, naming_ways, namings, namings_by, namings_of, paths_at, paths_or_none, paths_to, paths_within, root_folder, start_at, steps_to, ways_after, ways_over, with_ways}

-- ---- the paths of one file among others

-- one more way: to this file, or to another
named_way : (files : List NamedFile) (to : Bytes) (s : List Step) (name : Bytes)
    → paths_at (with_way files to s) name ≡ (if text_eq name to then with_path (paths_at files name) s else paths_at files name)
named_way [] to s name = by (text_eq name to)
  where
    by : (d : Bool) → paths_or_none (if d then Some (s ∷ []) else None) ≡ (if d then with_path [] s else [])
    by true = refl
    by false = refl
named_way (f ∷ fs) to s name = by (text_eq to f.name) refl (named_way fs to s name)
  where
    here : (c d : Bool) → c ≡ d → paths_or_none (cond c (Some (with_path f.paths s)) (paths_named fs name))
        ≡ cond d (with_path (paths_or_none (cond c (Some f.paths) (paths_named fs name))) s) (paths_or_none (cond c (Some f.paths) (paths_named fs name)))
    here true true e = refl
    here true false e = absurd (true≢false e)
    here false true e = absurd (true≢false (sym e))
    here false false e = refl

    later : (c d : Bool) → (c ≡ true → d ≡ true → ⊥) → paths_at (with_way fs to s) name ≡ cond d (with_path (paths_at fs name) s) (paths_at fs name)
        → paths_or_none (cond c (Some f.paths) (paths_named (with_way fs to s) name))
        ≡ cond d (with_path (paths_or_none (cond c (Some f.paths) (paths_named fs name))) s) (paths_or_none (cond c (Some f.paths) (paths_named fs name)))
    later true true apart rest = absurd (apart refl refl)
    later true false apart rest = refl
    later false d apart rest = rest

    by : (b : Bool) → text_eq to f.name ≡ b → paths_at (with_way fs to s) name ≡ (if text_eq name to then with_path (paths_at fs name) s else paths_at fs name)
        → paths_at (if b then record f { paths = with_path f.paths s } ∷ fs else f ∷ with_way fs to s) name
        ≡ (if text_eq name to then with_path (paths_at (f ∷ fs) name) s else paths_at (f ∷ fs) name)
    by true e rest = here (text_eq name f.name) (text_eq name to) (ap (text_eq name) (sym (text_eq-exact to f.name e)))
    by false e rest =
        later (text_eq name f.name) (text_eq name to)
        (λ c d. true≢false (sym (subst (λ z. text_eq to z ≡ true) (sym (text_eq-exact name to d) ∙ text_eq-exact name f.name c) (text_equiv.refl to)) ∙ e)) rest

-- ways, one after another
pub named_ways : (ways : List Way) (files : List NamedFile) (name : Bytes) → paths_at (with_ways files ways) name ≡ with_paths (paths_at files name) (steps_to name ways)
named_ways [] files name = refl
named_ways (w ∷ ws) files name = named_ways ws (with_way files w.to w.steps) name ∙ (ap (λ p. with_paths p (steps_to name ws)) (named_way files w.to w.steps name) ∙ by (text_eq name w.to))
  where
    by : (d : Bool) → with_paths (if d then with_path (paths_at files name) w.steps else paths_at files name) (steps_to name ws)
        ≡ with_paths (paths_at files name) (if d then w.steps ∷ steps_to name ws else steps_to name ws)
    by true = refl
    by false = refl

steps-append : (name : Bytes) (xs ys : List Way) → steps_to name (xs ++ ys) ≡ steps_to name xs ++ steps_to name ys
steps-append name [] ys = refl
steps-append name (x ∷ xs) ys = by (text_eq name x.to) (steps-append name xs ys)
  where
    by : (d : Bool) → steps_to name (xs ++ ys) ≡ steps_to name xs ++ steps_to name ys
        → (if d then x.steps ∷ steps_to name (xs ++ ys) else steps_to name (xs ++ ys)) ≡ (if d then x.steps ∷ steps_to name xs else steps_to name xs) ++ steps_to name ys
    by true rest = ap (λ l. x.steps ∷ l) rest
    by false rest = rest

at_root : (name : Bytes) → paths_at root_folder name ≡ start_at name
at_root [] = refl
at_root (b ∷ name) = refl

-- ---- each folder's name is longer than that of the folder whose text names it

abbrev pub Grows : Naming → Type 0
Grows naming = length naming.from < length naming.to

all-append : {X : Type 0} (P : X → Type 0) (xs ys : List X) → AllByRecursion P xs → AllByRecursion P ys → AllByRecursion P (xs ++ ys)
all-append P [] ys h g = g
all-append P (x ∷ xs) ys h g = (h.0, all-append P xs ys h.1 g)

all_at : {X : Type 0} (P : X → Type 0) (xs : List X) → AllByRecursion P xs → All P xs
all_at P [] h k d lt = absurd (omega (arith, lt))
all_at P (x ∷ xs) h zero d lt = h.0
all_at P (x ∷ xs) h (suc k) d lt = all_at P xs h.1 k d (omega (arith, lt))

module _ (base : Bytes) where
  -- the folders among goals have longer names than the folder of their text
  names_longer : (folder : Bytes) (goals : List Goal) → AllByRecursion (λ n. length folder < length n) (folders_in base folder goals)
  names_longer folder [] = tt
  names_longer folder (Object name ∷ goals) = names_longer folder goals
  names_longer folder (Folder [] ∷ goals) = names_longer folder goals
  names_longer folder (Folder (b ∷ word) ∷ goals) = by (is_some (file_at base folder ((b ∷ word) ++ codes "Makefile"))) (names_longer folder goals)
    where
      by : (t : Bool) → AllByRecursion (λ n. length folder < length n) (folders_in base folder goals)
          → AllByRecursion (λ n. length folder < length n) (onto_if (if t then Some (folder ++ b ∷ word) else None) (folders_in base folder goals))
      by true rest = (omega (arith, length-append folder (b ∷ word)), rest)
      by false rest = rest

  grow_names : (folder : Bytes) (steps : List Step) (names : List Bytes) → AllByRecursion (λ n. length folder < length n) names → AllByRecursion Grows (map (naming_at folder steps) names)
  grow_names folder steps [] h = tt
  grow_names folder steps (n ∷ ns) h = (h.0, grow_names folder steps ns h.1)

  grow_listings : (folder : Bytes) (listings : List Listing) → AllByRecursion Grows (flat_map (namings_by base folder) listings)
  grow_listings folder [] = tt
  grow_listings folder (l ∷ ls) =
      all-append Grows (namings_by base folder l) (flat_map (namings_by base folder) ls) (grow_names folder l.steps (folders_in base folder l.goals) (names_longer folder l.goals))
      (grow_listings folder ls)

  pub namings_grow : (texts : List TextRead) → AllByRecursion Grows (namings base texts)
  namings_grow [] = tt
  namings_grow (t ∷ ts) = all-append Grows (namings_of base t) (namings base ts) (grow_listings t.folder t.listings) (namings_grow ts)

-- ---- which steps lead to a folder

-- none by a word that names another
none_other : (fronts : List (List Step)) (steps : List Step) (to name : Bytes) → text_eq name to ≡ false → steps_to name (ways_after fronts [] steps to) ≡ []
none_other [] steps to name e = refl
none_other (f ∷ fs) steps to name e =
    ap (λ (b : Bool). if b then ((f ++ []) ++ steps) ∷ steps_to name (ways_after fs [] steps to) else steps_to name (ways_after fs [] steps to)) e ∙ none_other fs steps to name e

-- the paths of shorter names decide
same_naming : (P Q : Bytes → List (List Step)) (naming : Naming) (name : Bytes) → Grows naming → ((b : Bytes) → length b < length name → P b ≡ Q b)
    → steps_to name (naming_ways (P naming.from) naming) ≡ steps_to name (naming_ways (Q naming.from) naming)
same_naming P Q naming name grows same = by (text_eq name naming.to) refl
  where
    by : (b : Bool) → text_eq name naming.to ≡ b → steps_to name (naming_ways (P naming.from) naming) ≡ steps_to name (naming_ways (Q naming.from) naming)
    by true e = ap (λ fronts. steps_to name (naming_ways fronts naming)) (same naming.from (subst (λ n. length naming.from < length n) (sym (text_eq-exact name naming.to e)) grows))
    by false e = none_other (P naming.from) naming.steps naming.to name e ∙ sym (none_other (Q naming.from) naming.steps naming.to name e)

same_ways : (P Q : Bytes → List (List Step)) (name : Bytes) (ns : List Naming) → AllByRecursion Grows ns → ((b : Bytes) → length b < length name → P b ≡ Q b)
    → steps_to name (ways_over P ns) ≡ steps_to name (ways_over Q ns)
same_ways P Q name [] grow same = refl
same_ways P Q name (n ∷ ns) grow same =
    steps-append name (naming_ways (P n.from) n) (ways_over P ns)
    ∙ ((λ i. same_naming P Q n name grow.0 same i ++ same_ways P Q name ns grow.1 same i) ∙ sym (steps-append name (naming_ways (Q n.from) n) (ways_over Q ns)))

-- paths over more folders than the name is long are the same
enough : (ns : List Naming) → AllByRecursion Grows ns → (n m : ℕ) (name : Bytes) → length name < n → length name < m → paths_within ns n name ≡ paths_within ns m name
enough ns grow zero m name h g = absurd (omega (arith, h))
enough ns grow (suc n) zero name h g = absurd (omega (arith, g))
enough ns grow (suc n) (suc m) name h g =
    ap (with_paths (start_at name))
    (same_ways (paths_within ns n) (paths_within ns m) name ns grow (λ b shorter. enough ns grow n m b (omega (arith, shorter, h)) (omega (arith, shorter, g))))

-- ---- the words in another order

-- only the words that name the folder lead to it
only_its : (P : Bytes → List (List Step)) (name : Bytes) (ns : List Naming) → steps_to name (ways_over P ns) ≡ steps_to name (ways_over P (filter (λ n. text_eq name n.to) ns))
only_its P name [] = refl
only_its P name (n ∷ ns) = steps-append name (naming_ways (P n.from) n) (ways_over P ns) ∙ by (text_eq name n.to) refl (only_its P name ns)
  where
    its : List Naming
    its = filter (λ n. text_eq name n.to) ns

    by : (b : Bool) → text_eq name n.to ≡ b → steps_to name (ways_over P ns) ≡ steps_to name (ways_over P its)
        → steps_to name (naming_ways (P n.from) n) ++ steps_to name (ways_over P ns) ≡ steps_to name (ways_over P (cond b (n ∷ its) its))
    by true e rest = ap (λ l. steps_to name (naming_ways (P n.from) n) ++ l) rest ∙ sym (steps-append name (naming_ways (P n.from) n) (ways_over P its))
    by false e rest = ap (λ l. l ++ steps_to name (ways_over P ns)) (none_other (P n.from) n.steps n.to name e) ∙ rest

filter_within : {X : Type 0} (p q : X → Bool) → ((x : X) → p x ≡ true → q x ≡ true) → (xs : List X) → filter p (filter q xs) ≡ filter p xs
filter_within p q in_q [] = refl
filter_within p q in_q (x ∷ xs) = by (p x) (q x) refl refl (filter_within p q in_q xs)
  where
    by : (b c : Bool) → p x ≡ b → q x ≡ c → filter p (filter q xs) ≡ filter p xs → filter p (cond c (x ∷ filter q xs) (filter q xs)) ≡ cond b (x ∷ filter p xs) (filter p xs)
    by true true e g rest = ap (λ (t : Bool). cond t (x ∷ filter p (filter q xs)) (filter p (filter q xs))) e ∙ ap (λ l. x ∷ l) rest
    by true false e g rest = absurd (true≢false (sym (in_q x e) ∙ g))
    by false true e g rest = ap (λ (t : Bool). cond t (x ∷ filter p (filter q xs)) (filter p (filter q xs))) e ∙ rest
    by false false e g rest = rest

not_less : (n : ℕ) → is_lt (nat_cmp n n) ≡ false
not_less n = ap (λ (b : Bool). is_lt (cond b Less (cond (n == n) Equal Greater))) (le-ltb n n (omega arith)) ∙ by (n == n)
  where
    by : (b : Bool) → is_lt (cond b Equal Greater) ≡ false
    by true = refl
    by false = refl

-- words of one length tie
tie_same : (name : Bytes) (n : Naming) → text_eq name n.to ≡ true → ties (λ (x y : Naming). is_lt (nat_cmp (length x.to) (length y.to))) (record { from = []; to = name; steps = [] }) n ≡ true
tie_same name n e =
    subst (λ to. (not (is_lt (nat_cmp (length name) (length to))) && not (is_lt (nat_cmp (length to) (length name)))) ≡ true) (text_eq-exact name n.to e)
    (ap (λ (b : Bool). not b && not b) (not_less (length name)))

module _ (P : Bytes → List (List Step)) (whole sorted : List Naming) (order : IsShorterFirst whole sorted) where
  same_order : (name : Bytes) → filter (λ n. text_eq name n.to) sorted ≡ filter (λ n. text_eq name n.to) whole
  same_order name =
      let tied = ties (λ (x y : Naming). is_lt (nat_cmp (length x.to) (length y.to))) (record { from = []; to = name; steps = [] }) in
      sym (filter_within (λ n. text_eq name n.to) tied (tie_same name) sorted)
      ∙ (ap (filter (λ n. text_eq name n.to)) (order.stable (record { from = []; to = name; steps = [] })) ∙ filter_within (λ n. text_eq name n.to) tied (tie_same name) whole)

  -- so the same steps lead to each folder
  steps_same : (name : Bytes) → steps_to name (ways_over P sorted) ≡ steps_to name (ways_over P whole)
  steps_same name = only_its P name sorted ∙ (ap (λ ns. steps_to name (ways_over P ns)) (same_order name) ∙ sym (only_its P name whole))

-- none by words that name longer ones
none_later : (P : Bytes → List (List Step)) (name : Bytes) (ns : List Naming) → ((j : ℕ) (d : Naming) → j < length ns → length name < length (get_or ns j d).to) → steps_to name (ways_over P ns) ≡ []
none_later P name [] longer = refl
none_later P name (n ∷ ns) longer =
    steps-append name (naming_ways (P n.from) n) (ways_over P ns)
    ∙ (λ i. none_other (P n.from) n.steps n.to name other i ++ none_later P name ns (λ j d lt. longer (suc j) d (omega (arith, lt))) i)
  where
    first : length name < length n.to
    first = longer 0 n (omega arith)

    by : (b : Bool) → text_eq name n.to ≡ b → text_eq name n.to ≡ false
    by true e = let same = ap length (text_eq-exact name n.to e) in absurd (omega (arith, same, first))
    by false e = e

    other : text_eq name n.to ≡ false
    other = by (text_eq name n.to) refl

-- ---- the paths of all folders

module _ (base : Bytes) (texts : List TextRead) where
  abbrev paths : Bytes → List (List Step)
  paths = paths_to base texts

  paths_to_is : (name : Bytes) → with_paths (start_at name) (steps_to name (ways_over paths (namings base texts))) ≡ paths name
  paths_to_is name =
      let ns = namings base texts in
      let grow = namings_grow base texts in
      ap (with_paths (start_at name)) (same_ways paths (paths_within ns (length name)) name ns grow (λ b shorter. enough ns grow (suc (length b)) (length name) b (omega arith) shorter))

  known_by : (ways : List Way) (name : Bytes) → steps_to name ways ≡ steps_to name (ways_over paths (namings base texts)) → paths_at (with_ways root_folder ways) name ≡ paths name
  known_by ways name same = named_ways ways root_folder name ∙ ((λ i. with_paths (at_root name i) (same i)) ∙ paths_to_is name)

  -- those that are named
  pub named_known : (name : Bytes) → paths_at (folders_named base texts) name ≡ paths name
  named_known name = known_by (ways_over paths (namings base texts)) name refl

  module _ (sorted : List Naming) (order : IsShorterFirst (namings base texts) sorted) where
    -- shorter ones first, it is the same
    pub sorted_known : (name : Bytes) → paths_at (with_ways root_folder (ways_over paths sorted)) name ≡ paths name
    sorted_known name = known_by (ways_over paths sorted) name (steps_same paths (namings base texts) sorted order name)

    module _ (k : ℕ) (naming : Naming) (lt : k < length sorted) (at : naming ≡ get_or sorted k naming) where
      grown : Grows naming
      grown = subst Grows (sym at) (All-permutation Grows (namings base texts) sorted order.same (all_at Grows (namings base texts) (namings_grow base texts)) k naming lt)

      later : (j : ℕ) (d : Naming) → j < length (drop k sorted) → length naming.from < length (get_or (drop k sorted) j d).to
      later j d inside =
          let within : k + j < length sorted = omega (arith, inside, length-drop k sorted, lt) in
          let up = subst (λ (x : Naming). length x.to ≤ length (get_or sorted (k + j) naming).to) (sym at) (order.ascending k (k + j) naming (omega arith) within) in
          subst (λ (x : Naming). length naming.from < length x.to) (get_or_default sorted (k + j) naming d within ∙ sym (get_or-drop k sorted j d)) (omega (arith, grown, up))

      -- the paths of a word's folder are known when its turn comes
      pub turn_known : (start here : Conds) → start.files ≡ root_folder → AddsLeft (ways_over paths sorted) start (ways_over paths (drop k sorted)) here
          → paths_at here.files naming.from ≡ paths naming.from
      turn_known start here is led =
          let rest = ways_over paths (drop k sorted) in
          sym (named_ways rest here.files naming.from ∙ ap (with_paths (paths_at here.files naming.from)) (none_later paths naming.from (drop k sorted) later))
          ∙ (ap (λ f. paths_at f naming.from) (led.same ∙ ap (λ f. with_ways f (ways_over paths sorted)) is) ∙ sorted_known naming.from)
