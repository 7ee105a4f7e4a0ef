-- The words that name folders, one after another.
use Rattle.std.proofs.Common.{◌≡◌, ◌∙◌, ◌<◌, ◌≤◌, ◌+◌, ℕ, refl, sym, ap, List, [], ◌∷◌, ◌++◌, length, map, Option, None, Some, append_assoc, append-nil, drop, get_or}
use Rattle.std.specs.List.{flat_map}
use Rattle.std.proofs.lemmas.List.{drop_all}
use Rattle.ut_base.proofs.ReadingLaws.{first_left}
use Rattle.ut_text.specs.Bytes.{Bytes}
use Rattle.kbuild_paths.specs.declared.step.Step.{Step}
use Rattle.kbuild_text.specs.declared.goals.Goal.{Goal}
use Rattle.kbuild_text.specs.declared.goals.Goal.TheVariants.{Object, Folder}
use Rattle.kbuild_folders.specs.Folders.{folders_in, onto_if}
use Rattle.kbuild_folders.specs.Names.{folder_at}
use Rattle.kbuild_cond.specs.Files.{Naming, naming_at}

-- in a loop that adds what each item gives
pub list_more : {X Y : Type 0} (f : X → List Y) (xs : List X) (i : ℕ) (x : X) (before now whole : List Y) → i < length xs → x ≡ get_or xs i x → now ≡ before ++ f x
    → before ++ flat_map f (drop i xs) ≡ whole → now ++ flat_map f (drop (i + 1) xs) ≡ whole
list_more f xs i x before now whole lt at is all =
    ap (λ l. l ++ flat_map f (drop (i + 1) xs)) is
    ∙ (append_assoc before (f x) (flat_map f (drop (i + 1) xs)) ∙ (ap (λ l. before ++ flat_map f l) (sym (first_left xs i x lt at)) ∙ all))

pub list_done : {X Y : Type 0} (f : X → List Y) (xs : List X) (i : ℕ) (now whole : List Y) → length xs ≤ i → now ++ flat_map f (drop i xs) ≡ whole → now ≡ whole
list_done f xs i now whole done all = sym (append-nil now) ∙ (ap (λ l. now ++ flat_map f l) (sym (drop_all i xs done)) ∙ all)

module _ (base folder : Bytes) (steps : List Step) where
  -- the naming that a goal is, if it is one
  abbrev pub naming_in : Goal → List Naming
  naming_in goal = map (naming_at folder steps) (folders_in base folder (goal ∷ []))

  onto : (found : Option Bytes) (names : List Bytes) → map (naming_at folder steps) (onto_if found []) ++ map (naming_at folder steps) names ≡ map (naming_at folder steps) (onto_if found names)
  onto None names = refl
  onto (Some name) names = refl

  -- goal by goal
  pub goals_flat : (goals : List Goal) → flat_map naming_in goals ≡ map (naming_at folder steps) (folders_in base folder goals)
  goals_flat [] = refl
  goals_flat (Object name ∷ goals) = goals_flat goals
  goals_flat (Folder name ∷ goals) =
      ap (λ l. map (naming_at folder steps) (onto_if (folder_at base folder name) []) ++ l) (goals_flat goals) ∙ onto (folder_at base folder name) (folders_in base folder goals)
