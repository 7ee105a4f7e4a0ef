-- The ways to what one goal is, and to parts.
use Rattle.std.proofs.Common.{◌≡◌, ◌∙◌, sym, ap, subst, refl, List, [], ◌∷◌, ◌++◌, Option, None, Some, Result, append-nil}
use Rattle.std.specs.List.{flat_map}
use Rattle.ut_text.specs.Bytes.{Bytes}
use Rattle.kbuild_paths.specs.Paths.{Conds, NamedFile, paths_named}
use Rattle.kbuild_paths.specs.declared.step.Step.{Step}
use Rattle.kbuild_text.specs.declared.goals.Goal.{Goal}
use Rattle.kbuild_text.specs.declared.goals.Goal.TheVariants.{Object, Folder}
use Rattle.kbuild_text.specs.declared.listings.Listing.{Listing}
use Rattle.kbuild_folders.specs.Folders.{onto_if}
use Rattle.kbuild_folders.specs.Names.{object_at}
use Rattle.kbuild_folders.specs.declared.bad.KbuildBad.{KbuildBad}
use Rattle.kbuild_cond.specs.Adding.{Adds, AddsOr}
use Rattle.kbuild_cond.specs.Files.{Way, listing_ways, object_ways, objects_in, part_ways, paths_of_whole, paths_or_none, ways_by}
use Rattle.kbuild_cond.proofs.AddingLaws.{adds_none}

-- ways that are others
pub adds_as : (xs ys : List Way) (old new : Conds) (r : Result (Unit {0}) KbuildBad) → xs ≡ ys → AddsOr xs old r new → AddsOr ys old r new
adds_as xs ys old new r is h = subst (λ w. AddsOr w old r new) is h

pub adds_no : (ys : List Way) (c : Conds) → [] ≡ ys → Adds ys c c
adds_no ys c is = subst (λ w. Adds w c c) is (adds_none c)

module _ (base folder : Bytes) (fronts : List (List Step)) (steps : List Step) (goal : Goal) where
  -- objects
  pub object_there : (leads : List (List Step)) (name object : Bytes) → goal ≡ Object name → Some object ≡ object_at base folder name
      → ways_by fronts leads steps object ≡ object_ways base folder fronts leads steps goal
  object_there leads name object is at =
      sym (append-nil (ways_by fronts leads steps object))
      ∙ (ap (λ o. flat_map (ways_by fronts leads steps) (onto_if o [])) at ∙ ap (object_ways base folder fronts leads steps) (sym is))

  pub object_none : (leads : List (List Step)) (name : Bytes) → goal ≡ Object name → None ≡ object_at base folder name → [] ≡ object_ways base folder fronts leads steps goal
  object_none leads name is at = ap (λ o. flat_map (ways_by fronts leads steps) (onto_if o [])) at ∙ ap (object_ways base folder fronts leads steps) (sym is)

  pub object_other : (leads : List (List Step)) (name : Bytes) → goal ≡ Folder name → [] ≡ object_ways base folder fronts leads steps goal
  object_other leads name is = ap (object_ways base folder fronts leads steps) (sym is)

-- ---- parts

module _ (base folder : Bytes) (fronts : List (List Step)) (steps : List Step) where
  no_way : (objects : List Bytes) → flat_map (ways_by fronts [] steps) objects ≡ []
  no_way [] = refl
  no_way (o ∷ os) = no_way os

  no_leads : (goals : List Goal) → flat_map (object_ways base folder fronts [] steps) goals ≡ []
  no_leads [] = refl
  no_leads (g ∷ gs) = λ i. no_way (objects_in base folder g) i ++ no_leads gs i

module _ (base folder : Bytes) (own : List NamedFile) (fronts : List (List Step)) (of : Bytes) (listing : Listing) where
  abbrev ways_of : Option Bytes → List Way
  ways_of whole = listing_ways base folder fronts (paths_of_whole base own whole) listing

  -- the whole isn't the name of a file
  pub parts_none : None ≡ object_at base folder of → [] ≡ part_ways base folder own fronts of listing
  parts_none at = sym (no_leads base folder fronts listing.steps listing.goals) ∙ ap ways_of at

  -- or no goal of the text
  pub parts_other : (whole : Bytes) → Some whole ≡ object_at base folder of → None ≡ paths_named own whole → [] ≡ part_ways base folder own fronts of listing
  parts_other whole at none =
      sym (no_leads base folder fronts listing.steps listing.goals) ∙ (ap (λ p. listing_ways base folder fronts (paths_or_none p) listing) none ∙ ap ways_of at)
