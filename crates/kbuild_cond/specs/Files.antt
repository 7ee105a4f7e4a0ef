-- The paths to folders, objects and parts, over all texts. Rule: Linux kbuild/makefiles, "Built-in object goals", "Composite
-- objects" and "Descending down in directories". That a path is the list of the steps on the way, that each stands once, and
-- that they stand in the order of the words that name the file, is this project's rule. Names stand relative to the base, the
-- folder of the root text.
use Rattle.std.specs.Prelude.{ℕ, zero, suc, ◌++◌, map, length, List, [], ◌∷◌, Option, None, Some, if◌then◌else◌}
use Rattle.std.specs.List.{flat_map}
use Rattle.ut_text.specs.Bytes.{Bytes}
use Rattle.ut_text.specs.Text.{text_eq}
use Rattle.kbuild_paths.specs.Paths.{NamedFile, paths_named, with_way}
use Rattle.kbuild_paths.specs.Steps.{with_paths}
use Rattle.kbuild_paths.specs.declared.step.Step.{Step}
use Rattle.kbuild_text.specs.declared.goals.Goal.{Goal}
use Rattle.kbuild_text.specs.declared.goals.Goal.TheVariants.{Object, Folder}
use Rattle.kbuild_text.specs.declared.listings.Listing.{Listing}
use Rattle.kbuild_text.specs.declared.variables.Role.{Role}
use Rattle.kbuild_text.specs.declared.variables.Role.TheVariants.{Goals, Parts}
use Rattle.kbuild_folders.specs.Folders.{folders_in, onto_if}
use Rattle.kbuild_folders.specs.Names.{object_at}
use Rattle.kbuild_folders.specs.declared.texts.TextRead.{TextRead}

-- a way to a file: its name, and the steps
pub record Way : Type 0 where
  pub to : Bytes
  pub steps : List Step

-- the steps of the ways to this file, in order
abbrev pub steps_to : Bytes → List Way → List (List Step)
steps_to name [] = []
steps_to name (way ∷ ways) = if text_eq name way.to then way.steps ∷ steps_to name ways else steps_to name ways

-- the files that ways lead to, in order of first mention, each with its paths
abbrev pub with_ways : List NamedFile → List Way → List NamedFile
with_ways files [] = files
with_ways files (way ∷ ways) = with_ways (with_way files way.to way.steps) ways

-- paths that may be absent
abbrev pub paths_or_none : Option (List (List Step)) → List (List Step)
paths_or_none None = []
paths_or_none (Some paths) = paths

-- the paths of the file with this name; none where there is no such file
abbrev pub paths_at : List NamedFile → Bytes → List (List Step)
paths_at files name = paths_or_none (paths_named files name)

-- the ways to an object by one lead and each path to its folder
abbrev pub ways_after : List (List Step) → List Step → List Step → Bytes → List Way
ways_after fronts lead steps name = map (λ front. record { to = name; steps = front ++ lead ++ steps }) fronts

-- the ways to an object by each lead
abbrev pub ways_by : List (List Step) → List (List Step) → List Step → Bytes → List Way
ways_by fronts leads steps name = flat_map (λ lead. ways_after fronts lead steps name) leads

-- ---- folders

-- a word that names a folder: the folder of its text, the folder that it names, and the steps under which it does
pub record Naming : Type 0 where
  pub from : Bytes
  pub to : Bytes
  pub steps : List Step

-- the ways by a naming, by these paths to the folder of its text
abbrev pub naming_ways : List (List Step) → Naming → List Way
naming_ways fronts naming = ways_after fronts [] naming.steps naming.to

-- the ways by namings, where each folder has these paths
abbrev pub ways_over : (Bytes → List (List Step)) → List Naming → List Way
ways_over paths namings = flat_map (λ naming. naming_ways (paths naming.from) naming) namings

-- the folder of the root text has one path without a step
abbrev pub start_at : Bytes → List (List Step)
start_at [] = [] ∷ []
start_at (b ∷ name) = []

-- the same as a list of folders
abbrev pub root_folder : List NamedFile
root_folder = record { name = []; paths = [] ∷ [] } ∷ []

-- the paths to a folder over at most so many others, less one: those by which namings lead to it, in order
abbrev pub paths_within : List Naming → ℕ → Bytes → List (List Step)
paths_within namings zero name = []
paths_within namings (suc n) name = with_paths (start_at name) (steps_to name (ways_over (paths_within namings n) namings))

-- a naming in a text of this folder, under these steps
abbrev pub naming_at : Bytes → List Step → Bytes → Naming
naming_at folder steps name = record { from = folder; to = name; steps = steps }

module _ (base : Bytes) where
  -- the words of a listing that name folders
  abbrev pub namings_by : Bytes → Listing → List Naming
  namings_by folder listing = map (naming_at folder listing.steps) (folders_in base folder listing.goals)

  -- those of a text
  abbrev pub namings_of : TextRead → List Naming
  namings_of text = flat_map (namings_by text.folder) text.listings

  -- those of all texts, in order of reading
  abbrev pub namings : List TextRead → List Naming
  namings texts = flat_map namings_of texts

  -- the paths to a folder: a folder's name is longer than the name of one whose text names it
  abbrev pub paths_to : List TextRead → Bytes → List (List Step)
  paths_to texts name = paths_within (namings texts) (suc (length name)) name

  -- the folders that texts name, with their paths
  abbrev pub folders_named : List TextRead → List NamedFile
  folders_named texts = with_ways root_folder (ways_over (paths_to texts) (namings texts))

  -- ---- objects and parts

  -- the object that a goal of a text in this folder is, if it is one
  abbrev pub objects_in : Bytes → Goal → List Bytes
  objects_in folder (Object name) = onto_if (object_at base folder name) []
  objects_in folder (Folder name) = []

  -- the ways to what a goal is
  abbrev pub object_ways : Bytes → List (List Step) → List (List Step) → List Step → Goal → List Way
  object_ways folder fronts leads steps goal = flat_map (ways_by fronts leads steps) (objects_in folder goal)

  -- the ways to the objects of a listing of a text in this folder
  abbrev pub listing_ways : Bytes → List (List Step) → List (List Step) → Listing → List Way
  listing_ways folder fronts leads listing = flat_map (object_ways folder fronts leads listing.steps) listing.goals

  -- the ways from a text's folder to the objects that the text has as goals
  abbrev pub goal_ways : Bytes → Role → Listing → List Way
  goal_ways folder (Goals folders) listing = listing_ways folder ([] ∷ []) ([] ∷ []) listing
  goal_ways folder (Parts of) listing = []

  -- the objects that a text has as goals, with the paths from its folder
  abbrev pub own_of : Bytes → List Listing → List NamedFile
  own_of folder listings = with_ways [] (flat_map (λ listing. goal_ways folder listing.role listing) listings)

  -- the paths to an object among these files; none where it isn't the name of a file
  abbrev pub paths_of_whole : List NamedFile → Option Bytes → List (List Step)
  paths_of_whole files None = []
  paths_of_whole files (Some whole) = paths_at files whole

  -- the ways to the parts of `x.o` in a folder, where these are the objects that its text has as goals: a part has the paths of its whole
  abbrev pub part_ways : Bytes → List NamedFile → List (List Step) → Bytes → Listing → List Way
  part_ways folder own fronts of listing = listing_ways folder fronts (paths_of_whole own (object_at base folder of)) listing

  -- the ways to the objects or parts of a listing
  abbrev pub ways_in : Bytes → List NamedFile → List (List Step) → Role → Listing → List Way
  ways_in folder own fronts (Goals folders) listing = listing_ways folder fronts ([] ∷ []) listing
  ways_in folder own fronts (Parts of) listing = part_ways folder own fronts of listing

  -- the ways to all objects and parts of a text by these paths to its folder, in order
  abbrev pub text_ways : List (List Step) → TextRead → List Way
  text_ways fronts text = flat_map (λ listing. ways_in text.folder (own_of text.folder text.listings) fronts listing.role listing) text.listings

  -- the files that texts name, where the folders have these paths
  abbrev pub files_by : List NamedFile → List TextRead → List NamedFile
  files_by folders texts = with_ways [] (flat_map (λ text. text_ways (paths_at folders text.folder) text) texts)

  -- the files that texts name
  abbrev pub files_named : List TextRead → List NamedFile
  files_named texts = with_ways [] (flat_map (λ text. text_ways (paths_to texts text.folder) text) texts)
