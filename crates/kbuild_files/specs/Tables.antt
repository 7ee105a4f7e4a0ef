-- What the code keeps of the files that texts name: two lists of one length.
use Rattle.std.specs.Prelude.{◌≡◌, ◌<◌, ℕ, ◌++◌, length, List, [], ◌∷◌, Option, None, Some, Vec, if◌then◌else◌}
use Rattle.std.specs.declared.alloc.Global.{Global}
use Rattle.std.specs.List.{position_or_len}
use Rattle.ut_text.specs.Bytes.{Bytes}
use Rattle.ut_text.specs.Text.{text_eq}
use Rattle.kbuild_paths.specs.Paths.{NamedFile}
use Rattle.kbuild_paths.specs.declared.path.FileCond.{FileCond}
use Rattle.kbuild_paths.specs.declared.step.Step.{Step}

-- files by their names and conditions, two lists of one length
abbrev pub files_of : List (Vec ℕ Global) → List FileCond → List NamedFile
files_of [] conds = []
files_of (name ∷ names) [] = []
files_of (name ∷ names) (cond ∷ conds) = record { name = name.items; paths = cond.paths } ∷ files_of names conds

-- the number of paths of the first file with this name
abbrev pub count_of : List NamedFile → Bytes → ℕ
count_of [] name = 0
count_of (file ∷ files) name = if text_eq name file.name then length file.paths else count_of files name

-- one more file at the end of both lists, with one path
pub record PushesFile (names : List (Vec ℕ Global)) (conds : List FileCond) (name : Vec ℕ Global) (path : List Step) (now : List (Vec ℕ Global)) (then_conds : List FileCond) : Type 0 where
  pub cond : FileCond
  pub is_named : now ≡ names ++ name ∷ []
  pub has_cond : then_conds ≡ conds ++ cond ∷ []
  pub one_path : cond.paths ≡ path ∷ []

-- how many names stand before the first that is this one, or the number of all
abbrev pub place_in : List (Vec ℕ Global) → Bytes → ℕ
place_in names name = position_or_len (λ key. text_eq name key.items) names

-- the place of a name that stands there
pub record IsPlace (names : List (Vec ℕ Global)) (name : Bytes) (place : ℕ) : Type 0 where
  pub first : place ≡ place_in names name
  pub within : place < length names

-- the paths of a file, or one path without a step where there is none
abbrev pub or_always : Option (List (List Step)) → List (List Step)
or_always None = [] ∷ []
or_always (Some paths) = paths
