-- The paths that name a source. Rule: Linux kbuild/makefiles, "Built-in object goals" and "Descending down in
-- directories": an object `x.o` in a folder stands for the sources `x.c` and `x.S` there. That a source which no text
-- names is always built is this project's rule.
use Rattle.std.specs.Prelude.{◌≡◌, ◌⊎◌, Bool, ◌||◌, ◌++◌, List, [], ◌∷◌, Option, None, Some, codes, if◌then◌else◌}
use Rattle.ut_text.specs.Bytes.{Bytes}
use Rattle.ut_text.specs.Text.{text_eq}
use Rattle.kbuild_paths.specs.Steps.{with_path}
use Rattle.kbuild_paths.specs.declared.step.Step.{Step}

-- a file that Kbuild texts name: its name relative to the folder of the root text, without `.o`, and its paths
pub record NamedFile : Type 0 where
  pub name : Bytes
  pub paths : List (List Step)

-- the folder of the root text, which is empty or ends with `/`, and the files that are named, in order of first mention
pub record Conds : Type 0 where
  pub folder : Bytes
  pub files : List NamedFile

-- no file is named
abbrev pub names_nothing : Conds
names_nothing = record { folder = []; files = [] }

-- whether a source belongs to a file: its name with `.c` or `.S`
abbrev pub is_source : Bytes → Bytes → Bool
is_source file source = text_eq source (file ++ codes ".c") || text_eq source (file ++ codes ".S")

-- the same as a fact
abbrev pub IsSourceOf : Bytes → Bytes → Type 0
IsSourceOf file source = (source ≡ file ++ codes ".c") ⊎ (source ≡ file ++ codes ".S")

-- the paths of the first file with such a name, or one path without a step where none has it
abbrev pub paths_where : (Bytes → Bool) → List NamedFile → List (List Step)
paths_where is [] = [] ∷ []
paths_where is (file ∷ files) = if is file.name then file.paths else paths_where is files

-- the paths that name a source
abbrev pub paths_of : Conds → Bytes → List (List Step)
paths_of conds source = paths_where (λ name. is_source (conds.folder ++ name) source) conds.files

-- one more way to a file: it is listed where it isn't yet, and the path is added where it isn't among its paths
abbrev pub with_way : List NamedFile → Bytes → List Step → List NamedFile
with_way [] name path = record { name = name; paths = path ∷ [] } ∷ []
with_way (file ∷ files) name path =
    if text_eq name file.name then record file { paths = with_path file.paths path } ∷ files else file ∷ with_way files name path

-- the paths of the first file with this name
abbrev pub paths_named : List NamedFile → Bytes → Option (List (List Step))
paths_named [] name = None
paths_named (file ∷ files) name = if text_eq name file.name then Some file.paths else paths_named files name
