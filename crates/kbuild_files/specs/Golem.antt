-- The text of the files that Kbuild texts name, with their paths: one line a file. This project's rule.
use Rattle.std.specs.Prelude.{◌++◌, List, [], ◌∷◌, map, codes}
use Rattle.ut_text.specs.Bytes.{Bytes, newline, space, double_quote}
use Rattle.kbuild_paths.specs.declared.step.Step.{Step}
use Rattle.kbuild_paths.specs.declared.step.Step.TheVariants.{On, Free}
use Rattle.kbuild_paths.specs.Paths.{NamedFile, Conds}

-- texts, each after the sign
abbrev pub led_by : Bytes → List Bytes → Bytes
led_by sign [] = []
led_by sign (t ∷ ts) = sign ++ t ++ led_by sign ts

-- texts with the sign between them
abbrev pub joined_by : Bytes → List Bytes → Bytes
joined_by sign [] = []
joined_by sign (t ∷ ts) = t ++ led_by sign ts

-- a step: `CONFIG_X`, or the text of a free one in double quotes
abbrev pub step_text : Step → Bytes
step_text (On name) = codes "CONFIG_" ++ name
step_text (Free text) = double_quote ∷ text ++ double_quote ∷ []

-- a path: its steps, or `y` where it has none
abbrev pub path_text : List Step → Bytes
path_text [] = codes "y"
path_text (step ∷ steps) = joined_by (codes " && ") (map step_text (step ∷ steps))

-- the paths of a file
abbrev pub paths_text : List (List Step) → Bytes
paths_text paths = joined_by (codes " || ") (map path_text paths)

-- the line of a file
abbrev pub file_line : NamedFile → Bytes
file_line file = file.name ++ space ∷ paths_text file.paths ++ newline ∷ []

-- the lines of files, in order
abbrev pub file_lines : List NamedFile → Bytes
file_lines [] = []
file_lines (file ∷ files) = file_line file ++ file_lines files

-- the text of all files
abbrev pub golem_text_of : Conds → Bytes
golem_text_of conds = file_lines conds.files
