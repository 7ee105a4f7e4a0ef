-- What reading Kbuild texts comes to: the files that the texts name, or the first refusal. Limits are this project's rule.
use Rattle.std.specs.Prelude.{ℕ, ◌+◌, Bool, ◌||◌, nat_lt, length, List, Result, Ok, Err, if◌then◌else◌}
use Rattle.std.specs.List.{list_any}
use Rattle.ut_text.specs.Bytes.{Bytes}
use Rattle.ut_base.specs.Names.{folder_of}
use Rattle.ut_base.specs.Plans.{Plan, ◌then◌, of_result}
use Rattle.ut_base.specs.declared.limits.Limit.TheVariants as limit
use Rattle.kbuild_paths.specs.Paths.{Conds, NamedFile}
use Rattle.kbuild_cond.specs.Files.{files_named, folders_named}
use Rattle.kbuild_folders.specs.Folders.{texts_plan}
use Rattle.kbuild_folders.specs.declared.bad.KbuildBad.{KbuildBad}
use Rattle.kbuild_folders.specs.declared.bad.KbuildBad.TheVariants.{TooLarge}
use Rattle.kbuild_folders.specs.declared.texts.TextRead.{TextRead}

-- the most paths of a folder or an object
abbrev pub most_paths : ℕ
most_paths = 1024

-- whether there are too many
abbrev pub are_too_many : {A : Type 0} → List A → Bool
are_too_many paths = nat_lt most_paths (length paths)

-- whether some file has too many paths
abbrev pub has_over : List NamedFile → Bool
has_over files = list_any (λ file. are_too_many file.paths) files

-- whether some folder or object has too many paths
abbrev pub has_too_many : Bytes → List TextRead → Bool
has_too_many base texts = has_over (folders_named base texts) || has_over (files_named base texts)

-- the refusal of one path too many
abbrev pub over_limit : KbuildBad
over_limit = TooLarge limit.Paths (most_paths + 1)

-- the files that texts name, within the limit
abbrev pub conds_of : Bytes → List TextRead → Result Conds KbuildBad
conds_of base texts =
    if has_too_many base texts then Err over_limit else Ok (record { folder = base; files = files_named base texts })

-- the texts are read from the root text on
abbrev pub kbuild_plan : Bytes → Plan Conds KbuildBad
kbuild_plan root = texts_plan root (folder_of root) then λ texts. of_result (conds_of (folder_of root) texts)
