-- A folder's text is its first file, or its second where it has no first. It must not be empty.
use Rattle.std.specs.Prelude.{List, [], ◌∷◌, ◌++◌, Option, Some, None, Result, Ok, Err}
use Rattle.ut_text.specs.Bytes.{Bytes}
use Rattle.ut_base.specs.Plans.{Plan, Gives, Takes, Asks, ◌then◌, of_result}
use Rattle.ut_base_rows.specs.declared.bad.FolderBad.{FolderBad}
use Rattle.ut_base_rows.specs.declared.bad.FolderBad.TheVariants.{Empty}
use Rattle.ut_base_rows.specs.declared.folder.Folder.{Folder}

-- the text, if it has bytes
abbrev pub filled : Bytes → Bytes → Result Bytes FolderBad
filled name [] = Err (Empty name)
filled name (b ∷ bytes) = Ok (b ∷ bytes)

-- of the first file what was found, else the second
abbrev pub or_second : Bytes → Bytes → Option Bytes → Plan Bytes FolderBad
or_second first second (Some text) = of_result (filled first text)
or_second first second None = Takes second (λ text. of_result (filled second text))

-- the text of a folder
abbrev pub folder_plan : Folder → Plan Bytes FolderBad
folder_plan folder = Asks folder.first (or_second folder.first folder.second)

-- the texts of several folders, after those that are read
abbrev pub folders_plan : List Bytes → List Folder → Plan (List Bytes) FolderBad
folders_plan texts [] = Gives texts
folders_plan texts (folder ∷ folders) = folder_plan folder then λ text. folders_plan (texts ++ text ∷ []) folders
