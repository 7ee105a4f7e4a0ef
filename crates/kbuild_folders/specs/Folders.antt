-- Which folders the texts name, and in which order their texts are read. Rule: Linux kbuild/makefiles, "Descending down in
-- directories". That each text is read once, and in order of first mention, is this project's rule.
use Rattle.std.specs.Prelude.{ℕ, zero, suc, ◌^◌, ◌++◌, List, [], ◌∷◌, Option, None, Some, Result, Ok, Err, slice_get, length, position, if◌then◌else◌}
use Rattle.std.specs.List.{list_any, flat_map}
use Rattle.ut_text.specs.Bytes.{Bytes}
use Rattle.ut_text.specs.Text.{text_eq}
use Rattle.ut_base.specs.Plans.{Plan, Gives, ◌then◌}
use Rattle.kbuild_text.specs.declared.goals.Goal.{Goal}
use Rattle.kbuild_text.specs.declared.goals.Goal.TheVariants.{Object, Folder}
use Rattle.kbuild_text.specs.declared.listings.Listing.{Listing}
use Rattle.kbuild_folders.specs.Names.{folder_at}
use Rattle.kbuild_folders.specs.Texts.{folder_plan, root_plan}
use Rattle.kbuild_folders.specs.declared.bad.KbuildBad.{KbuildBad}
use Rattle.kbuild_folders.specs.declared.folders.Texts.{Texts}
use Rattle.kbuild_folders.specs.declared.texts.TextRead.{TextRead}

-- one more name, where it isn't there
abbrev pub with_name : List Bytes → Bytes → List Bytes
with_name names name = if list_any (text_eq name) names then names else names ++ name ∷ []

-- more names, one after another
abbrev pub with_names : List Bytes → List Bytes → List Bytes
with_names names [] = names
with_names names (n ∷ ns) = with_names (with_name names n) ns

-- what may be there, in front of others
abbrev pub onto_if : Option Bytes → List Bytes → List Bytes
onto_if None names = names
onto_if (Some name) names = name ∷ names

-- the folders among goals of a text in this folder
abbrev pub folders_in : Bytes → Bytes → List Goal → List Bytes
folders_in base folder [] = []
folders_in base folder (Object name ∷ goals) = folders_in base folder goals
folders_in base folder (Folder name ∷ goals) = onto_if (folder_at base folder name) (folders_in base folder goals)

-- the folders that listings name
abbrev pub folders_listed : Bytes → Bytes → List Listing → List Bytes
folders_listed base folder listings = flat_map (λ listing. folders_in base folder listing.goals) listings

-- the folders that a text names
abbrev pub mentioned : Bytes → TextRead → List Bytes
mentioned base text = folders_listed base text.folder text.listings

-- the folder of the root text and those that texts name, each once and in order of first mention
abbrev pub folders_of : Bytes → List TextRead → List Bytes
folders_of base texts = with_names ([] ∷ []) (flat_map (mentioned base) texts)

-- more folders than texts of 536,870,912 bytes can name
unfoldable pub most_folders : ℕ
most_folders = 2 ^ 64

-- the plan of the next folder, or these texts where there is none
abbrev pub after_next : List TextRead → Option Bytes → (Bytes → Plan (List TextRead) KbuildBad) → Plan (List TextRead) KbuildBad
after_next texts None next = Gives texts
after_next texts (Some folder) next = next folder

-- after these texts, the text of the first folder that is named and not read, and so on
abbrev pub rest_plan : Bytes → ℕ → List TextRead → Plan (List TextRead) KbuildBad
rest_plan base zero texts = Gives texts
rest_plan base (suc n) texts =
    after_next texts (slice_get (folders_of base texts) (length texts)) (λ folder. folder_plan base folder then λ text. rest_plan base n (texts ++ text ∷ []))

-- the root text, and then those of all folders
abbrev pub texts_plan : Bytes → Bytes → Plan (List TextRead) KbuildBad
texts_plan root base = root_plan root then λ text. rest_plan base most_folders (text ∷ [])

-- ---- what the reader's answer stands for

abbrev pub reads_of : Result Texts KbuildBad → Result (List TextRead) KbuildBad
reads_of (Ok texts) = Ok texts.reads
reads_of (Err e) = Err e
