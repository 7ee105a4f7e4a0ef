-- What adding ways to files promises, and the table of the folders. This project's rule.
use Rattle.std.specs.Prelude.{◌≡◌, ◌+◌, true, false, length, List, Result, Ok, Err}
use Rattle.std.specs.List.Sorted.{IsNonDecreasingBy, IsPermutation, IsStableByKey}
use Rattle.std.specs.Ordering.{nat_cmp}
use Rattle.ut_text.specs.Bytes.{Bytes}
use Rattle.kbuild_paths.specs.Paths.{Conds, NamedFile}
use Rattle.kbuild_folders.specs.Errors.{IsOfPaths}
use Rattle.kbuild_folders.specs.declared.texts.TextRead.{TextRead}
use Rattle.kbuild_cond.specs.Files.{Naming, Way, folders_named, paths_at, paths_to, with_ways}
use Rattle.kbuild_cond.specs.Reading.{has_over, most_paths}
use Rattle.kbuild_folders.specs.declared.bad.KbuildBad.{KbuildBad}
use Rattle.kbuild_folders.specs.declared.bad.KbuildBad.TheVariants as bad

-- the ways are added, and no file has too many paths where none had before
pub record Adds (ways : List Way) (old new : Conds) : Type 0 where
  pub files : new.files ≡ with_ways old.files ways
  pub folder : new.folder ≡ old.folder
  pub within : has_over old.files ≡ false → has_over new.files ≡ false

-- the ways are added; or some file has too many paths with them; or memory was wanting
abbrev pub AddsOr : List Way → Conds → Result (Unit {0}) KbuildBad → Conds → Type 0
AddsOr ways old (Ok done) new = Adds ways old new
AddsOr ways old (Err bad.Oom) new = Unit {0}
AddsOr ways old (Err (bad.TooLarge what count)) new = IsOfPaths what × (count ≡ most_paths + 1) × (has_over (with_ways old.files ways) ≡ true)
AddsOr ways old (Err (bad.Syntax file line)) new = ⊥
AddsOr ways old (Err (bad.Missing file)) new = ⊥
AddsOr ways old (Err (bad.ReadFault file)) new = ⊥

-- in a loop: the ways that are left lead to the same files as all did
pub record AddsLeft (whole : List Way) (start : Conds) (left : List Way) (here : Conds) : Type 0 where
  pub same : with_ways here.files left ≡ with_ways start.files whole
  pub folder : here.folder ≡ start.folder
  pub within : has_over start.files ≡ false → has_over here.files ≡ false

-- these files, or some of them has too many paths, or memory was wanting
abbrev pub FilesOr : Bytes → List NamedFile → Result Conds KbuildBad → Type 0
FilesOr folder files (Ok conds) = (conds ≡ record { folder = folder; files = files }) × (has_over files ≡ false)
FilesOr folder files (Err bad.Oom) = Unit {0}
FilesOr folder files (Err (bad.TooLarge what count)) = IsOfPaths what × (count ≡ most_paths + 1) × (has_over files ≡ true)
FilesOr folder files (Err (bad.Syntax file line)) = ⊥
FilesOr folder files (Err (bad.Missing file)) = ⊥
FilesOr folder files (Err (bad.ReadFault file)) = ⊥

-- ---- folders

-- the same words, those of shorter folders first, and those of folders of one length in their order
pub record IsShorterFirst (namings sorted : List Naming) : Type 0 where
  pub same : IsPermutation namings sorted
  pub ascending : IsNonDecreasingBy (λ naming. length naming.to) sorted
  pub stable : IsStableByKey (λ naming. length naming.to) nat_cmp namings sorted

-- the paths of each folder, none of which has too many
pub record HasFolders (base : Bytes) (texts : List TextRead) (folders : Conds) : Type 0 where
  pub known : (name : Bytes) → paths_at folders.files name ≡ paths_to base texts name
  pub within : has_over (folders_named base texts) ≡ false

-- the folders, or some of them has too many paths, or memory was wanting
abbrev pub FoldersOr : Bytes → List TextRead → Result Conds KbuildBad → Type 0
FoldersOr base texts (Ok folders) = HasFolders base texts folders
FoldersOr base texts (Err bad.Oom) = Unit {0}
FoldersOr base texts (Err (bad.TooLarge what count)) = IsOfPaths what × (count ≡ most_paths + 1) × (has_over (folders_named base texts) ≡ true)
FoldersOr base texts (Err (bad.Syntax file line)) = ⊥
FoldersOr base texts (Err (bad.Missing file)) = ⊥
FoldersOr base texts (Err (bad.ReadFault file)) = ⊥
