-- The text of a folder: its `Kbuild`, or where there is none its `Makefile`. Rule: Linux kbuild/makefiles, "The kbuild
-- files". What is refused is this project's rule.
use Rattle.std.specs.Prelude.{ℕ, List, [], Option, None, Some, Result, Ok, Err, codes}
use Rattle.ut_text.specs.Bytes.{Bytes}
use Rattle.ut_base.specs.Plans.{Plan, Gives, Takes, Asks, of_result}
use Rattle.kbuild_text.specs.Listings.{listings_in}
use Rattle.kbuild_text.specs.declared.listings.Listing.{Listing}
use Rattle.kbuild_folders.specs.Names.{file_at}
use Rattle.kbuild_folders.specs.declared.bad.KbuildBad.{KbuildBad}
use Rattle.kbuild_folders.specs.declared.bad.KbuildBad.TheVariants.{Syntax}
use Rattle.kbuild_folders.specs.declared.texts.TextRead.{TextRead}

-- what a text in this folder lists, or its refusal
abbrev pub read_as : Bytes → Bytes → Result (List Listing) ℕ → Result TextRead KbuildBad
read_as folder file (Ok listings) = Ok (record { folder = folder; listings = listings })
read_as folder file (Err line) = Err (Syntax file line)

abbrev pub text_read : Bytes → Bytes → Bytes → Result TextRead KbuildBad
text_read folder file bytes = read_as folder file (listings_in bytes)

-- a folder without a text that has a name
abbrev pub unread : Bytes → Result TextRead KbuildBad
unread folder = Ok (record { folder = folder; listings = [] })

-- a text that has to exist
abbrev pub named_plan : Bytes → Bytes → Plan TextRead KbuildBad
named_plan folder file = Takes file (λ bytes. of_result (text_read folder file bytes))

-- the root text, whose folder is the one that names stand relative to
abbrev pub root_plan : Bytes → Plan TextRead KbuildBad
root_plan root = named_plan [] root

-- the text with this name, or no listing where there is no such name
abbrev pub taken : Bytes → Option Bytes → Plan TextRead KbuildBad
taken folder None = of_result (unread folder)
taken folder (Some file) = named_plan folder file

-- the `Makefile` of a folder
abbrev pub makefile_plan : Bytes → Bytes → Plan TextRead KbuildBad
makefile_plan base folder = taken folder (file_at base folder (codes "Makefile"))

-- what a file with this name holds, or another plan where there is none
abbrev pub found_or : Bytes → Bytes → Plan TextRead KbuildBad → Option Bytes → Plan TextRead KbuildBad
found_or folder file other (Some bytes) = of_result (text_read folder file bytes)
found_or folder file other None = other

-- the `Kbuild` of a folder, which has this name, or where there is none its `Makefile`
abbrev pub kbuild_or_plan : Bytes → Bytes → Bytes → Plan TextRead KbuildBad
kbuild_or_plan base folder kbuild = Asks kbuild (found_or folder kbuild (makefile_plan base folder))

-- the same, or no listing where there is no such name
abbrev pub asked : Bytes → Bytes → Option Bytes → Plan TextRead KbuildBad
asked base folder None = of_result (unread folder)
asked base folder (Some kbuild) = kbuild_or_plan base folder kbuild

-- the text of a folder, relative to the base
abbrev pub folder_plan : Bytes → Bytes → Plan TextRead KbuildBad
folder_plan base folder = asked base folder (file_at base folder (codes "Kbuild"))
