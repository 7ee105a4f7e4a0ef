-- Small texts of folders, with the files that they name, written out by hand.
use Rattle.std.proofs.Common.{◌≡◌, ◌++◌, ℕ, refl, List, [], ◌∷◌, Result, Ok, Err, codes}
use Rattle.std.specs.Str.{is_utf8, chars}
use Rattle.ut_text.specs.Bytes.{Bytes, newline}
use Rattle.kbuild_paths.specs.Paths.{Conds, NamedFile}
use Rattle.kbuild_paths.specs.declared.step.Step.{Step}
use Rattle.kbuild_paths.specs.declared.step.Step.TheVariants.{On}
use Rattle.kbuild_text.specs.Listings.{listings_in}
use Rattle.kbuild_text.specs.declared.listings.Listing.{Listing}
use Rattle.kbuild_folders.specs.Folders.{folders_of}
use Rattle.kbuild_cond.specs.Reading.{conds_of}
use Rattle.kbuild_folders.specs.declared.texts.TextRead.{TextRead}

-- lines of a text
abbrev lines : List Bytes → Bytes
lines [] = []
lines (l ∷ ls) = l ++ newline ∷ lines ls

abbrev listed : Result (List Listing) ℕ → List Listing
listed (Ok listings) = listings
listed (Err line) = []

-- the text of a folder
abbrev text : Bytes → List Bytes → TextRead
text folder ls = record { folder = folder; listings = listed (listings_in (lines ls)) }

abbrev file : Bytes → List (List Step) → NamedFile
file name paths = record { name = name; paths = paths }

abbrev named : List NamedFile → Conds
named files = record { folder = []; files = files }

abbrev a : Step
a = On (codes "A")

abbrev b : Step
b = On (codes "B")

abbrev c : Step
c = On (codes "C")

-- an object, and one in a folder
in_folder : conds_of [] (text [] (codes "obj-$(CONFIG_A) += a.o d/" ∷ []) ∷ text (codes "d/") (codes "obj-y += b.o" ∷ []) ∷ [])
    ≡ Ok (named (file (codes "a") ((a ∷ []) ∷ []) ∷ file (codes "d/b") ((a ∷ []) ∷ []) ∷ []))
unfolding is_utf8 chars lib.Utf8.encode
in_folder = refl

-- a part is named before its whole
part_first : conds_of [] (text [] (codes "w-y += p.o" ∷ codes "obj-$(CONFIG_A) += w.o" ∷ []) ∷ []) ≡ Ok (named (file (codes "p") ((a ∷ []) ∷ []) ∷ file (codes "w") ((a ∷ []) ∷ []) ∷ []))
unfolding is_utf8 chars lib.Utf8.encode
part_first = refl

-- a folder that a text read after its own names too
named_late : conds_of [] (text [] (codes "obj-$(CONFIG_A) += a/b/" ∷ codes "obj-$(CONFIG_B) += a/" ∷ []) ∷ text (codes "a/b/") (codes "obj-y += y.o" ∷ [])
    ∷ text (codes "a/") (codes "obj-$(CONFIG_C) += b/" ∷ []) ∷ [])
    ≡ Ok (named (file (codes "a/b/y") ((a ∷ []) ∷ (b ∷ c ∷ []) ∷ []) ∷ []))
unfolding is_utf8 chars lib.Utf8.encode
named_late = refl

-- folders in order of first mention
in_order : folders_of [] (text [] (codes "obj-y += d/ e/ d/" ∷ []) ∷ text (codes "d/") (codes "obj-y += f/" ∷ []) ∷ []) ≡ [] ∷ codes "d/" ∷ codes "e/" ∷ codes "d/f/" ∷ []
unfolding is_utf8 chars lib.Utf8.encode
in_order = refl
