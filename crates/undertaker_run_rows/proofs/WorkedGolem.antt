-- What golem comes to over given files, computed.
use Rattle.std.proofs.Common.{◌≡◌, refl, [], ◌∷◌, Result, Ok, Err}
use Rattle.std.specs.Prelude.{codes}
use Rattle.std.specs.Fmt.{digits}
use Rattle.std.specs.Str.{chars, is_utf8}
use Rattle.kbuild_folders.specs.Folders.{most_folders}
use Rattle.undertaker_run_rows.specs.Worked.{file, golem, lines, nothing}

pub in_folder : golem (file (codes "Makefile") (codes "obj-$(CONFIG_A) += a.o d/" ∷ []) (file (codes "d/Makefile") (codes "obj-y += b.o" ∷ []) nothing)) (codes "Makefile")
    ≡ Ok (lines (codes "a CONFIG_A" ∷ codes "d/b CONFIG_A" ∷ []))
unfolding is_utf8 most_folders chars lib.Utf8.encode
in_folder = refl

pub conditional : golem (file (codes "Makefile") (codes "ifdef CONFIG_A" ∷ codes "obj-y += a.o" ∷ codes "endif" ∷ []) nothing) (codes "Makefile") ≡ Ok (lines (codes "a \"ifdef CONFIG_A\"" ∷ []))
unfolding is_utf8 most_folders chars lib.Utf8.encode
conditional = refl

pub without_partner : golem (file (codes "Makefile") (codes "endif" ∷ []) nothing) (codes "Makefile") ≡ Err (codes "Makefile:1: kbuild")
unfolding digits
without_partner = refl

pub without_text : golem (file (codes "Makefile") (codes "obj-y += d/" ∷ []) nothing) (codes "Makefile") ≡ Err (codes "d/Makefile: missing")
unfolding is_utf8 most_folders chars lib.Utf8.encode
without_text = refl
