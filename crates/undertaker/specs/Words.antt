-- The form of the words: `-j dead --kconfig K F`, with the names of two different files.
-- This project's rule.
use Rattle.std.specs.Prelude.{Bool, ◌&&◌, not, List, [], ◌∷◌, Option, Some, None, if◌then◌else◌, codes}
use Rattle.std.specs.Str.{bytes_eq}
use Rattle.ut_text.specs.Bytes.{Bytes}
use Rattle.ut_text.specs.Text.{text_eq}
use Rattle.ut_base.specs.Names.{is_name}

-- the words in front of the two names
abbrev pub is_dead_job : Bytes → Bytes → Bytes → Bool
is_dead_job j job option = bytes_eq j (codes "-j") && (bytes_eq job (codes "dead") && bytes_eq option (codes "--kconfig"))

-- two different names
abbrev pub are_names : Bytes → Bytes → Bool
are_names kconfig source = is_name kconfig && (is_name source && not (text_eq kconfig source))

-- the names of the Kconfig text and the source, where the words have the form
abbrev pub names_in : List Bytes → Option (Bytes × Bytes)
names_in (j ∷ job ∷ option ∷ kconfig ∷ source ∷ []) =
    if is_dead_job j job option && are_names kconfig source then Some (kconfig, source) else None
names_in words = None
