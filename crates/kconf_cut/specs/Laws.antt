-- Public laws, which the functions of src/laws.rt promise. This project's words.
use Rattle.std.specs.Prelude.{◌≡◌, ◌⊎◌, Bool, true, ◌++◌, Option, Some, List, [], ◌∷◌}
use Rattle.std.specs.List.{list_all}
use Rattle.ut_text.specs.Bytes.{Bytes}
use Rattle.ut_text.specs.ByteClasses.{is_blank}
use Rattle.kconf_entries.specs.declared.entries.Var.{Var}
use Rattle.kconf_words.specs.declared.line_words.LineWord.{LineWord}
use Rattle.kconf_cut.specs.Words.{begins_comment, word_at}

-- a line is its words, which read alone are these, with blanks before each, up to its end or its `#`
abbrev pub GivesBack : List Var → List LineWord → Bytes → Type 0
GivesBack vars [] line = (blanks : Bytes) × (rest : Bytes) × (line ≡ blanks ++ rest) × (list_all is_blank blanks ≡ true) × ((rest ≡ []) ⊎ (begins_comment rest ≡ true))
GivesBack vars (w ∷ ws) line = (blanks : Bytes) × (word : Bytes) × (rest : Bytes) × (line ≡ blanks ++ word ++ rest) × (list_all is_blank blanks ≡ true)
    × (word_at vars word ≡ Some (w, [])) × GivesBack vars ws rest
