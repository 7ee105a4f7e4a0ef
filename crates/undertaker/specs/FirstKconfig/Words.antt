-- What the readers of words promise each other.
use Rattle.std.specs.Prelude.{◌≡◌, ◌++◌, Bool, not, Option, None, Some, List, [], ◌∷◌, if◌then◌else◌}
use Rattle.ut_text.specs.Bytes.{Bytes}
use Rattle.undertaker.specs.FirstKconfig.Form.{words_of, names_from}

-- the words after the first one, of what stands after it
abbrev pub later_words : Bytes → List Bytes
later_words [] = []
later_words (b ∷ s) = words_of s

-- names in front of others, if those are there
abbrev pub with_names : List Bytes → Option (List Bytes) → Option (List Bytes)
with_names front None = None
with_names front (Some names) = Some (front ++ names)

-- a word that stands where one like it is wanted, and the names after it; or no names are there
abbrev pub Takes : Bool → Bytes → List Bytes → List Bytes → Bool → Type 0
Takes wants word old new ok =
    (ws : List Bytes) → with_names old (names_from wants (word ∷ ws)) ≡ (if ok then with_names new (names_from (not wants) ws) else None)
