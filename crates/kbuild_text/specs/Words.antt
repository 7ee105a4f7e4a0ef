-- The words of a line: they are separated by spaces and tabs, and a macro call belongs to its word. Rule: GNU make,
-- "Basics of Variable References" and "How to Use Variables"; that other white space separates nothing is this project's.
use Rattle.std.specs.Prelude.{ℕ, Bool, false, not, ◌&&◌, ◌++◌, List, [], ◌∷◌, Option, None, Some, if◌then◌else◌}
use Rattle.ut_text.specs.Bytes.{Bytes, space}
use Rattle.ut_text.specs.ByteClasses.{is_blank}
use Rattle.kbuild_text.specs.declared.marks.Mark.{Mark}

-- a space or a tab outside of macro calls
abbrev pub separates : Mark → Bool
separates mark = not mark.in_call && is_blank mark.byte

-- every other byte
abbrev pub is_of_word : Mark → Bool
is_of_word mark = not (separates mark)

-- whether a line begins with a word
abbrev pub begins_word : List Mark → Bool
begins_word [] = false
begins_word (m ∷ ms) = is_of_word m

-- a byte in front of the first word
abbrev pub onto_first : Mark → List (List Mark) → List (List Mark)
onto_first m [] = (m ∷ []) ∷ []
onto_first m (word ∷ words) = (m ∷ word) ∷ words

-- the words of a line, in order: what stands between separators
abbrev pub words_of : List Mark → List (List Mark)
words_of [] = []
words_of (m ∷ ms) = if separates m then words_of ms else if begins_word ms then onto_first m (words_of ms) else (m ∷ []) ∷ words_of ms

-- the word where there is just one
abbrev pub only : List (List Mark) → Option (List Mark)
only [] = None
only (word ∷ []) = Some word
only (word ∷ other ∷ words) = None

abbrev pub none : Option (List Mark)
none = None

-- texts, each after a space
abbrev pub spaced : List Bytes → Bytes
spaced [] = []
spaced (t ∷ ts) = space ∷ t ++ spaced ts

-- texts with a space between them
abbrev pub joined : List Bytes → Bytes
joined [] = []
joined (t ∷ ts) = t ++ spaced ts
