-- The word that names a directive, and the name that stands after it.
-- Rule: ISO C, "Preprocessing directives".
use Rattle.std.specs.Prelude.{Bool, false, bytes_eq, codes, take, drop, [], ◌∷◌, if◌then◌else◌}
use Rattle.std.specs.List.{prefix_len}
use Rattle.ut_text.specs.Bytes.{Bytes}
use Rattle.cpp_directives.specs.declared.part.Part.{Part}
use Rattle.cpp_directives.specs.declared.part.Part.TheVariants as part
use Rattle.cpp_read.specs.declared.words.Word.{Word}
use Rattle.cpp_read.specs.declared.words.Word.TheVariants.{If, Elif, Ifdef, Ifndef, Elifdef, Elifndef, Else, Endif, Define, Undef, Other}
use Rattle.cpp_read.specs.LogicalLines.{is_white}
use Rattle.ut_text.specs.ByteClasses.{begins_names, is_name_byte}

-- whether a text begins with a name
abbrev pub begins_name : Bytes → Bool
begins_name [] = false
begins_name (b ∷ s) = begins_names b

-- a text without its leading white space
abbrev pub after_white : Bytes → Bytes
after_white text = drop (prefix_len is_white text) text

-- the bytes of a name at the front, which may be none
abbrev pub name_at : Bytes → Bytes
name_at text = take (prefix_len is_name_byte text) text

-- what stands after it
abbrev pub after_name : Bytes → Bytes
after_name text = drop (prefix_len is_name_byte text) text

-- the word that names a directive of macros; all others are ignored
abbrev pub macro_word : Bytes → Word
macro_word word = if bytes_eq word (codes "define") then Define else if bytes_eq word (codes "undef") then Undef else Other

-- the word that goes on with a chain or ends it
abbrev pub chain_word : Bytes → Word
chain_word word =
    if bytes_eq word (codes "elif") then Elif
    else if bytes_eq word (codes "elifdef") then Elifdef
    else if bytes_eq word (codes "elifndef") then Elifndef
    else if bytes_eq word (codes "else") then Else
    else if bytes_eq word (codes "endif") then Endif else macro_word word

-- the word that names a directive
abbrev pub word_of : Bytes → Word
word_of word =
    if bytes_eq word (codes "if") then If
    else if bytes_eq word (codes "ifdef") then Ifdef
    else if bytes_eq word (codes "ifndef") then Ifndef else chain_word word

-- what a directive with this word does to chains of conditionals
abbrev pub part_of : Word → Part
part_of If = part.If
part_of Ifdef = part.If
part_of Ifndef = part.If
part_of Elif = part.Elif
part_of Elifdef = part.Elif
part_of Elifndef = part.Elif
part_of Else = part.Else
part_of Endif = part.Endif
part_of Define = part.Other
part_of Undef = part.Other
part_of Other = part.Other
