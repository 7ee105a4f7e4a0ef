-- Which words of a Kbuild text name a file: their name with the folder of their text is a name of a file. This project's
-- rule; a name stands relative to the folder of the root text, which is called the base.
use Rattle.std.specs.Prelude.{ℕ, Bool, ◌++◌, [], ◌∷◌, Option, None, Some, is_some, Vec, codes, if◌then◌else◌}
use Rattle.std.specs.Option.{option_map}
use Rattle.std.specs.Str.{is_utf8}
use Rattle.std.specs.declared.alloc.Global.{Global}
use Rattle.ut_text.specs.Bytes.{Bytes}
use Rattle.ut_base.specs.Names.{named}

-- the name that bytes are: UTF-8 that is not empty, not too long, and without NUL and newline
abbrev pub file_name : Bytes → Option Bytes
file_name bytes = if is_utf8 bytes then named bytes else None

-- the name of a file in a folder
abbrev pub file_at : Bytes → Bytes → Bytes → Option Bytes
file_at base folder file = file_name (base ++ folder ++ file)

-- the object `x.o` of a text in this folder, without `.o`, where that is the name of a file
abbrev pub object_at : Bytes → Bytes → Bytes → Option Bytes
object_at base folder name = if is_some (file_at base folder (name ++ codes ".o")) then Some (folder ++ name) else None

-- the folder with such a name, where its `Makefile` has the name of a file
abbrev pub named_folder : Bytes → Bytes → Bytes → Option Bytes
named_folder base folder name = if is_some (file_at base folder (name ++ codes "Makefile")) then Some (folder ++ name) else None

-- the folder that a text in this folder names by a word, where its `Makefile` has the name of a file
abbrev pub folder_at : Bytes → Bytes → Bytes → Option Bytes
folder_at base folder [] = None
folder_at base folder (b ∷ word) = named_folder base folder (b ∷ word)

-- bytes that may be absent
abbrev pub bytes_in : Option (Vec ℕ Global) → Option Bytes
bytes_in found = option_map (λ v. v.items) found
