-- The first form of Kconfig texts that is read, and the line that is named where a text is not of this form.
-- This project's rule; what is read means what Linux kconfig-language says of `config`, `bool` and `depends on`.
use Rattle.std.specs.Prelude.{ℕ, ◌+◌, ◌-◌, Bool, true, false, not, ◌==◌, ◌||◌, ◌&&◌, nat_eq, nat_le, bytes_eq, codes, length, drop, ◌++◌, Option, None, Some, Result, Ok, Err, List, [], ◌∷◌, if◌then◌else◌}
use Rattle.std.specs.List.{list_any, list_all, prefix_len, starts_with}
use Rattle.ut_text.specs.Bytes.{Bytes}
use Rattle.ut_text.specs.Text.{text_eq}
use Rattle.kconf_entries.specs.BoolEntries.{bool_entry}
use Rattle.kconf_entries.specs.declared.entries.ConfigEntry.{ConfigEntry}
use Rattle.kconf_entries.specs.declared.entries.Entries.{Entries}
use Rattle.undertaker.specs.declared.first_kconfig.form.Place.{Place}
use Rattle.undertaker.specs.declared.first_kconfig.form.Place.TheVariants.{Start, Heading, Entry}
use Rattle.undertaker.specs.declared.first_kconfig.lines.FirstLine.{FirstLine}
use Rattle.undertaker.specs.declared.first_kconfig.lines.FirstLine.TheVariants.{Config, Prompt, Depends, Other}
use Rattle.ut_text.specs.ByteClasses.{is_capital, is_name_byte}
use Rattle.ut_text.specs.Lines.{lines_of}
use Rattle.ut_text.specs.Results.{◌>>=◌}

-- a name is a capital letter, followed by letters, digits and `_`
abbrev pub is_name : Bytes → Bool
is_name [] = false
is_name (b ∷ s) = is_capital b && list_all is_name_byte s

-- a byte that a prompt's text holds: none of `"`, `'`, `\`, `$`
abbrev pub is_text_byte : ℕ → Bool
is_text_byte b = not (b == 34 || b == 39 || b == 92 || b == 36)

-- a text, and the quote after it that ends the line
abbrev pub ends_quoted : Bytes → Bool
ends_quoted s = bytes_eq (drop (prefix_len is_text_byte s) s) (34 ∷ [])

-- words are cut at spaces
abbrev pub is_word_byte : ℕ → Bool
is_word_byte b = not (b == 32)

-- a byte in front of the first word
abbrev pub onto_word : ℕ → List Bytes → List Bytes
onto_word b [] = (b ∷ []) ∷ []
onto_word b (w ∷ ws) = (b ∷ w) ∷ ws

-- the words between single spaces
abbrev pub words_of : Bytes → List Bytes
words_of [] = [] ∷ []
words_of (b ∷ s) = if b == 32 then [] ∷ words_of s else onto_word b (words_of s)

-- a name in front of others
abbrev pub with_name : Bytes → Option (List Bytes) → Option (List Bytes)
with_name w None = None
with_name w (Some ws) = Some (w ∷ ws)

-- names joined by `&&`: where a name is wanted one stands, and after it the end or `&&`
abbrev pub names_from : Bool → List Bytes → Option (List Bytes)
names_from true [] = None
names_from true (w ∷ ws) = if is_name w then with_name w (names_from false ws) else None
names_from false [] = Some []
names_from false (w ∷ ws) = if bytes_eq w (codes "&&") then names_from true ws else None

-- a line of names, or another one
abbrev pub depends_line : Option (List Bytes) → FirstLine
depends_line None = Other
depends_line (Some names) = Depends names

-- `config NAME`
abbrev pub is_config : Bytes → Bool
is_config line = starts_with nat_eq line (codes "config ") && is_name (drop 7 line)

-- a tab (byte 9) and `bool "TEXT"`
abbrev pub is_prompt : Bytes → Bool
is_prompt line = starts_with nat_eq line (9 ∷ codes "bool \"") && ends_quoted (drop 7 line)

-- a tab and `depends on `
abbrev pub is_depends : Bytes → Bool
is_depends line = starts_with nat_eq line (9 ∷ codes "depends on ")

-- what a line says
abbrev pub first_line : Bytes → FirstLine
first_line line =
    if is_config line then Config (drop 7 line)
    else if is_prompt line then Prompt
    else if is_depends line then depends_line (names_from true (words_of (drop 12 line))) else Other

-- the names that are declared so far, and the place: at the start, after a `config` line, or in an entry
pub record Reading : Type 0 where
  pub declared : List Bytes
  pub place : Place

-- what stands before the first line
abbrev pub start : Reading
start = record { declared = []; place = Start }

-- whether a name is declared
abbrev pub is_declared : List Bytes → Bytes → Bool
is_declared declared name = list_any (text_eq name) declared

-- whether a name is that of an entry before the one with this name
abbrev pub is_earlier : List Bytes → Bytes → Bytes → Bool
is_earlier declared own name = is_declared declared name && not (text_eq name own)

-- the entry that ends at a place, if one does; after a `config` line none may end
abbrev pub ended : Place → Option (List ConfigEntry)
ended Start = Some []
ended (Heading name) = None
ended (Entry name needs) = Some (bool_entry name needs ∷ [])

-- whether a name cannot begin one more entry: it is declared, or there are 4,096 entries
abbrev pub is_refused : List Bytes → Bytes → Bool
is_refused declared name = is_declared declared name || nat_le 4096 (length declared)

-- a `config` line after the entry that it ends
abbrev pub heading : List Bytes → Bytes → Option (List ConfigEntry) → Option (Reading × List ConfigEntry)
heading declared name None = None
heading declared name (Some done) =
    if is_refused declared name then None else Some (record { declared = declared ++ name ∷ []; place = Heading name }, done)

-- a line of names, each of them that of an earlier entry
abbrev pub needing : List Bytes → Bytes → List Bytes → List Bytes → Option (Reading × List ConfigEntry)
needing declared name needs names =
    if list_all (is_earlier declared name) names then Some (record { declared = declared; place = Entry name (needs ++ names) }, []) else None

-- a line where the form allows it, and the entry that it ends
abbrev pub step : List Bytes → Place → FirstLine → Option (Reading × List ConfigEntry)
step declared place (Config new) = heading declared new (ended place)
step declared (Heading name) Prompt = Some (record { declared = declared; place = Entry name [] }, [])
step declared (Entry name needs) (Depends names) = needing declared name needs names
step declared place line = None

-- a line that the form does not allow is named
abbrev pub at_line : {A : Type 0} → ℕ → Option A → Result A ℕ
at_line n None = Err n
at_line n (Some x) = Ok x

-- the entry that the end of the text ends, or the `config` line before it is named
abbrev pub at_end : ℕ → Place → Result (List ConfigEntry) ℕ
at_end n place = at_line (n - 1) (ended place)

-- the entries of the lines from number n on, or the number of the line that is named
abbrev pub read_lines : ℕ → Reading → List Bytes → Result (List ConfigEntry) ℕ
read_lines n r [] = at_end n r.place
read_lines n r (l ∷ ls) = at_line n (step r.declared r.place (first_line l)) >>= λ x. read_lines (n + 1) x.0 ls >>= λ es. Ok (x.1 ++ es)

-- the entries of a text of the form, which has no choices, or the number of the line that is named
abbrev pub first_tree_of : Bytes → Result Entries ℕ
first_tree_of bytes = read_lines 1 start (lines_of bytes) >>= λ es. Ok (record { configs = es; choices = [] })
