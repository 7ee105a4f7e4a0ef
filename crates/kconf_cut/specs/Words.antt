-- The words of a logical line: unquoted words, quoted words and signs, with the values of macros put in; and the
-- lines without effect. Rule: Linux kconfig-language and kconfig-macro-language; that values are handed in, and not
-- looked at again, and how a word without its end is refused, are this project's.
use Rattle.std.specs.Prelude.{ℕ, ◌+◌, ◌-◌, Bool, true, false, ◌==◌, ◌&&◌, ◌||◌, nat_eq, codes, take, drop, ◌++◌, Option, None, Some, Result, Ok, Err, List, [], ◌∷◌, if◌then◌else◌}
use Rattle.std.specs.Option.{option_map, is_none}
use Rattle.std.specs.List.{list_any, prefix_len, starts_with}
use Rattle.ut_text.specs.Bytes.{Bytes, backslash, double_quote, number_sign, single_quote}
use Rattle.ut_text.specs.ByteClasses.{is_blank, is_name_byte}
use Rattle.ut_text.specs.Text.{text_eq}
use Rattle.kconf_entries.specs.declared.entries.Var.{Var}
use Rattle.kconf_words.specs.declared.line_words.Form.{Form}
use Rattle.kconf_words.specs.declared.line_words.Form.TheVariants.{Bare, Quoted, Sign}
use Rattle.kconf_words.specs.declared.line_words.LineWord.{LineWord}
use Rattle.kconf_words.specs.declared.line_bad.LineBad.{LineBad}
use Rattle.kconf_words.specs.declared.line_bad.LineBad.TheVariants.{Syntax}
use Rattle.kconf_words.specs.declared.line_bad.SyntaxKind.TheVariants.{Quote, Bracket}
use Rattle.kconf_lines.specs.Cut.{onto, cut}

-- ---- bytes

-- bytes of ASCII by their names
abbrev pub open_bracket : ℕ
open_bracket = 40

abbrev pub close_bracket : ℕ
close_bracket = 41

abbrev pub hyphen : ℕ
hyphen = 45

abbrev pub dot : ℕ
dot = 46

abbrev pub slash : ℕ
slash = 47

-- what an unquoted word is made of, besides macro calls
abbrev pub is_word_byte : ℕ → Bool
is_word_byte b = is_name_byte b || b == hyphen || b == dot || b == slash

-- what a quoted word stands between
abbrev pub is_mark : ℕ → Bool
is_mark b = b == double_quote || b == single_quote

-- whether this byte stands at the front
abbrev pub is_at : ℕ → Bytes → Bool
is_at byte [] = false
is_at byte (b ∷ s) = b == byte

-- whether a text begins with these bytes
abbrev pub begins_with : Bytes → Bytes → Bool
begins_with bytes s = starts_with nat_eq s bytes

-- a text without the blanks before it
abbrev pub unblanked : Bytes → Bytes
unblanked s = drop (prefix_len is_blank s) s

-- ---- macro calls

-- a part of a word: a macro call, by what stands between `$(` and its `)`, or a byte
pub data Part : Type 0 where
  Call : Bytes → Part
  Byte : ℕ → Part

-- how many parentheses are open in a call after a byte of it
abbrev pub depth_after : ℕ → ℕ → ℕ
depth_after depth b = if b == open_bracket then depth + 1 else if b == close_bracket then depth - 1 else depth

-- what stands before the `)` that closes a call, and what is left after it; none where nothing closes it
abbrev pub closed : ℕ → Bytes → Option (Bytes × Bytes)
closed depth [] = None
closed depth (b ∷ s) = if b == close_bracket && depth == 0 then Some ([], s) else option_map (onto b) (closed (depth_after depth b) s)

-- whether a text begins with a macro call
abbrev pub begins_call : Bytes → Bool
begins_call s = begins_with (codes "$(") s

-- the macro call that a text begins with, where it is closed
abbrev pub first_call : Bytes → Option (Part × Bytes)
first_call s = option_map (λ c. (Part.Call c.0, c.1)) (closed 0 (drop 2 s))

-- the value that is handed in for a name
abbrev pub value_of : List Var → Bytes → Option Bytes
value_of [] name = None
value_of (v ∷ vs) name = if text_eq v.name name then Some v.value else value_of vs name

-- a call is its value, or as it is written where none is handed in
abbrev pub call_text : Bytes → Option Bytes → Bytes
call_text name None = codes "$(" ++ name ++ codes ")"
call_text name (Some value) = value

-- ---- parts of words

-- an unquoted word goes on with a macro call or a byte of words
abbrev pub unquoted : Bytes → Option (Part × Bytes)
unquoted [] = None
unquoted (b ∷ s) = if begins_call (b ∷ s) then first_call (b ∷ s) else if is_word_byte b then Some (Part.Byte b, s) else None

-- a byte after a backslash is taken as it is
abbrev pub as_it_is : Bytes → Option (Part × Bytes)
as_it_is [] = None
as_it_is (b ∷ s) = Some (Part.Byte b, s)

-- a quoted word goes on up to its mark
abbrev pub quoted : ℕ → Bytes → Option (Part × Bytes)
quoted mark [] = None
quoted mark (b ∷ s) = if b == mark then None
    else if begins_call (b ∷ s) then first_call (b ∷ s)
    else if b == backslash then as_it_is s
    else Some (Part.Byte b, s)

-- ---- lines without effect

-- the signs of an assignment
abbrev pub begins_assigning : Bytes → Bool
begins_assigning s = begins_with (codes "=") s || begins_with (codes ":=") s || begins_with (codes "+=") s

-- whether a first word stands there, and a sign of assignment after it
abbrev pub is_assigned : List Part × Bytes → Bool
is_assigned ([], rest) = false
is_assigned (p ∷ ps, rest) = begins_assigning (unblanked rest)

-- a line is without effect that begins with a macro call, or with an unquoted word and `=`, `:=` or `+=` after it
abbrev pub has_no_effect : Bytes → Bool
has_no_effect line = begins_call (unblanked line) || is_assigned (cut unquoted (unblanked line))

-- ---- words

-- the signs of two bytes; every other byte that is part of no word is a sign by itself
abbrev pub is_pair : Bytes → Bool
is_pair s = begins_with (codes "!=") s || begins_with (codes "<=") s || begins_with (codes ">=") s || begins_with (codes "&&") s || begins_with (codes "||") s

-- a sign of so many bytes, and what is left
abbrev pub sign_of : ℕ → Bytes → LineWord × Bytes
sign_of size s = (record { form = Sign; text = take size s; has_call = false }, drop size s)

-- whether the rest of the line is dropped
abbrev pub begins_comment : Bytes → Bool
begins_comment s = is_at number_sign s

-- where no word can be cut off, the line is at its end, at a quoted word without its end, or at a call without its end
abbrev pub all_words : List LineWord → Bytes → Result (List LineWord) LineBad
all_words ws [] = Ok ws
all_words ws (b ∷ s) = if begins_comment (b ∷ s) then Ok ws else if is_mark b then Err (Syntax Quote) else Err (Syntax Bracket)

module _ (vars : List Var) where
  -- the text of a part
  abbrev pub part_text : Part → Bytes
  part_text (Part.Call name) = call_text name (value_of vars name)
  part_text (Part.Byte b) = b ∷ []

  -- whether a part is a macro call that has no value
  abbrev pub is_left : Part → Bool
  is_left (Part.Call name) = is_none (value_of vars name)
  is_left (Part.Byte b) = false

  -- the text of these parts
  abbrev pub text_of_parts : List Part → Bytes
  text_of_parts [] = []
  text_of_parts (p ∷ ps) = part_text p ++ text_of_parts ps

  -- a word of these parts
  abbrev pub word_of : Form → List Part → LineWord
  word_of form parts = record { form = form; text = text_of_parts parts; has_call = list_any is_left parts }

  -- a quoted word, where its mark stands after it
  abbrev pub quoted_word : ℕ → List Part × Bytes → Option (LineWord × Bytes)
  quoted_word mark p = if is_at mark p.1 then Some (word_of Quoted p.0, drop 1 p.1) else None

  -- an unquoted word, where each of its calls has an end
  abbrev pub unquoted_word : List Part × Bytes → Option (LineWord × Bytes)
  unquoted_word p = if begins_call p.1 then None else Some (word_of Bare p.0, p.1)

  -- the word that a text begins with, and what is left after it; none where the text ends, at `#`, and at a word
  -- without its end
  abbrev pub word_at : Bytes → Option (LineWord × Bytes)
  word_at [] = None
  word_at (b ∷ s) = if is_mark b then quoted_word b (cut (quoted b) s)
      else if is_word_byte b || begins_call (b ∷ s) then unquoted_word (cut unquoted (b ∷ s))
      else if begins_comment (b ∷ s) then None
      else if is_pair (b ∷ s) then Some (sign_of 2 (b ∷ s)) else Some (sign_of 1 (b ∷ s))

  -- blanks separate words
  abbrev pub first_word : Bytes → Option (LineWord × Bytes)
  first_word line = word_at (unblanked line)

  -- the words of a logical line, or its first fault; one without effect has none
  abbrev pub words_of : Bytes → Result (List LineWord) LineBad
  words_of line = if has_no_effect line then Ok []
      else (let p = cut first_word line in all_words p.0 (unblanked p.1))
