-- What the readers of words promise each other.
use Rattle.std.specs.Prelude.{◌≡◌, ℕ, suc, Bool, true, false, not, ◌==◌, ◌&&◌, ◌||◌, nat_eq, take, drop, ◌++◌, Option, None, Some, Result, Ok, Err, List, [], ◌∷◌, if◌then◌else◌}
use Rattle.std.specs.Option.{option_map}
use Rattle.std.specs.List.{list_any}
use Rattle.std.specs.Borrow.{Bor}
use Rattle.std.specs.declared.vec.Vec.{Vec}
use Rattle.std.specs.declared.alloc.Global.{Global}
use Rattle.ut_text.specs.Bytes.{Bytes, backslash}
use Rattle.kconf_entries.specs.declared.entries.Var.{Var}
use Rattle.kconf_words.specs.declared.line_words.Form.TheVariants.{Bare, Quoted}
use Rattle.kconf_words.specs.declared.line_words.LineWord.{LineWord}
use Rattle.kconf_words.specs.declared.line_bad.LineBad.{LineBad}
use Rattle.kconf_words.specs.Faults.{Fails}
use Rattle.kconf_lines.specs.Cut.{cut}
use Rattle.kconf_cut.specs.declared.parts.Run.{Run}
use Rattle.kconf_cut.specs.declared.parts.Run.TheVariants.{Unquoted, QuotedBy}
use Rattle.kconf_cut.specs.declared.parts.PartText.{PartText}
use Rattle.kconf_cut.specs.declared.parts.PartText.TheVariants as part
use Rattle.kconf_cut.specs.declared.held.Held.{Held}
use Rattle.kconf_cut.specs.Words.{Part, depth_after, close_bracket, unquoted, quoted, begins_call, is_at, is_word_byte, text_of_parts, is_left, is_assigned, quoted_word, unquoted_word}

-- two texts, a part or a word, as they are seen
abbrev pub both_now : Bor Bytes × Bor Bytes → Bytes × Bytes
both_now p = (p.0.now, p.1.now)

abbrev pub part_shown : PartText → Part
part_shown (part.Call name) = Part.Call name.now
part_shown (part.Byte b) = Part.Byte b

abbrev pub part_at : PartText × Bor Bytes → Part × Bytes
part_at p = (part_shown p.0, p.1.now)

abbrev pub word_now : LineWord × Bor Bytes → LineWord × Bytes
word_now w = (w.0, w.1.now)

-- how many bytes stand before the `)` that closes a call; none where nothing closes it
abbrev pub closed_len : ℕ → Bytes → Option ℕ
closed_len depth [] = None
closed_len depth (b ∷ s) = if b == close_bracket && depth == 0 then Some 0 else option_map (λ n. suc n) (closed_len (depth_after depth b) s)

-- a text before and after the byte at this place
abbrev pub split_by : Bytes → Option ℕ → Option (Bytes × Bytes)
split_by s None = None
split_by s (Some n) = Some (take n s, drop (suc n) s)

-- the first part of a word of this kind
abbrev pub parts_of : Run → Bytes → Option (Part × Bytes)
parts_of Unquoted s = unquoted s
parts_of (QuotedBy mark) s = quoted mark s

-- 36 is `$`
abbrev pub is_plain : Run → ℕ → Bool
is_plain Unquoted b = is_word_byte b
is_plain (QuotedBy mark) b = not (b == mark) && not (b == 36) && not (b == backslash)

-- what is read of a word: its text, whether a macro call is left in it, and what stands after it
pub record HeldParts : Type 0 where
  pub text : Bytes
  pub has_call : Bool
  pub rest : Bytes

abbrev pub parts_held : List Var → List Part × Bytes → HeldParts
parts_held vars p = record { text = text_of_parts vars p.0; has_call = list_any (is_left vars) p.0; rest = p.1 }

abbrev pub held_of : List Var → Run → Bytes → HeldParts
held_of vars run s = parts_held vars (cut (parts_of run) s)

abbrev pub held_shown : Held → HeldParts
held_shown h = record { text = h.text.items; has_call = h.has_call; rest = h.rest.now }

-- these, after a text and parts before them
abbrev pub held_after : Bytes → Bool → HeldParts → HeldParts
held_after text has_call h = record { text = text ++ h.text; has_call = has_call || h.has_call; rest = h.rest }

-- what stands after the parts of an unquoted word
abbrev pub after_unquoted : Bytes → Bytes
after_unquoted s = (cut unquoted s).1

abbrev pub is_assigned_at : Bytes → Bool
is_assigned_at s = is_assigned (cut unquoted s)

-- the words of what was read
abbrev pub quoted_by : ℕ → HeldParts → Option (LineWord × Bytes)
quoted_by mark h = if is_at mark h.rest then Some (record { form = Quoted; text = h.text; has_call = h.has_call }, drop 1 h.rest) else None

abbrev pub unquoted_by : HeldParts → Option (LineWord × Bytes)
unquoted_by h = if begins_call h.rest then None else Some (record { form = Bare; text = h.text; has_call = h.has_call }, h.rest)

-- the words of their parts
abbrev pub quoted_of : List Var → ℕ → Bytes → Option (LineWord × Bytes)
quoted_of vars mark s = quoted_word vars mark (cut (quoted mark) s)

abbrev pub unquoted_of : List Var → Bytes → Option (LineWord × Bytes)
unquoted_of vars s = unquoted_word vars (cut unquoted s)

-- the words that reading gives, or its fault
abbrev pub GivesWords : Result (Vec LineWord Global) LineBad → Result (List LineWord) LineBad → Type 0
GivesWords (Ok v) read = read ≡ Ok v.items
GivesWords (Err e) read = Fails e read
