-- The lines of a text and the text of lines.
use Rattle.std.proofs.Common.{◌≡◌, ◌≢◌, ℕ, ◌+◌, ◌-◌, ◌<◌, ◌≤◌, Bool, true, false, List, [], ◌∷◌, ◌++◌, length, get_or, take, drop, refl, sym, ap, ◌∙◌, arith, append_assoc}
use Rattle.std.specs.Prelude.{◌==◌, All, codes, if◌then◌else◌, None, Some}
use Rattle.std.specs.List.{concat}
use Rattle.std.proofs.lemmas.Bool.{ne_eqb, eqb-true, eq-eqb}
use Rattle.std.proofs.lemmas.List.{take-append-drop, drop_more, take_rest, get_or-take, get_or_default, get_or_push, length_push, length-take-le}
use Rattle.std.proofs.lemmas.List.Elements.{All-head, All-tail}
use Rattle.memchr.specs.Find.{IsFirstByte, is_byte}
use Rattle.ut_text.specs.Bytes.{Bytes, newline}
use Rattle.ut_text.specs.Lines.{onto_first}
use Rattle.line_texts.specs.Lines.{lines_of, whole_lines, text_of, HasNoNewline}

-- no byte of a line is a newline
plain_head : (b : ℕ) (line : Bytes) → HasNoNewline (b ∷ line) → (b == newline) ≡ false
plain_head b line h = ne_eqb b newline (All-head (λ c. c ≢ newline) b line h)

plain_tail : (b : ℕ) (line : Bytes) → HasNoNewline (b ∷ line) → HasNoNewline line
plain_tail b line h = All-tail (λ c. c ≢ newline) b line h

-- a line up to its newline
pub line_and_rest : (line rest : Bytes) → HasNoNewline line → lines_of (line ++ codes "\n" ++ rest) ≡ line ∷ lines_of rest
line_and_rest [] rest h = refl
line_and_rest (b ∷ line) rest h = rw (plain_head b line h) (ap (onto_first b) (line_and_rest line rest (plain_tail b line h)))

-- a last line without its newline
pub last_line : (line : Bytes) → 0 < length line → HasNoNewline line → lines_of line ≡ line ∷ []
last_line [] some h = absurd (omega (arith, some))
last_line (b ∷ []) some h = rw (plain_head b [] h) refl
last_line (b ∷ c ∷ line) some h = rw (plain_head b (c ∷ line) h) (ap (onto_first b) (last_line (c ∷ line) (omega arith) (plain_tail b (c ∷ line) h)))

-- what is written is read back, line by line
pub lines_of-text_of : (lines : List Bytes) → All HasNoNewline lines → lines_of (text_of lines) ≡ lines
lines_of-text_of [] h = refl
lines_of-text_of (line ∷ lines) h =
    line_and_rest line (text_of lines) (All-head HasNoNewline line lines h)
    ∙ ap (λ ls. line ∷ ls) (lines_of-text_of lines (All-tail HasNoNewline line lines h))

-- a line with its newline, and the lines after it
pub whole_line_and_rest : (line rest : Bytes) → HasNoNewline line → whole_lines (line ++ codes "\n" ++ rest) ≡ (line ++ codes "\n") ∷ whole_lines rest
whole_line_and_rest [] rest h = refl
whole_line_and_rest (b ∷ line) rest h = rw (plain_head b line h) (ap (onto_first b) (whole_line_and_rest line rest (plain_tail b line h)))

-- a last line that lacks its newline
pub whole_last_line : (line : Bytes) → 0 < length line → HasNoNewline line → whole_lines line ≡ line ∷ []
whole_last_line [] some h = absurd (omega (arith, some))
whole_last_line (b ∷ []) some h = rw (plain_head b [] h) refl
whole_last_line (b ∷ c ∷ line) some h = rw (plain_head b (c ∷ line) h) (ap (onto_first b) (whole_last_line (c ∷ line) (omega arith) (plain_tail b (c ∷ line) h)))

-- bytes before the first newline
pub plain_before : (text : Bytes) (p : ℕ) → IsFirstByte (is_byte newline) text (Some p) → HasNoNewline (take p text)
plain_before text p f k d h e =
    let within : p ≤ length text = omega (arith, f.0.high) in
    let below : k < p = omega (arith, length-take-le p text within) in
    let here : get_or text k 0 ≡ newline = get_or_default text k 0 d (omega arith) ∙ sym (get_or-take p text k d below) ∙ e in
    f.0.before k (omega arith) below (eq-eqb (get_or text k 0) newline here)

-- bytes without a newline
pub plain_whole : (text : Bytes) → IsFirstByte (is_byte newline) text None → HasNoNewline text
plain_whole text f k d h e = f k (omega arith) h (eq-eqb (get_or text k 0) newline (get_or_default text k 0 d h ∙ e))

-- the first newline cuts a text in two
pub cut_at_newline : (text : Bytes) (p : ℕ) → IsFirstByte (is_byte newline) text (Some p) → text ≡ take p text ++ codes "\n" ++ take (length text - (p + 1)) (drop (p + 1) text)
cut_at_newline text p f =
    let here : get_or text p 0 ≡ newline = eqb-true (get_or text p 0) newline f.1 in
    sym (take-append-drop p text)
    ∙ ap (λ t. take p text ++ t) (drop_more text p 0 f.0.high ∙ ap (λ b. b ∷ drop (p + 1) text) here ∙ ap (λ t. newline ∷ t) (sym (take_rest text (p + 1))))
    ∙ sym (append_assoc (take p text) (codes "\n") (take (length text - (p + 1)) (drop (p + 1) text)))

concat-onto_first : (b : ℕ) (lines : List Bytes) → concat (onto_first b lines) ≡ b ∷ concat lines
concat-onto_first b [] = refl
concat-onto_first b (line ∷ lines) = refl

-- the lines with their newlines are the text
pub concat-whole_lines : (text : Bytes) → concat (whole_lines text) ≡ text
concat-whole_lines [] = refl
concat-whole_lines (b ∷ text) = by (b == newline) refl (concat-whole_lines text)
  where
    by : (t : Bool) → (b == newline) ≡ t → concat (whole_lines text) ≡ text → concat (if t then codes "\n" ∷ whole_lines text else onto_first b (whole_lines text)) ≡ b ∷ text
    by true e h = ap (λ s. newline ∷ s) h ∙ ap (λ c. c ∷ text) (sym (eqb-true b newline e))
    by false e h = concat-onto_first b (whole_lines text) ∙ ap (λ s. b ∷ s) h

-- a line with its newline isn't a text without one
pub newline_at_end : (text line : Bytes) → HasNoNewline text → text ≢ line ++ codes "\n"
newline_at_end text line h e =
    let last : get_or text (length line) newline ≡ newline = ap (λ t. get_or t (length line) newline) e ∙ get_or_push line newline newline (length line) refl in
    let len : length text ≡ length line + 1 = ap length e ∙ length_push line newline in
    h (length line) newline (omega arith) last
