-- Lines of lists: each has one wish at most, and is text.
use Rattle.std.proofs.Common.{◌⊎◌, inl, inr, ◌≡◌, ◌≢◌, ◌∙◌, ap, sym, subst, refl, ℕ, ◌<◌, ◌≤◌, ◌^◌, [], ◌∷◌, ◌++◌, Bool, true, false, Some, None, arith, length, not, ◌==◌, if◌then◌else◌}
use Rattle.std.specs.Prelude.{All, codes, decimal}
use Rattle.std.specs.List.{list_all}
use Rattle.std.specs.Str.{IsUtf8, is_utf8}
use Rattle.std.proofs.lemmas.Bool.{false≢true, ltb-true}
use Rattle.std.proofs.lemmas.List.{append_cancel_left, append_cancel_right}
use Rattle.std.proofs.lemmas.List.Elements.{All-nil, All-cons}
use Rattle.std.proofs.lemmas.Fmt.{IsAscii-decimal}
use Rattle.std.proofs.lemmas.Str.{IsAscii-append, IsUtf8-append, IsUtf8-from_ascii, IsUtf8-from_is_utf8, is_utf8-from_IsUtf8}
use Rattle.std.proofs.lemmas.Str.Ascii.{IsAscii-from_all}
use Rattle.line_texts.specs.Tail.{IsNumberAfter, ends_with_digit}
use Rattle.line_texts.proofs.TailLaws.{number_after_once}
use Rattle.ut_base.specs.Names.{is_name}
use Rattle.ut_text.specs.Bytes.{Bytes}
use Rattle.ut_text.specs.ByteClasses.{is_name_byte}
use Rattle.ut_text.proofs.NameTexts.{name_byte_low}
use Rattle.ut_words.specs.declared.wishes.ListKind.{ListKind}
use Rattle.ut_words.specs.declared.wishes.ListKind.TheVariants.{White, Black, Trace}
use Rattle.ut_words.specs.declared.wishes.ListWish.{ListWish}
use Rattle.ut_words.specs.declared.wishes.ListWish.TheVariants.{On, Off, Traced}
use Rattle.ut_words.specs.Lists.{IsLineOf, IsPlace, IsSymbolLine, IsTraceLine, is_file}
use Rattle.ut_words.specs.Reading.{some_if}
use Rattle.ut_words.specs.Values.{all_and_some}
use Rattle.ut_words.proofs.BoolLaws.{left_of, right_of}

-- a symbol's line has one name
symbol_once : (line a b : Bytes) → IsSymbolLine line a → IsSymbolLine line b → a ≡ b
symbol_once line a b h k = append_cancel_left (codes "CONFIG_") a b (sym h.text ∙ k.text)

-- after the word stands no name
pub no_symbol : (line rest : Bytes) → line ≡ codes "CONFIG_" ++ rest → all_and_some is_name_byte rest ≡ false → (name : Bytes) → ¬ IsSymbolLine line name
no_symbol line rest e wrong name h =
    let same = append_cancel_left (codes "CONFIG_") rest name (sym e ∙ h.text) in
    false≢true (sym wrong ∙ subst (λ n. all_and_some is_name_byte n ≡ true) (sym same) h.named)

ends_with_colon : (file : Bytes) → ends_with_digit (file ++ codes ":") ≡ false
ends_with_colon [] = refl
ends_with_colon (a ∷ []) = refl
ends_with_colon (a ∷ b ∷ file) = ends_with_colon (b ∷ file)

small : (number : ℕ) → number ≤ 999999999 → number < 2 ^ 64
small number h = omega (arith, h)

-- the line of a place is the number at its end
place_number : (line file : Bytes) (number : ℕ) → IsPlace line file number → IsNumberAfter line number (file ++ codes ":")
place_number line file number h = record {
  fits = small number h.high;
  text = h.text;
  ends = ends_with_colon file;
}

-- a line is one place at most
pub place_once : (line f g : Bytes) (n m : ℕ) → IsPlace line f n → IsPlace line g m → (n ≡ m) × (f ≡ g)
place_once line f g n m h k =
    let both = number_after_once line n m (f ++ codes ":") (g ++ codes ":") (place_number line f n h) (place_number line g m k) in
    (both.0, append_cancel_right f g (codes ":") both.1)

-- without a number at the end, with one past the bounds, or without a colon before it, a line is no place
pub no_number : (line : Bytes) → ((n : ℕ) (rest : Bytes) → ¬ IsNumberAfter line n rest) → (file : Bytes) (number : ℕ) → ¬ IsPlace line file number
no_number line none file number h = none number (file ++ codes ":") (place_number line file number h)

past_bounds : (n : ℕ) → (n ≡ 0) ⊎ ((n ≢ 0) × (999999999 < n)) → 0 < n → n ≤ 999999999 → ⊥
past_bounds n (inl none) low high = omega (arith, none, low)
past_bounds n (inr (some, more)) low high = omega (arith, more, high)

pub no_bounds : (line rest : Bytes) (n : ℕ) → IsNumberAfter line n rest → (n ≡ 0) ⊎ ((n ≢ 0) × (999999999 < n)) → (file : Bytes) (number : ℕ) → ¬ IsPlace line file number
no_bounds line rest n found wrong file number h =
    let same = (number_after_once line number n (file ++ codes ":") rest (place_number line file number h) found).0 in
    past_bounds n wrong (subst (λ k. 0 < k) same h.low) (subst (λ k. k ≤ 999999999) same h.high)

pub no_colon : (line rest : Bytes) (n : ℕ) → IsNumberAfter line n rest → ((file : Bytes) → rest ≢ file ++ codes ":") → (file : Bytes) (number : ℕ) → ¬ IsPlace line file number
no_colon line rest n found none file number h =
    none file (sym (number_after_once line number n (file ++ codes ":") rest (place_number line file number h) found).1)

-- a number at the end, and a colon before it
pub is_place : (line rest file : Bytes) (n : ℕ) → IsNumberAfter line n rest → 0 < n → n ≤ 999999999 → rest ≡ file ++ codes ":" → IsPlace line file n
is_place line rest file n found low high colon = record {
  low = low;
  high = high;
  text = found.text ∙ ap (λ r. r ++ decimal n) colon;
}

-- what stands before the line is no name of a file
pub no_file : (line rest : Bytes) (n : ℕ) → IsPlace line rest n → is_file rest ≡ false → (file : Bytes) (number : ℕ) → ¬ IsTraceLine line file number
no_file line rest n found wrong file number h =
    let same = (place_once line file rest number n h.place found).1 in
    false≢true (sym wrong ∙ subst (λ f. is_file f ≡ true) same h.named)

pub no_place : (line : Bytes) → ((file : Bytes) (number : ℕ) → ¬ IsPlace line file number) → (file : Bytes) (number : ℕ) → ¬ IsTraceLine line file number
no_place line none file number h = none file number h.place

-- a line without a symbol, or without a place, has no wish
pub no_white : (line : Bytes) → ((name : Bytes) → ¬ IsSymbolLine line name) → (w : ListWish) → ¬ IsLineOf White line w
no_white line none (On name) h = none name h
no_white line none (Off name) h = h
no_white line none (Traced file number) h = h

pub no_black : (line : Bytes) → ((name : Bytes) → ¬ IsSymbolLine line name) → (w : ListWish) → ¬ IsLineOf Black line w
no_black line none (On name) h = h
no_black line none (Off name) h = none name h
no_black line none (Traced file number) h = h

pub no_trace : (line : Bytes) → ((file : Bytes) (number : ℕ) → ¬ IsTraceLine line file number) → (w : ListWish) → ¬ IsLineOf Trace line w
no_trace line none (On name) h = h
no_trace line none (Off name) h = h
no_trace line none (Traced file number) h = none file number h

traced_same : (f g : Bytes) (n m : ℕ) → (n ≡ m) × (f ≡ g) → Traced f n ≡ Traced g m
traced_same f g n m (same, file) = ap (λ x. Traced x n) file ∙ ap (Traced g) same

-- a line has one wish at most
pub wish_once : (kind : ListKind) (line : Bytes) (w v : ListWish) → IsLineOf kind line w → IsLineOf kind line v → w ≡ v
wish_once White line (On a) (On b) h k = ap On (symbol_once line a b h k)
wish_once White line (On a) (Off b) h k = absurd k
wish_once White line (On a) (Traced g m) h k = absurd k
wish_once White line (Off a) v h k = absurd h
wish_once White line (Traced f n) v h k = absurd h
wish_once Black line (On a) v h k = absurd h
wish_once Black line (Off a) (On b) h k = absurd k
wish_once Black line (Off a) (Off b) h k = ap Off (symbol_once line a b h k)
wish_once Black line (Off a) (Traced g m) h k = absurd k
wish_once Black line (Traced f n) v h k = absurd h
wish_once Trace line (On a) v h k = absurd h
wish_once Trace line (Off a) v h k = absurd h
wish_once Trace line (Traced f n) (On b) h k = absurd k
wish_once Trace line (Traced f n) (Off b) h k = absurd k
wish_once Trace line (Traced f n) (Traced g m) h k = traced_same f g n m (place_once line f g n m h.place k.place)

low_bytes : (name : Bytes) → list_all is_name_byte name ≡ true → All (λ b. b < 128) name
low_bytes [] h = All-nil (λ b. b < 128)
low_bytes (b ∷ name) h =
    All-cons (λ c. c < 128) b name (ltb-true b 128 (name_byte_low b (left_of (is_name_byte b) (list_all is_name_byte name) h))) (low_bytes name (right_of (is_name_byte b) (list_all is_name_byte name) h))

-- a symbol is bytes of names alone
pub name_bytes : (name : Bytes) → all_and_some is_name_byte name ≡ true → list_all is_name_byte name ≡ true
name_bytes name h = right_of (not (length name == 0)) (list_all is_name_byte name) h

symbol_text : (line name : Bytes) → IsSymbolLine line name → IsUtf8 line
symbol_text line name h =
    let word = IsAscii-from_all (codes "CONFIG_") (low_bytes (codes "CONFIG_") refl) in
    let ascii = IsAscii-append (codes "CONFIG_") name word (IsAscii-from_all name (low_bytes name (name_bytes name h.named))) in
    subst IsUtf8 (sym h.text) (IsUtf8-from_ascii (codes "CONFIG_" ++ name) ascii)

colon_text : IsUtf8 (codes ":")
colon_text = IsUtf8-from_ascii (codes ":") (IsAscii-from_all (codes ":") (All-cons (λ c. c < 128) 58 [] (omega arith) (All-nil (λ c. c < 128))))

place_text : (line file : Bytes) (number : ℕ) → IsTraceLine line file number → IsUtf8 line
place_text line file number h =
    let named = left_of (is_utf8 file) (is_name file) h.named in
    let front = IsUtf8-append file (codes ":") (IsUtf8-from_is_utf8 file named) colon_text in
    let digits = IsUtf8-from_ascii (decimal number) (IsAscii-decimal number (small number h.place.high)) in
    subst IsUtf8 (sym h.place.text) (IsUtf8-append (file ++ codes ":") (decimal number) front digits)

-- a line with a wish is text
pub line_text : (kind : ListKind) (line : Bytes) (w : ListWish) → IsLineOf kind line w → IsUtf8 line
line_text White line (On name) h = symbol_text line name h
line_text White line (Off name) h = absurd h
line_text White line (Traced file number) h = absurd h
line_text Black line (On name) h = absurd h
line_text Black line (Off name) h = symbol_text line name h
line_text Black line (Traced file number) h = absurd h
line_text Trace line (On name) h = absurd h
line_text Trace line (Off name) h = absurd h
line_text Trace line (Traced file number) h = place_text line file number h

pub is_symbol_line : (line rest name : Bytes) → line ≡ codes "CONFIG_" ++ rest → all_and_some is_name_byte rest ≡ true → name ≡ rest → IsSymbolLine line name
is_symbol_line line rest name e named same = record {
  named = subst (λ n. all_and_some is_name_byte n ≡ true) (sym same) named;
  text = e ∙ ap (λ r. codes "CONFIG_" ++ r) (sym same);
}

pub is_trace_line : (line rest file : Bytes) (n : ℕ) → IsPlace line rest n → (is_file rest ≡ true) × (rest ≡ file) → IsTraceLine line file n
is_trace_line line rest file n place (named, same) = record {
  place = subst (λ f. IsPlace line f n) same place;
  named = subst (λ f. is_file f ≡ true) same named;
}

-- bytes that are text are the name of a file if it is one, and other bytes are none
pub file_text : (bytes text : Bytes) → text ≡ bytes → IsUtf8 bytes → (if is_name text then Some text else None) ≡ some_if (is_file bytes) bytes
file_text bytes text same utf8 = rw (same, is_utf8-from_IsUtf8 bytes utf8) refl

no_utf8 : (bytes : Bytes) → ¬ IsUtf8 bytes → is_utf8 bytes ≡ false
no_utf8 bytes h = by (is_utf8 bytes) refl
  where
    by : (b : Bool) → is_utf8 bytes ≡ b → is_utf8 bytes ≡ false
    by true e = absurd (h (IsUtf8-from_is_utf8 bytes e))
    by false e = e

pub no_file_text : (bytes : Bytes) → ¬ IsUtf8 bytes → None ≡ some_if (is_file bytes) bytes
no_file_text bytes h = rw (no_utf8 bytes h) refl
