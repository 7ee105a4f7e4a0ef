-- The first character after a hyphen: a letter of an option is one byte, and no other character has its byte.
use Rattle.std.proofs.Common.{◌≡◌, ◌∙◌, ap, sym, refl, ℕ, List, [], ◌∷◌, Some, None, true, false, ◌==◌, slice_get}
use Rattle.std.proofs.lemmas.Bool.{eqb-true}
use Rattle.std.proofs.lemmas.Str.{encodes-chars, chars_past_char}
use Rattle.std.specs.Str.{chars, IsUtf8}
use Rattle.std.specs.Char.{encode_utf8}
use lib.Utf8.{encodes}
use Rattle.clap.specs.Words.{Text}
use Rattle.ut_words.specs.Options.{option_named, options}
use Rattle.ut_words.proofs.BoolLaws.{and_false}

-- no option has a letter but j and t
pub no_letter : (letter : ℕ) → (106 == letter) ≡ false → (116 == letter) ≡ false → option_named options (45 ∷ letter ∷ []) ≡ None
no_letter letter not_j not_t = rw (not_j, not_t, and_false (45 == letter)) refl

-- a character of one byte, this ASCII letter, after which comes another byte
pub record FirstIs (letter : ℕ) (rest : Text) : Type 0 where
  pub character : ℕ
  pub first : slice_get (chars (letter ∷ rest)) 0 ≡ Some character
  pub is_j : (106 == character) ≡ true → letter ≡ 106
  pub is_t : (116 == character) ≡ true → letter ≡ 116

after_hyphen : (bytes : Text) → IsUtf8 (45 ∷ bytes) → chars (45 ∷ bytes) ≡ 45 ∷ chars bytes
unfolding encode_utf8
after_hyphen bytes utf8 = chars_past_char (45 ∷ bytes) bytes 45 utf8 refl

hyphen_bytes : (cs : List ℕ) → encodes (45 ∷ cs) ≡ 45 ∷ encodes cs
unfolding encode_utf8
hyphen_bytes cs = refl

j_bytes : (cs : List ℕ) → encodes (106 ∷ cs) ≡ 106 ∷ encodes cs
unfolding encode_utf8
j_bytes cs = refl

t_bytes : (cs : List ℕ) → encodes (116 ∷ cs) ≡ 116 ∷ encodes cs
unfolding encode_utf8
t_bytes cs = refl

by_characters : (letter : ℕ) (rest : Text) (cs : List ℕ) → chars (letter ∷ rest) ≡ cs → encodes cs ≡ letter ∷ rest → FirstIs letter rest
by_characters letter rest [] is all = absurd cc
by_characters letter rest (c ∷ cs) is all = record {
  character = c;
  first = ap (λ l. slice_get l 0) is;
  is_j = λ e.
      let bytes : 106 ∷ encodes cs ≡ letter ∷ rest = sym (j_bytes cs) ∙ ap (λ n. encodes (n ∷ cs)) (eqb-true 106 c e) ∙ all in
      cc;
  is_t = λ e.
      let bytes : 116 ∷ encodes cs ≡ letter ∷ rest = sym (t_bytes cs) ∙ ap (λ n. encodes (n ∷ cs)) (eqb-true 116 c e) ∙ all in
      cc;
}

pub first_character : (letter : ℕ) (rest : Text) → IsUtf8 (45 ∷ letter ∷ rest) → FirstIs letter rest
first_character letter rest utf8 =
    let after = after_hyphen (letter ∷ rest) utf8 in
    let whole : 45 ∷ encodes (chars (letter ∷ rest)) ≡ 45 ∷ letter ∷ rest =
    sym (hyphen_bytes (chars (letter ∷ rest))) ∙ sym (ap encodes after) ∙ encodes-chars (45 ∷ letter ∷ rest) utf8 in
    by_characters letter rest (chars (letter ∷ rest)) refl cc
