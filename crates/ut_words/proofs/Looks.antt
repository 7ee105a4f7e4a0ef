-- How a word looks to clap, for each way in which it is spelled.
use Rattle.std.proofs.Common.{◌≡◌, ap, ap₂, sym, subst, refl, ℕ, [], ◌∷◌, Some, None, Bool, true, false, ◌==◌, not, ◌||◌, ◌&&◌, if◌then◌else◌}
use Rattle.std.proofs.lemmas.Bool.{eqb-true}
use Rattle.std.specs.Str.{bytes_eq}
use Rattle.clap.specs.Lexer.{long_of, short_of, long_of_rest, short_of_rest, strip_byte, name_and_value}
use Rattle.std.specs.Prelude.{option_and_then}
use Rattle.clap.specs.Words.{Text}
use Rattle.ut_words.proofs.BoolLaws.{other_way}
use Rattle.ut_words.specs.Spelled.{Spelled, is_plain, long_spelled, spelled, joined}

-- a word by its first bytes
pub data Looks (word : Text) : Type 0 where
  Plain : is_plain word ≡ true → bytes_eq word (45 ∷ 45 ∷ []) ≡ false → long_of word ≡ None → short_of word ≡ None → Looks word
  Dashes : word ≡ 45 ∷ 45 ∷ [] → Looks word
  Long : (byte : ℕ) (rest : Text) → word ≡ 45 ∷ 45 ∷ byte ∷ rest → Looks word
  Short : (letter : ℕ) (rest : Text) → (letter == 45) ≡ false → word ≡ 45 ∷ letter ∷ rest → Looks word

second : (rest : Text) → Looks (45 ∷ rest)
second [] = Looks.Plain refl refl refl refl
second (b ∷ rest) = by (b == 45) refl rest
  where
    by : (t : Bool) → (b == 45) ≡ t → (others : Text) → Looks (45 ∷ b ∷ others)
    by false h others = Looks.Short b others h refl
    by true h [] = Looks.Dashes (ap (λ n. 45 ∷ n ∷ []) (eqb-true b 45 h))
    by true h (c ∷ others) = Looks.Long c others (ap (λ n. 45 ∷ n ∷ c ∷ others) (eqb-true b 45 h))

pub looks : (word : Text) → Looks word
looks [] = Looks.Plain refl refl refl refl
looks (b ∷ rest) = by (b == 45) refl
  where
    by : (t : Bool) → (b == 45) ≡ t → Looks (b ∷ rest)
    by true h = subst (λ n. Looks (n ∷ rest)) (sym (eqb-true b 45 h)) (second rest)
    by false h = Looks.Plain
        (ap (λ t. not (t && true) || bytes_eq (b ∷ rest) (45 ∷ [])) (other_way b 45 h))
        (ap (λ t. t && bytes_eq rest (45 ∷ [])) h)
        (ap (λ t. option_and_then long_of_rest (option_and_then (strip_byte 45) (if t then Some rest else None))) h)
        (ap (λ t. option_and_then short_of_rest (if t then Some rest else None)) h)

-- a long option has the same name and value to both
pub long-spelled : (byte : ℕ) (rest : Text) → spelled (45 ∷ 45 ∷ byte ∷ rest) ≡ Spelled.Named (45 ∷ 45 ∷ (name_and_value (byte ∷ rest)).0) (name_and_value (byte ∷ rest)).1
long-spelled byte rest = refl

pub long-looks : (byte : ℕ) (rest : Text) → long_of (45 ∷ 45 ∷ byte ∷ rest) ≡ Some (name_and_value (byte ∷ rest))
long-looks byte rest = refl

-- so has a short one
pub short-looks : (letter : ℕ) (rest : Text) → (letter == 45) ≡ false → short_of (45 ∷ letter ∷ rest) ≡ Some (letter ∷ rest)
short-looks letter rest h = ap (λ t. if t then None else Some (letter ∷ rest)) h

pub short-long_of : (letter : ℕ) (rest : Text) → (letter == 45) ≡ false → long_of (45 ∷ letter ∷ rest) ≡ None
short-long_of letter rest h = ap (λ t. option_and_then long_of_rest (if t then Some rest else None)) h

pub short-spelled : (letter : ℕ) (rest : Text) → (letter == 45) ≡ false → spelled (45 ∷ letter ∷ rest) ≡ Spelled.Named (45 ∷ letter ∷ []) (joined rest)
short-spelled letter rest h =
    ap₂ (λ t u. if t then Spelled.Dashes else if u then long_spelled (45 ∷ letter ∷ rest) else Spelled.Named (45 ∷ letter ∷ []) (joined rest))
    (ap (λ t. t && bytes_eq rest []) h) (ap (λ t. t && true) (other_way letter 45 h))
