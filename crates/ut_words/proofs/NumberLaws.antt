-- Numbers of options: their digits, and what they stand for.
use Rattle.std.proofs.Common.{◌≡◌, ◌≢◌, ◌∙◌, ap, ap₂, sym, refl, codes, ℕ, ◌<◌, ◌≤◌, ◌^◌, [], ◌∷◌, length, get_or, Option, Some, None, Bool, true, false, ◌&&◌, ◌||◌, ◌==◌, not, nat_le, arith, inl, inr, ◌⊎◌, option_map, unwrap_or}
use Rattle.std.specs.Option.{option_map_or}
use Rattle.std.specs.Str.{bytes_eq}
use Rattle.std.proofs.lemmas.Bool.{false≢true, le-leb, leb-true, lt-leb}
use Rattle.std.proofs.lemmas.Fmt.{decimal-digits_value, digits_value-decimal}
use Rattle.std.specs.Prelude.{decimal}
use Rattle.std.specs.List.{list_all}
use Rattle.ut_text.specs.Bytes.{Bytes}
use Rattle.ut_text.specs.ByteClasses.{is_digit}
use Rattle.ut_text.specs.Decimals.{value_after}
use Rattle.ut_text.proofs.DecimalLaws.{own}
use Rattle.ut_words.specs.declared.numbers.Numbers.{Numbers}
use Rattle.ut_words.specs.declared.order.UsageKind.TheVariants as usage
use Rattle.ut_words.specs.Options.{a_number, options}
use Rattle.ut_words.specs.Reading.{numbers_of, some_if}
use Rattle.ut_words.specs.Said.{Said, given}
use Rattle.ut_words.specs.Spelled.{begins_with}
use Rattle.ut_words.specs.Values.{all_and_some, is_number, number_digits, number_of}
use Rattle.ut_words.specs.Words.{are_right, fits_if_given}
use Rattle.ut_words.proofs.BoolLaws.{left_of, right_of, and_false}

-- a value that some_if gives is this one, and its test is passed
pub some_is : {A : Type 0} (b : Bool) (v x : A) → Some x ≡ some_if b v → (b ≡ true) × (v ≡ x)
some_is true v x e = (refl, cc)
some_is false v x e = absurd cc

pub none_is : {A : Type 0} (b : Bool) (v : A) → None ≡ some_if b v → b ≡ false
none_is true v e = absurd cc
none_is false v e = refl

-- of three tests the first, the second or the third fails
pub third_fails : {A B C D : Type 0} (a b c : Bool) (v x : A) (w y : B) (u : C) (all : D) → Some x ≡ some_if a v → Some y ≡ some_if b w → None ≡ some_if c u → None ≡ some_if (a && (b && (c && true))) all
third_fails a b c v x w y u all p q r = rw ((some_is a v x p).0, (some_is b w y q).0, none_is c u r) refl

all_three : {A : Type 0} (a b c : Bool) (v : A) → a ≡ true → b ≡ true → c ≡ true → some_if (a && (b && (c && true))) v ≡ Some v
all_three a b c v p q r = rw (p, q, r) refl

ap₃ : {A B C D : Type 0} (f : A → B → C → D) {a a' : A} {b b' : B} {c c' : C} → a ≡ a' → b ≡ b' → c ≡ c' → f a b c ≡ f a' b' c'
ap₃ f {a'} {b} {c} p q r = ap (λ x. f x b c) p ∙ ap₂ (f a') q r

-- a number has digits alone, and is written as decimals are
pub digits_of : (text : Bytes) → is_number text ≡ true → list_all is_digit text ≡ true
digits_of text is =
    right_of (not (length text == 0)) (list_all is_digit text) (left_of (not (length text == 0) && list_all is_digit text) _ is)

pub numeral_is : (text : Bytes) (n : ℕ) → n < 2 ^ 64 → text ≡ decimal n → number_of text ≡ n
numeral_is text n small same = ap (value_after 0) same ∙ digits_value-decimal own n small

some_digit : (text : Bytes) → is_number text ≡ true → 0 < length text
some_digit [] is = absurd (false≢true is)
some_digit (byte ∷ text) is = omega arith

-- only the number 0 begins with the digit 0
plain_zero : (byte : ℕ) (text : Bytes) → (bytes_eq (byte ∷ text) (codes "0") || not (begins_with (codes "0") (byte ∷ text))) ≡ true → byte ≡ 48 → length (byte ∷ text) ≡ 1
plain_zero byte [] is zero = refl
plain_zero byte (next ∷ text) is zero =
    absurd (false≢true (sym (ap (λ b. bytes_eq (b ∷ next ∷ text) (codes "0") || not (begins_with (codes "0") (b ∷ next ∷ text))) zero) ∙ is))

one_zero : (text : Bytes) → is_number text ≡ true → get_or text 0 0 ≡ 48 → length text ≡ 1
one_zero [] is zero = absurd (false≢true is)
one_zero (byte ∷ text) is zero =
    plain_zero byte text
    (right_of (nat_le (length (byte ∷ text)) number_digits) (bytes_eq (byte ∷ text) (codes "0") || not (begins_with (codes "0") (byte ∷ text)))
    (right_of (all_and_some is_digit (byte ∷ text)) (nat_le (length (byte ∷ text)) number_digits && (bytes_eq (byte ∷ text) (codes "0") || not (begins_with (codes "0") (byte ∷ text)))) is)) zero

written_as_decimal : (text : Bytes) → is_number text ≡ true → number_of text < 2 ^ 64 → text ≡ decimal (number_of text)
written_as_decimal text is small =
    sym (decimal-digits_value own text (digits_of text is) (some_digit text is) (one_zero text is) small)

-- a number that is no decimal below 2 ^ 64 is past each limit
pub past_limit : (text : Bytes) (first last : ℕ) → is_number text ≡ true → last < 2 ^ 64 → ((n : ℕ) → n < 2 ^ 64 → text ≢ decimal n)
    → None ≡ some_if (is_number text && (nat_le first (number_of text) && nat_le (number_of text) last)) (number_of text)
past_limit text first last is limit none = by (nat_le (number_of text) last) refl
  where
    by : (b : Bool) → nat_le (number_of text) last ≡ b → None ≡ some_if (is_number text && (nat_le first (number_of text) && nat_le (number_of text) last)) (number_of text)
    by false past = rw (is, past, and_false (nat_le first (number_of text))) refl
    by true within =
        let small : number_of text < 2 ^ 64 = let h = leb-true (number_of text) last within in omega arith in
        absurd (none (number_of text) small (written_as_decimal text is small))

pub out_of_limits : (text : Bytes) (first last n : ℕ) → number_of text ≡ n → (n < first) ⊎ ((first ≤ n) × (last < n))
    → None ≡ some_if (is_number text && (nat_le first (number_of text) && nat_le (number_of text) last)) (number_of text)
out_of_limits text first last n value (inl low) =
    let no : nat_le first n ≡ false = lt-leb first n low in
    rw (value, no, and_false (is_number text)) refl
out_of_limits text first last n value (inr high) =
    let no : nat_le n last ≡ false = lt-leb n last high.1 in
    rw (value, no, and_false (nat_le first n), and_false (is_number text)) refl

pub in_limits : (text : Bytes) (first last n : ℕ) → is_number text ≡ true → number_of text ≡ n → first ≤ n → n ≤ last
    → Some n ≡ some_if (is_number text && (nat_le first (number_of text) && nat_le (number_of text) last)) (number_of text)
in_limits text first last n is value low high =
    let a : nat_le first n ≡ true = le-leb first n low in
    let b : nat_le n last ≡ true = le-leb n last high in
    rw (is, value, a, b) refl

-- the numbers of options, each of which is right
default_of : (o : Option Bytes) (d : ℕ) → unwrap_or (option_map number_of o) d ≡ option_map_or number_of o d
default_of (Some x) d = refl
default_of None d = refl

pub numbers_are : (said : Said) (w s z : Option ℕ) (workers steps : ℕ) (size : Option ℕ) → workers ≡ unwrap_or w 1 → steps ≡ unwrap_or s 4000000 → size ≡ z
    → Some w ≡ some_if (fits_if_given (a_number 1 64) (codes "-t") said) (option_map number_of (given (codes "-t") said))
    → Some s ≡ some_if (fits_if_given (a_number 0 1000000000000) (codes "--steps") said) (option_map number_of (given (codes "--steps") said))
    → Some z ≡ some_if (fits_if_given (a_number 1 10000) (codes "--size") said) (option_map number_of (given (codes "--size") said))
    → Some (record { workers = workers; steps = steps; size = size }) ≡ some_if (are_right usage.Number options said) (numbers_of said)
numbers_are said w s z workers steps size is_w is_s is_z fits_w fits_s fits_z =
    let a = some_is (fits_if_given (a_number 1 64) (codes "-t") said) (option_map number_of (given (codes "-t") said)) w fits_w in
    let b = some_is (fits_if_given (a_number 0 1000000000000) (codes "--steps") said) (option_map number_of (given (codes "--steps") said)) s fits_s in
    let e = some_is (fits_if_given (a_number 1 10000) (codes "--size") said) (option_map number_of (given (codes "--size") said)) z fits_z in
    let values : record { workers = workers; steps = steps; size = size } ≡ numbers_of said =
    ap₃ (λ x y u. record { workers = x; steps = y; size = u })
    (is_w ∙ ap (λ o. unwrap_or o 1) (sym a.1) ∙ default_of (given (codes "-t") said) 1)
    (is_s ∙ ap (λ o. unwrap_or o 4000000) (sym b.1) ∙ default_of (given (codes "--steps") said) 4000000) (is_z ∙ sym e.1) in
    ap (λ (v : Numbers). Some v) values ∙ sym (all_three _ _ _ _ a.0 b.0 e.0)
