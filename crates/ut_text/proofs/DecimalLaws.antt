-- Numbers and their digits.
use Rattle.std.proofs.Common.{◌≡◌, ◌≢◌, ℕ, suc, ◌+◌, ◌-◌, ◌*◌, ◌^◌, ◌<◌, ◌≤◌, Bool, true, false, List, [], ◌∷◌, ◌++◌, length, get_or, take, drop, cond, eqb, Option, Some, None, inl, inr, refl, sym, ap, ◌∙◌, subst, arith, rules}
use Rattle.std.specs.Prelude.{decimal, IfSome, IfNone}
use Rattle.std.specs.Option.{SomeIff}
use Rattle.std.proofs.lemmas.Bool.{cases_lt, and_parts, and_from, eqb-false}
use Rattle.std.specs.Char.{is_ascii_digit}
use Rattle.std.specs.List.{prefix_len}
use Rattle.std.specs.Str.{all_ascii_digits}
use Rattle.std.specs.Int.{IsInRange}
use Rattle.std.proofs.lemmas.Str.Parse.{IsNumeralModel, numerals_by_fold, digit_at}
use Rattle.std.proofs.lemmas.Fmt.{digits_decimal, digits_value-decimal, decimal-digits_value, decimal_injective, decimal_nonempty, first_decimal, decimal_digit}
use Rattle.std.proofs.lemmas.List.{drop_more, take_at, drop_at, take-append-drop}
use Rattle.ut_text.specs.Decimals.{value_after, begins_with_digit, IsNumberThen}

-- a text that tests as not empty has a byte
pub some_from_test : (n : ℕ) (b : Bool) → b ≡ eqb n 0 → b ≡ false → 0 < n
some_from_test n b e f = let differ : n ≡ 0 → ⊥ = eqb-false n 0 (sym e ∙ f) in omega arith

add-one-left : (n : ℕ) → 1 + n ≡ suc n
add-one-left n = omega arith

pub own : IsNumeralModel (λ ds. all_ascii_digits ds ≡ true) (value_after 0)
own = numerals_by_fold _ (search rules) value_after (search rules)

-- more digits make no lower number
value_grows : (ds : List ℕ) (n : ℕ) → n ≤ value_after n ds
value_grows [] n = omega arith
value_grows (c ∷ cs) n = omega (arith, value_grows cs (10 * n + (c - 48)))

-- one digit more is read
pub value_step : (n : ℕ) (ds : List ℕ) (i d : ℕ) → i < length ds → value_after n (drop i ds) ≡ value_after (10 * n + (get_or ds i d - 48)) (drop (i + 1) ds)
value_step n ds i d h = ap (value_after n) (drop_more ds i d h)

-- what is too large stays so
pub stays_large : (n : ℕ) (ds : List ℕ) (i d : ℕ) → i < length ds → 2 ^ 64 ≤ 10 * n + (get_or ds i d - 48) → value_after n (drop i ds) < 2 ^ 64 → ⊥
stays_large n ds i d h large small =
    let more = value_grows (drop (i + 1) ds) (10 * n + (get_or ds i d - 48)) in
    let step = value_step n ds i d h in
    omega arith

pub digit_range : (ds : List ℕ) (i : ℕ) → all_ascii_digits ds ≡ true → i < length ds → IsInRange 48 57 (get_or ds i 0)
digit_range ds i p h = digit_at ds i (own.to ds p) h

-- the digits that were read are the number's
pub numeral_found : (ds : List ℕ) (r : Option ℕ) → all_ascii_digits ds ≡ true → 0 < length ds → ¬ ((1 < length ds) × (get_or ds 0 0 ≡ 48)) → SomeIff r (value_after 0 ds < 2 ^ 64) (value_after 0 ds) → IfSome r (λ n. (n < 2 ^ 64) × (ds ≡ decimal n))
numeral_found ds None digits some plain r = tt
numeral_found ds (Some n) digits some plain (small, same) =
    let one : get_or ds 0 0 ≡ 48 → length ds ≡ 1 = λ zero. elim (cases_lt 1 (length ds)) [ inl more ↦ absurd (plain (more, zero)) | inr one ↦ omega arith ] in
    (subst (λ k. k < 2 ^ 64) (sym same) small, sym (decimal-digits_value own ds digits some one small) ∙ ap decimal (sym same))

-- the digits are too many for a number
pub numeral_none : (ds : List ℕ) (r : Option ℕ) → SomeIff r (value_after 0 ds < 2 ^ 64) (value_after 0 ds) → IfNone r ((n : ℕ) → n < 2 ^ 64 → ds ≢ decimal n)
numeral_none ds None large = λ n small same. large (rw (ap (value_after 0) same ∙ digits_value-decimal own n small) small)
numeral_none ds (Some x) r = tt

-- no number has no digits
pub no_digits : (ds : List ℕ) → length ds ≡ 0 → (n : ℕ) → n < 2 ^ 64 → ds ≢ decimal n
no_digits ds none n small same = let some = decimal_nonempty n small in let len = ap length same in omega arith

-- no number has a leading zero
pub no_leading_zero : (ds : List ℕ) → 1 < length ds → get_or ds 0 0 ≡ 48 → (n : ℕ) → n < 2 ^ 64 → ds ≢ decimal n
no_leading_zero ds more leading n small same = elim (cases_lt 0 n) [
  | inl positive ↦ let first = first_decimal n positive small in let at : get_or ds 0 0 ≡ get_or (decimal n) 0 0 = ap (λ s. get_or s 0 0) same in omega arith
  | inr none ↦
      let z : n ≡ 0 = omega arith in
      let one : length (decimal n) ≡ 1 = ap (λ k. length (decimal k)) z ∙ ap length (decimal_digit 0 (omega arith)) in
      let len = ap length same in
      omega arith
]

-- a number of digits at the front and no digit after them
front_len : (ds rest : List ℕ) → all_ascii_digits ds ≡ true → begins_with_digit rest ≡ false → prefix_len is_ascii_digit (ds ++ rest) ≡ length ds
front_len [] [] p e = refl
front_len [] (c ∷ cs) p e = ap (λ b. cond b (1 + prefix_len is_ascii_digit cs) 0) e
front_len (d ∷ ds) rest p e =
    let parts = and_parts (is_ascii_digit d) (all_ascii_digits ds) p in
    ap (λ b. cond b (1 + prefix_len is_ascii_digit (ds ++ rest)) 0) parts.0 ∙ ap (λ k. 1 + k) (front_len ds rest parts.1 e) ∙ omega arith

-- the digits of a number that stands here
pub number_front : (bytes : List ℕ) (n : ℕ) (rest : List ℕ) → IsNumberThen bytes n rest → (take (prefix_len is_ascii_digit bytes) bytes ≡ decimal n) × (drop (prefix_len is_ascii_digit bytes) bytes ≡ rest)
number_front bytes n rest h =
    let len : prefix_len is_ascii_digit bytes ≡ length (decimal n) = ap (prefix_len is_ascii_digit) h.text ∙ front_len (decimal n) rest (digits_decimal own n h.fits) h.ends in (
      rw (len, h.text) (take_at (decimal n) rest (length (decimal n)) refl),
      rw (len, h.text) (drop_at (decimal n) rest (length (decimal n)) refl),
    )

-- one number stands here at most
pub number_once : (bytes : List ℕ) (n m : ℕ) (rest more : List ℕ) → IsNumberThen bytes n rest → IsNumberThen bytes m more → (n ≡ m) × (rest ≡ more)
number_once bytes n m rest more h k =
    let a = number_front bytes n rest h in
    let b = number_front bytes m more k in
    (decimal_injective n m h.fits k.fits (sym a.0 ∙ b.0), sym a.1 ∙ b.1)

-- the digits at the front are digits
pub front_digits : (bytes : List ℕ) → all_ascii_digits (take (prefix_len is_ascii_digit bytes) bytes) ≡ true
front_digits [] = refl
front_digits (c ∷ cs) = by (is_ascii_digit c) refl (front_digits cs)
  where
    by : (b : Bool) → is_ascii_digit c ≡ b → all_ascii_digits (take (prefix_len is_ascii_digit cs) cs) ≡ true → all_ascii_digits (take (cond b (1 + prefix_len is_ascii_digit cs) 0) (c ∷ cs)) ≡ true
    by true e p = rw (add-one-left (prefix_len is_ascii_digit cs)) (and_from (is_ascii_digit c) _ e p)
    by false e p = refl

-- after them is none
pub front_ends : (bytes : List ℕ) → begins_with_digit (drop (prefix_len is_ascii_digit bytes) bytes) ≡ false
front_ends [] = refl
front_ends (c ∷ cs) = by (is_ascii_digit c) refl (front_ends cs)
  where
    by : (b : Bool) → is_ascii_digit c ≡ b → begins_with_digit (drop (prefix_len is_ascii_digit cs) cs) ≡ false → begins_with_digit (drop (cond b (1 + prefix_len is_ascii_digit cs) 0) (c ∷ cs)) ≡ false
    by true e p = rw (add-one-left (prefix_len is_ascii_digit cs)) p
    by false e p = e

-- the digits at the front are a number
pub number_found : (bytes front rest : List ℕ) (n : ℕ) → front ≡ take (prefix_len is_ascii_digit bytes) bytes → rest ≡ drop (prefix_len is_ascii_digit bytes) bytes → (n < 2 ^ 64) × (front ≡ decimal n) → IsNumberThen bytes n rest
number_found bytes front rest n e f (small, same) = record {
  fits = small;
  text = sym (take-append-drop (prefix_len is_ascii_digit bytes) bytes) ∙ ap (λ t. t ++ drop (prefix_len is_ascii_digit bytes) bytes) (sym e ∙ same) ∙ ap (λ t. decimal n ++ t) (sym f);
  ends = ap begins_with_digit f ∙ front_ends bytes;
}

-- the digits at the front are no number
pub number_none : (bytes front : List ℕ) → front ≡ take (prefix_len is_ascii_digit bytes) bytes → ((n : ℕ) → n < 2 ^ 64 → front ≢ decimal n) → (n : ℕ) (rest : List ℕ) → ¬ IsNumberThen bytes n rest
number_none bytes front e none n rest h = none n h.fits (e ∙ (number_front bytes n rest h).0)
