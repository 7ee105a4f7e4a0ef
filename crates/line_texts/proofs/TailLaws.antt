-- Numbers at the end of some bytes.
use Rattle.std.proofs.Common.{◌≡◌, ◌≢◌, ℕ, ◌+◌, ◌-◌, ◌^◌, ◌<◌, ◌≤◌, true, false, [], ◌∷◌, ◌++◌, length, get_or, take, drop, refl, sym, ap, ◌∙◌, subst, arith}
use Rattle.std.specs.Prelude.{decimal}
use Rattle.std.specs.List.{list_all}
use Rattle.std.proofs.lemmas.Bool.{false≢true, and_parts, and_from}
use Rattle.std.proofs.lemmas.List.{take-append-drop, take_more, drop_more}
use Rattle.std.proofs.lemmas.Fmt.{digits_decimal, decimal_injective}
use Rattle.ut_text.specs.Bytes.{Bytes}
use Rattle.ut_text.specs.ByteClasses.{is_digit}
use Rattle.ut_text.proofs.DecimalLaws.{own}
use Rattle.line_texts.specs.Tail.{ends_with_digit, IsNumberAfter}

-- the last byte decides
ends_with_digit-push : (bytes : Bytes) (b : ℕ) → ends_with_digit (bytes ++ b ∷ []) ≡ is_digit b
ends_with_digit-push [] b = refl
ends_with_digit-push (a ∷ []) b = refl
ends_with_digit-push (a ∷ c ∷ bytes) b = ends_with_digit-push (c ∷ bytes) b

-- the front of a text ends with the byte before the cut
pub ends_before : (text : Bytes) (i : ℕ) → 0 < i → i ≤ length text → ends_with_digit (take i text) ≡ is_digit (get_or text (i - 1) 0)
ends_before text i some within =
    let cut : i - 1 + 1 ≡ i = omega arith in
    ap (λ n. ends_with_digit (take n text)) (sym cut) ∙ ap ends_with_digit (take_more text (i - 1) 0 (omega arith)) ∙ ends_with_digit-push (take (i - 1) text) (get_or text (i - 1) 0)

-- one digit more from the end
pub digits_more : (text : Bytes) (i : ℕ) → 0 < i → i ≤ length text → is_digit (get_or text (i - 1) 0) ≡ true → list_all is_digit (drop i text) ≡ true → list_all is_digit (drop (i - 1) text) ≡ true
digits_more text i some within here later =
    let cut : i - 1 + 1 ≡ i = omega arith in
    let more : drop (i - 1) text ≡ get_or text (i - 1) 0 ∷ drop i text = drop_more text (i - 1) 0 (omega arith) ∙ ap (λ n. get_or text (i - 1) 0 ∷ drop n text) cut in
    subst (λ t. list_all is_digit t ≡ true) (sym more) (and_from (is_digit (get_or text (i - 1) 0)) (list_all is_digit (drop i text)) here later)

later_end : (b : ℕ) (bytes : Bytes) → ends_with_digit (b ∷ bytes) ≡ false → ends_with_digit bytes ≡ false
later_end b [] h = refl
later_end b (c ∷ bytes) h = h

-- what begins with digits alone doesn't end before them
digits_end : (b : ℕ) (bytes more : Bytes) → list_all is_digit (b ∷ (bytes ++ more)) ≡ true → ends_with_digit (b ∷ bytes) ≡ true
digits_end b [] more h = (and_parts (is_digit b) (list_all is_digit more) h).0
digits_end b (c ∷ bytes) more h = digits_end c bytes more (and_parts (is_digit b) (list_all is_digit (c ∷ (bytes ++ more))) h).1

-- the digits at the end are one list
digits_once : (rest other ds es : Bytes) → list_all is_digit ds ≡ true → list_all is_digit es ≡ true → ends_with_digit rest ≡ false → ends_with_digit other ≡ false → rest ++ ds ≡ other ++ es → (rest ≡ other) × (ds ≡ es)
digits_once [] [] ds es d e r o same = (refl, same)
digits_once [] (b ∷ other) ds es d e r o same = absurd (false≢true (sym o ∙ digits_end b other es (subst (λ t. list_all is_digit t ≡ true) same d)))
digits_once (a ∷ rest) [] ds es d e r o same = absurd (false≢true (sym r ∙ digits_end a rest ds (subst (λ t. list_all is_digit t ≡ true) (sym same) e)))
digits_once (a ∷ rest) (b ∷ other) ds es d e r o same =
    let first : a ≡ b = cc in
    let tails : rest ++ ds ≡ other ++ es = cc in
    let both = digits_once rest other ds es d e (later_end a rest r) (later_end b other o) tails in
    (ap (λ c. c ∷ rest) first ∙ ap (λ t. b ∷ t) both.0, both.1)

-- one number stands at the end at most
pub number_after_once : (bytes : Bytes) (n m : ℕ) (rest other : Bytes) → IsNumberAfter bytes n rest → IsNumberAfter bytes m other → (n ≡ m) × (rest ≡ other)
number_after_once bytes n m rest other h k =
    let both = digits_once rest other (decimal n) (decimal m) (digits_decimal own n h.fits) (digits_decimal own m k.fits) h.ends k.ends (sym h.text ∙ k.text) in
    (decimal_injective n m h.fits k.fits both.1, both.0)

-- the digits at the end are a number
pub number_after_found : (bytes rest ds : Bytes) (i n : ℕ) → rest ≡ take i bytes → ds ≡ drop i bytes → ends_with_digit (take i bytes) ≡ false → (n < 2 ^ 64) × (ds ≡ decimal n) → IsNumberAfter bytes n rest
number_after_found bytes rest ds i n e f ends (small, same) = record {
  fits = small;
  text = sym (take-append-drop i bytes) ∙ ap (λ t. t ++ drop i bytes) (sym e) ∙ ap (λ t. rest ++ t) (sym f ∙ same);
  ends = subst (λ t. ends_with_digit t ≡ false) (sym e) ends;
}

-- the digits at the end are no number
pub number_after_none : (bytes ds : Bytes) (i : ℕ) → ds ≡ drop i bytes → list_all is_digit (drop i bytes) ≡ true → ends_with_digit (take i bytes) ≡ false → ((n : ℕ) → n < 2 ^ 64 → ds ≢ decimal n) → (n : ℕ) (rest : Bytes) → ¬ IsNumberAfter bytes n rest
number_after_none bytes ds i f digits ends none n rest h =
    let both = digits_once (take i bytes) rest (drop i bytes) (decimal n) digits (digits_decimal own n h.fits) ends h.ends (take-append-drop i bytes ∙ h.text) in
    none n h.fits (f ∙ both.1)
