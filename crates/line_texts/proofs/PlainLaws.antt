-- Texts without a newline: words, numbers, and what is made of such texts.
use Rattle.std.proofs.Common.{◌≡◌, ◌≢◌, ℕ, ◌^◌, ◌<◌, Bool, true, not, List, [], ◌∷◌, ◌++◌, subst}
use Rattle.std.specs.Prelude.{◌==◌, All, decimal}
use Rattle.std.specs.List.{list_all, flat_map}
use Rattle.std.proofs.lemmas.Bool.{and_parts, not-true, eqb-false, false≢true}
use Rattle.std.proofs.lemmas.List.Elements.{All-nil, All-cons, All-append, All-head, All-tail}
use Rattle.std.proofs.lemmas.Fmt.{digits_decimal}
use Rattle.ut_text.specs.Bytes.{Bytes, newline}
use Rattle.ut_text.specs.ByteClasses.{is_digit}
use Rattle.ut_text.proofs.DecimalLaws.{own}
use Rattle.line_texts.specs.Lines.{HasNoNewline}

-- the test computes on a word
abbrev pub is_plain : Bytes → Bool
is_plain word = list_all (λ b. not (b == newline)) word

pub plain_word : (word : Bytes) → is_plain word ≡ true → HasNoNewline word
plain_word [] h = All-nil (λ b. b ≢ newline)
plain_word (b ∷ word) h =
    let parts = and_parts (not (b == newline)) (is_plain word) h in
    All-cons (λ c. c ≢ newline) b word (eqb-false b newline (not-true (b == newline) parts.0)) (plain_word word parts.1)

pub plain-append : (s t : Bytes) → HasNoNewline s → HasNoNewline t → HasNoNewline (s ++ t)
plain-append s t h k = All-append (λ b. b ≢ newline) s t h k

pub plain-flat_map : {A : Type 0} (f : A → Bytes) (V : A → Type 0) → ((x : A) → V x → HasNoNewline (f x)) → (xs : List A) → All V xs → HasNoNewline (flat_map f xs)
plain-flat_map f V plain [] h = All-nil (λ b. b ≢ newline)
plain-flat_map f V plain (x ∷ xs) h =
    plain-append (f x) (flat_map f xs) (plain x (All-head V x xs h)) (plain-flat_map f V plain xs (All-tail V x xs h))

-- digits are no newlines
plain_digits : (digits : Bytes) → list_all is_digit digits ≡ true → HasNoNewline digits
plain_digits [] h = All-nil (λ b. b ≢ newline)
plain_digits (b ∷ digits) h =
    let parts = and_parts (is_digit b) (list_all is_digit digits) h in
    All-cons (λ c. c ≢ newline) b digits (λ e. false≢true (subst (λ c. is_digit c ≡ true) e parts.0)) (plain_digits digits parts.1)

pub plain_decimal : (n : ℕ) → n < 2 ^ 64 → HasNoNewline (decimal n)
plain_decimal n small = plain_digits (decimal n) (digits_decimal own n small)
