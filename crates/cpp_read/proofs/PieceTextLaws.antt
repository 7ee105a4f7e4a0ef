-- The names of the text of a piece are the names among its tokens: each token's text is a word of its own.
use Rattle.std.proofs.Common.{◌≡◌, ◌⊎◌, inl, inr, ℕ, ◌+◌, ◌-◌, ◌/◌, ◌%◌, ◌<◌, zero, suc, Bool, true, false, not, ◌==◌, ◌&&◌, ◌||◌, cond, List, [], ◌∷◌, ◌++◌, length, length-append, map, take, drop, refl, sym, ap, ◌∙◌, subst, arith, append_assoc}
use Rattle.std.specs.Prelude.{nat_lt, codes}
use Rattle.std.specs.List.{list_all, prefix_len}
use Rattle.std.proofs.lemmas.Bool.{false≢true, eqb-true}
use Rattle.std.proofs.lemmas.List.{append-nil}
use Rattle.std.proofs.lemmas.Bool.Decides.{nat_tests}
use Rattle.std.proofs.lemmas.Grind.{common_steps}
use Rattle.ut_text.specs.Bytes.{Bytes, space}
use Rattle.ut_text.specs.ByteClasses.{begins_names, is_digit, is_name_byte}
use Rattle.ut_text.specs.Escapes.{hex_digit, escape, escaped}
use Rattle.ut_text.proofs.NameTexts.{name_byte_low, front_name}
use Rattle.cpp_directives.specs.PieceNames.{names_after, names_of_piece, named}
use Rattle.cpp_directives.specs.PieceNames as piece
use Rattle.cpp_directives.specs.Quotes.{is_quote, quoted_len}
use Rattle.cpp_directives.proofs.PieceNamesLaws.{names-after_drop}
use Rattle.cpp_read.specs.declared.token.Token.{Token}
use Rattle.cpp_read.specs.declared.token.Token.TheVariants.{Ident, Number, Quoted, Sign}
use Rattle.cpp_read.specs.LogicalLines.{is_white}
use Rattle.cpp_read.specs.Operands.{piece_text}
use Rattle.cpp_read.specs.PieceTexts.{name_in, names_among}
use Rattle.cpp_read.specs.Signs.{text_of}
use Rattle.cpp_read.specs.Characters.{is_any_of}
use Rattle.cpp_read.specs.Tokens.{begins_digit, is_exponent, is_number_byte, number_len, begins_number, is_doubled, is_compared, sign_len, is_pair, more_of, spellings_after, spellings_of, token_of, tokens_of}
use Rattle.cpp_read.proofs.TokensLemmas.{after-drop}

-- ---- words of a text

-- what stands after a token's text: nothing, or a space and more
abbrev Rest : Bytes → Type 0
Rest [] = Unit {0}
Rest (b ∷ s) = (b == space) ≡ true

-- bytes with no space among them
abbrev NoSpace : Bytes → Type 0
NoSpace [] = Unit {0}
NoSpace (b ∷ s) = ((b == space) ≡ false) × NoSpace s

-- they are all passed, up to what stands after them
to_space : (t rest : Bytes) → NoSpace t → Rest rest → prefix_len (λ c. not (c == space)) (t ++ rest) ≡ length t
to_space [] [] h r = refl
to_space [] (b ∷ s) h r = ap (λ x. cond (not x) (1 + prefix_len (λ c. not (c == space)) s) 0) r
to_space (b ∷ t) rest h r = ap (λ x. cond (not x) (1 + prefix_len (λ c. not (c == space)) (t ++ rest)) 0) h.0 ∙ next (prefix_len (λ c. not (c == space)) (t ++ rest)) (length t) (to_space t rest h.1 r)
  where
    next : (a b : ℕ) → a ≡ b → 1 + a ≡ suc b
    next a b e = omega arith

take_front : (t rest : Bytes) → take (length t) (t ++ rest) ≡ t
take_front [] rest = refl
take_front (b ∷ t) rest = ap (λ s. b ∷ s) (take_front t rest)

drop_front : (t rest : Bytes) → drop (length t) (t ++ rest) ≡ rest
drop_front [] rest = refl
drop_front (b ∷ t) rest = drop_front t rest

-- a word that takes these bytes is passed whole
whole_word : (b : ℕ) (t rest : Bytes) → piece.more_of b (t ++ rest) ≡ length t → names_after 0 (b ∷ (t ++ rest)) ≡ named (b ∷ t) ++ names_after 0 rest
whole_word b t rest e = ap (λ k. named (b ∷ take k (t ++ rest)) ++ names_after k (t ++ rest)) e
    ∙ ((λ i. named (b ∷ take_front t rest i) ++ names-after_drop (length t) (t ++ rest) i) ∙ ap (λ s. named (b ∷ t) ++ names_after 0 s) (drop_front t rest))

-- ---- names

names_stop : (rest : Bytes) → Rest rest → prefix_len is_name_byte rest ≡ 0
names_stop [] r = refl
names_stop (b ∷ s) r = ap (λ c. cond (is_name_byte c) (1 + prefix_len is_name_byte s) 0) (eqb-true b 32 r)

names_to : (t rest : Bytes) → list_all is_name_byte t ≡ true → Rest rest → prefix_len is_name_byte (t ++ rest) ≡ length t
names_to [] rest h r = names_stop rest r
names_to (b ∷ t) rest h r = by (is_name_byte b) refl h (λ k. names_to t rest k r)
  where
    next : (a c : ℕ) → a ≡ c → 1 + a ≡ suc c
    next a c e = omega arith

    by : (x : Bool) → is_name_byte b ≡ x → (x && list_all is_name_byte t) ≡ true → (list_all is_name_byte t ≡ true → prefix_len is_name_byte (t ++ rest) ≡ length t) → prefix_len is_name_byte (b ∷ (t ++ rest)) ≡ suc (length t)
    by true e k f = ap (λ x. cond x (1 + prefix_len is_name_byte (t ++ rest)) 0) e ∙ next (prefix_len is_name_byte (t ++ rest)) (length t) (f k)
    by false e k f = absurd (false≢true k)

-- ---- escaped bytes

low_apart : (v k : ℕ) → nat_lt v 10 ≡ true → k < 48 → (48 + v == k) ≡ false
low_apart v k h l = grind (arith, nat_tests)

low_below : (v k : ℕ) → nat_lt v 10 ≡ true → 57 < k → (48 + v == k) ≡ false
low_below v k h l = grind (arith, nat_tests)

high_apart : (v k : ℕ) → k < 97 → (97 + (v - 10) == k) ≡ false
high_apart v k l = grind (arith, nat_tests)

-- a digit of an escaped byte is no quote, no backslash and no space
digit_apart : (v k : ℕ) → (k < 48) ⊎ ((57 < k) × (k < 97)) → (hex_digit v == k) ≡ false
digit_apart v k where_k = by (nat_lt v 10) refl where_k
  where
    by : (x : Bool) → nat_lt v 10 ≡ x → (k < 48) ⊎ ((57 < k) × (k < 97)) → (cond x (48 + v) (97 + (v - 10)) == k) ≡ false
    by true e (inl l) = low_apart v k e l
    by true e (inr l) = low_below v k e l.0
    by false e (inl l) = high_apart v k (omega arith)
    by false e (inr l) = high_apart v k l.1

-- ---- quoted text

-- what is asked of a mark
record Mark (m : ℕ) : Type 0 where
  low : nat_lt m 128 ≡ true
  backslash : (92 == m) ≡ false
  x : (120 == m) ≡ false
  digit : (v : ℕ) → (hex_digit v == m) ≡ false

mark_of : (b : ℕ) → is_quote b ≡ true → Mark b
mark_of b h = by (b == 34) refl h
  where
    double : Mark 34
    double = record { low = refl; backslash = refl; x = refl; digit = λ v. digit_apart v 34 (inl (omega arith)) }

    single : Mark 39
    single = record { low = refl; backslash = refl; x = refl; digit = λ v. digit_apart v 39 (inl (omega arith)) }

    by : (y : Bool) → (b == 34) ≡ y → (y || b == 39) ≡ true → Mark b
    by true e k = subst Mark (sym (eqb-true b 34 e)) double
    by false e k = subst Mark (sym (eqb-true b 39 k)) single

no_and : (y : Bool) → (y && false) ≡ false
no_and true = refl
no_and false = refl

-- a byte that is no mark is passed
plain : (m : ℕ) (e : Bool) (c : ℕ) (r : Bytes) → (c == m) ≡ false → quoted_len m e (c ∷ r) ≡ suc (quoted_len m (not e && c == 92) r)
plain m true c r h = refl
plain m false c r h = ap (λ y. cond y 1 (suc (quoted_len m (c == 92) r))) h

one_more : (n : ℕ) → suc n ≡ 1 + n
one_more n = omega arith

four_more : (n : ℕ) → suc (suc (suc (suc n))) ≡ 4 + n
four_more n = omega arith

high_is : (b : ℕ) → nat_lt b 128 ≡ false → (b == 92) ≡ false
high_is b h = grind (arith, nat_tests)

-- an escaped byte goes on as the byte itself does
escape_step : (m : ℕ) → Mark m → (e : Bool) (b : ℕ) (r : Bytes) → (not e && b == m) ≡ false → quoted_len m e (escape b ++ r) ≡ length (escape b) + quoted_len m (not e && b == 92) r
escape_step m mark e b r h = by (nat_lt b 128) refl
  where
    by : (y : Bool) → nat_lt b 128 ≡ y → quoted_len m e (cond y (b ∷ []) (92 ∷ 120 ∷ hex_digit (b / 16) ∷ hex_digit (b % 16) ∷ []) ++ r) ≡ length (cond y (b ∷ []) (92 ∷ 120 ∷ hex_digit (b / 16) ∷ hex_digit (b % 16) ∷ [])) + quoted_len m (not e && b == 92) r
    by true l = ap (λ y. cond y 1 (suc (quoted_len m (not e && b == 92) r))) h ∙ one_more (quoted_len m (not e && b == 92) r)
    by false l = plain m e 92 (120 ∷ hex_digit (b / 16) ∷ hex_digit (b % 16) ∷ r) mark.backslash
        ∙ (ap suc (plain m (not e && true) 120 (hex_digit (b / 16) ∷ hex_digit (b % 16) ∷ r) mark.x ∙ ap (λ y. suc (quoted_len m y (hex_digit (b / 16) ∷ hex_digit (b % 16) ∷ r))) (no_and (not (not e && true))))
        ∙ (ap (λ n. suc (suc n)) (plain m false (hex_digit (b / 16)) (hex_digit (b % 16) ∷ r) (mark.digit (b / 16)) ∙ ap (λ y. suc (quoted_len m y (hex_digit (b % 16) ∷ r))) (digit_apart (b / 16) 92 (inr (omega arith, omega arith))))
        ∙ (ap (λ n. suc (suc (suc n))) (plain m false (hex_digit (b % 16)) r (mark.digit (b % 16)) ∙ ap (λ y. suc (quoted_len m y r)) (digit_apart (b % 16) 92 (inr (omega arith, omega arith))))
        ∙ (four_more (quoted_len m false r) ∙ ap (λ y. 4 + quoted_len m y r) (sym (ap (λ y. not e && y) (high_is b l) ∙ no_and (not e)))))))

and_right : (a b : Bool) → (a && b) ≡ true → b ≡ true
and_right true b h = h
and_right false b h = absurd (false≢true h)

-- the escaped text of quoted text is quoted text, where it is closed or nothing stands after it
quote_says : (m : ℕ) → Mark m → (e : Bool) (s rest : Bytes) → (rest ≡ []) ⊎ ((drop (quoted_len m e s) s ≡ []) → ⊥)
    → quoted_len m e (escaped (take (quoted_len m e s) s) ++ rest) ≡ length (escaped (take (quoted_len m e s) s))
quote_says m mark e [] rest (inl none) = ap (quoted_len m e) none
quote_says m mark e [] rest (inr some) = absurd (some refl)
quote_says m mark e (b ∷ s) rest ends = by (not e && b == m) refl ends (λ h. quote_says m mark (not e && b == 92) s rest h)
  where
    closed : (not e && b == m) ≡ true → quoted_len m e (escaped (b ∷ []) ++ rest) ≡ length (escaped (b ∷ []))
    closed h =
        let same : b ≡ m = eqb-true b m (and_right (not e) (b == m) h) in
        let low : nat_lt b 128 ≡ true = subst (λ k. nat_lt k 128 ≡ true) (sym same) mark.low in
        ap (λ y. quoted_len m e ((cond y (b ∷ []) (92 ∷ 120 ∷ hex_digit (b / 16) ∷ hex_digit (b % 16) ∷ []) ++ []) ++ rest)) low
        ∙ (ap (λ y. cond y 1 (suc (quoted_len m (not e && b == 92) rest))) h ∙ sym (ap (λ y. length (cond y (b ∷ []) (92 ∷ 120 ∷ hex_digit (b / 16) ∷ hex_digit (b % 16) ∷ []) ++ [])) low))

    goes_on : (t : Bytes) → (not e && b == m) ≡ false → quoted_len m (not e && b == 92) (escaped t ++ rest) ≡ length (escaped t) → quoted_len m e (escaped (b ∷ t) ++ rest) ≡ length (escaped (b ∷ t))
    goes_on t h rest_is = ap (quoted_len m e) (append_assoc (escape b) (escaped t) rest)
        ∙ (escape_step m mark e b (escaped t ++ rest) h ∙ (ap (λ n. length (escape b) + n) rest_is ∙ sym (length-append (escape b) (escaped t))))

    by : (y : Bool) → (not e && b == m) ≡ y → (rest ≡ []) ⊎ ((drop (cond y 1 (suc (quoted_len m (not e && b == 92) s))) (b ∷ s) ≡ []) → ⊥)
        → ((rest ≡ []) ⊎ ((drop (quoted_len m (not e && b == 92) s) s ≡ []) → ⊥)
        → quoted_len m (not e && b == 92) (escaped (take (quoted_len m (not e && b == 92) s) s) ++ rest) ≡ length (escaped (take (quoted_len m (not e && b == 92) s) s)))
        → quoted_len m e (escaped (take (cond y 1 (suc (quoted_len m (not e && b == 92) s))) (b ∷ s)) ++ rest) ≡ length (escaped (take (cond y 1 (suc (quoted_len m (not e && b == 92) s))) (b ∷ s)))
    by true h ends next = closed h
    by false h ends next = goes_on (take (quoted_len m (not e && b == 92) s) s) h (next ends)

-- ---- numbers

-- a byte of a number stays, and is no space
record Plain (b : ℕ) : Type 0 where
  low : nat_lt b 128 ≡ true
  space : (b == 32) ≡ false

name_plain : (b : ℕ) → is_name_byte b ≡ true → Plain b
name_plain b h = record { low = name_byte_low b h; space = grind (arith, common_steps) }

number_plain : (signed : Bool) (b : ℕ) → is_number_byte signed b ≡ true → Plain b
number_plain signed b h = by (is_name_byte b) refl (b == 46) refl signed h
  where
    at : (k : ℕ) → b ≡ k → Plain k → Plain b
    at k e p = subst Plain (sym e) p

    sign : (b == 43) ≡ true → Plain b
    sign e = at 43 (eqb-true b 43 e) (record { low = refl; space = refl })

    either : (y : Bool) → (b == 43) ≡ y → (y || (b == 45 || false)) ≡ true → Plain b
    either true e k = sign e
    either false e k = last (b == 45) refl k
      where
        last : (y : Bool) → (b == 45) ≡ y → (y || false) ≡ true → Plain b
        last true e k = at 45 (eqb-true b 45 e) (record { low = refl; space = refl })
        last false e k = absurd (false≢true k)

    by : (x : Bool) → is_name_byte b ≡ x → (y : Bool) → (b == 46) ≡ y → (s : Bool) → (x || y || (s && is_any_of (codes "+-") b)) ≡ true → Plain b
    by true e y f s k = name_plain b e
    by false e true f s k = at 46 (eqb-true b 46 f) (record { low = refl; space = refl })
    by false e false f true k = either (b == 43) refl k
    by false e false f false k = absurd (false≢true k)

-- bytes that stay, with no space among them
AllPlain : Bytes → Type 0
AllPlain [] = Unit {0}
AllPlain (b ∷ s) = Plain b × AllPlain s

plain_escaped : (s : Bytes) → AllPlain s → escaped s ≡ s
unfolding AllPlain
plain_escaped [] h = refl
plain_escaped (b ∷ s) h = ap (λ y. cond y (b ∷ []) (92 ∷ 120 ∷ hex_digit (b / 16) ∷ hex_digit (b % 16) ∷ []) ++ escaped s) h.0.low ∙ ap (λ t. b ∷ t) (plain_escaped s h.1)

plain_spaceless : (s : Bytes) → AllPlain s → NoSpace s
unfolding AllPlain
plain_spaceless [] h = tt
plain_spaceless (b ∷ s) h = (h.0.space, plain_spaceless s h.1)

numbers_plain : (signed : Bool) (s : Bytes) → AllPlain (take (number_len signed s) s)
unfolding AllPlain
numbers_plain signed [] = tt
numbers_plain signed (b ∷ s) = by (is_number_byte signed b) refl (numbers_plain (is_exponent b) s)
  where
    by : (y : Bool) → is_number_byte signed b ≡ y → AllPlain (take (number_len (is_exponent b) s) s) → AllPlain (take (cond y (suc (number_len (is_exponent b) s)) 0) (b ∷ s))
    by true e h = (number_plain signed b e, h)
    by false e h = tt

names_plain : (s : Bytes) → list_all is_name_byte s ≡ true → AllPlain s
unfolding AllPlain
names_plain [] h = tt
names_plain (b ∷ s) h = by (is_name_byte b) refl h (names_plain s)
  where
    by : (y : Bool) → is_name_byte b ≡ y → (y && list_all is_name_byte s) ≡ true → (list_all is_name_byte s ≡ true → AllPlain s) → Plain b × AllPlain s
    by true e k f = (name_plain b e, f k)
    by false e k f = absurd (false≢true k)

-- ---- one token

neither : (x y : Bool) → (x || y) ≡ false → (x ≡ false) × (y ≡ false)
neither true y h = absurd (false≢true (sym h))
neither false y h = (refl, h)

-- what the text of a token says before what stands after it
abbrev Word : Bytes → Bytes → Type 0
Word w rest = names_after 0 (escaped w ++ rest) ≡ name_in (token_of w) ++ names_after 0 rest

-- a text that begins with this word says its name and what the rest says
said : (w : Bytes) (c : ℕ) (u rest : Bytes) → escaped w ≡ c ∷ u → piece.more_of c (u ++ rest) ≡ length u → names_after 0 (escaped w ++ rest) ≡ named (c ∷ u) ++ names_after 0 rest
said w c u rest e m = ap (λ (x : Bytes). names_after 0 (x ++ rest)) e ∙ whole_word c u rest m

token_name : (b : ℕ) (t : Bytes) → begins_names b ≡ true → name_in (token_of (b ∷ t)) ≡ escaped (b ∷ t) ∷ []
token_name b t e = rw e refl

token_none : (b : ℕ) (t : Bytes) → begins_names b ≡ false → name_in (token_of (b ∷ t)) ≡ []
token_none b t e = rw e (by (begins_number b t) (is_quote b))
  where
    by : (x y : Bool) → name_in (cond x (Number (escaped (b ∷ t))) (cond y (Quoted (escaped (b ∷ t))) (Sign (escaped (b ∷ t))))) ≡ []
    by true y = refl
    by false true = refl
    by false false = refl

named_name : (c : ℕ) (u : Bytes) → begins_names c ≡ true → named (c ∷ u) ≡ (c ∷ u) ∷ []
named_name c u e = rw e refl

named_none : (c : ℕ) (u : Bytes) → begins_names c ≡ false → named (c ∷ u) ≡ []
named_none c u e = rw e refl

more_name : (c : ℕ) (u : Bytes) → begins_names c ≡ true → piece.more_of c u ≡ prefix_len is_name_byte u
more_name c u e = rw e refl

more_quote : (c : ℕ) (u : Bytes) → begins_names c ≡ false → is_quote c ≡ true → piece.more_of c u ≡ quoted_len c false u
more_quote c u e f = rw (e, f) refl

more_space : (c : ℕ) (u : Bytes) → begins_names c ≡ false → is_quote c ≡ false → (is_digit c || c == 92) ≡ true → piece.more_of c u ≡ prefix_len (λ b. not (b == space)) u
more_space c u e f g = rw (e, f, g) refl

more_none : (c : ℕ) (u : Bytes) → begins_names c ≡ false → is_quote c ≡ false → (is_digit c || c == 92) ≡ false → piece.more_of c u ≡ 0
more_none c u e f g = rw (e, f, g) refl

digit_names : (b : ℕ) → is_digit b ≡ true → begins_names b ≡ false
digit_names b h = grind (arith, common_steps)

digit_quote : (b : ℕ) → is_digit b ≡ true → is_quote b ≡ false
digit_quote b h = grind (arith, common_steps)

digit_name_byte : (b : ℕ) → is_digit b ≡ true → is_name_byte b ≡ true
digit_name_byte b h = ap (λ y. begins_names b || y) h ∙ or_true (begins_names b)
  where
    or_true : (y : Bool) → (y || true) ≡ true
    or_true true = refl
    or_true false = refl

names_first : (b : ℕ) → begins_names b ≡ true → is_name_byte b ≡ true
names_first b h = ap (λ y. y || is_digit b) h

-- a name
says_name : (b : ℕ) (s rest : Bytes) → begins_names b ≡ true → Rest rest → Word (b ∷ take (prefix_len is_name_byte s) s) rest
unfolding AllPlain
says_name b s rest e r = said (b ∷ take (prefix_len is_name_byte s) s) b (take (prefix_len is_name_byte s) s) rest kept (more_name b (take (prefix_len is_name_byte s) s ++ rest) e ∙ names_to (take (prefix_len is_name_byte s) s) rest (front_name s) r)
    ∙ ap (λ ns. ns ++ names_after 0 rest) (named_name b (take (prefix_len is_name_byte s) s) e ∙ (ap (λ (x : Bytes). x ∷ []) (sym kept) ∙ sym (token_name b (take (prefix_len is_name_byte s) s) e)))
  where
    kept : escaped (b ∷ take (prefix_len is_name_byte s) s) ≡ b ∷ take (prefix_len is_name_byte s) s
    kept = plain_escaped (b ∷ take (prefix_len is_name_byte s) s) (name_plain b (names_first b e), names_plain (take (prefix_len is_name_byte s) s) (front_name s))

-- a number that begins with a digit
says_digits : (b : ℕ) (t rest : Bytes) → is_digit b ≡ true → AllPlain t → Rest rest → names_after 0 (b ∷ (t ++ rest)) ≡ names_after 0 rest
says_digits b t rest e p r = whole_word b t rest (more_space b (t ++ rest) (digit_names b e) (digit_quote b e) (ap (λ y. y || b == 92) e) ∙ to_space t rest (plain_spaceless t p) r)
    ∙ ap (λ ns. ns ++ names_after 0 rest) (named_none b t (digit_names b e))

says_number : (b : ℕ) (s rest : Bytes) → begins_names b ≡ false → begins_number b s ≡ true → Rest rest → Word (b ∷ take (number_len false s) s) rest
unfolding AllPlain
says_number b s rest n e r = by (is_digit b) refl e
  where
    none : names_after 0 rest ≡ name_in (token_of (b ∷ take (number_len false s) s)) ++ names_after 0 rest
    none = ap (λ ns. ns ++ names_after 0 rest) (sym (token_none b (take (number_len false s) s) n))

    digit : is_digit b ≡ true → Word (b ∷ take (number_len false s) s) rest
    digit d = ap (λ (x : Bytes). names_after 0 (x ++ rest)) (plain_escaped (b ∷ take (number_len false s) s) (name_plain b (digit_name_byte b d), numbers_plain false s))
        ∙ (says_digits b (take (number_len false s) s) rest d (numbers_plain false s) r ∙ none)

    dotted : (u : Bytes) → begins_digit u ≡ true → names_after 0 (take (number_len false u) u ++ rest) ≡ names_after 0 rest
    dotted [] h = absurd (false≢true h)
    dotted (c ∷ u) h = ap (λ y. names_after 0 (take (cond y (suc (number_len (is_exponent c) u)) 0) (c ∷ u) ++ rest)) (ap (λ y. y || c == 46 || (false && is_any_of (codes "+-") c)) (digit_name_byte c h))
        ∙ says_digits c (take (number_len (is_exponent c) u) u) rest h (numbers_plain (is_exponent c) u) r

    dot : (b == 46) ≡ true → begins_digit s ≡ true → Word (b ∷ take (number_len false s) s) rest
    dot h d = let same : b ≡ 46 = eqb-true b 46 h in
        ap (λ (x : Bytes). names_after 0 (x ++ rest)) (plain_escaped (b ∷ take (number_len false s) s) (subst Plain (sym same) (record { low = refl; space = refl }), numbers_plain false s))
        ∙ (ap (λ k. names_after 0 (k ∷ (take (number_len false s) s ++ rest))) same ∙ (dotted s d ∙ none))

    by : (y : Bool) → is_digit b ≡ y → (y || (b == 46 && begins_digit s)) ≡ true → Word (b ∷ take (number_len false s) s) rest
    by true d k = digit d
    by false d k = let w = both (b == 46) (begins_digit s) k in dot w.0 w.1
      where
        both : (x y : Bool) → (x && y) ≡ true → (x ≡ true) × (y ≡ true)
        both true y h = (refl, h)
        both false y h = absurd (false≢true h)

-- quoted text
says_quoted : (b : ℕ) (s rest : Bytes) → begins_names b ≡ false → is_quote b ≡ true → (rest ≡ []) ⊎ ((drop (quoted_len b false s) s ≡ []) → ⊥) → Word (b ∷ take (quoted_len b false s) s) rest
says_quoted b s rest n e ends = said (b ∷ take (quoted_len b false s) s) b (escaped (take (quoted_len b false s) s)) rest first
    (more_quote b (escaped (take (quoted_len b false s) s) ++ rest) n e ∙ quote_says b (mark_of b e) false s rest ends)
    ∙ ap (λ ns. ns ++ names_after 0 rest) (named_none b (escaped (take (quoted_len b false s) s)) n ∙ sym (token_none b (take (quoted_len b false s) s) n))
  where
    first : escaped (b ∷ take (quoted_len b false s) s) ≡ b ∷ escaped (take (quoted_len b false s) s)
    first = ap (λ y. cond y (b ∷ []) (92 ∷ 120 ∷ hex_digit (b / 16) ∷ hex_digit (b % 16) ∷ []) ++ escaped (take (quoted_len b false s) s)) (mark_of b e).low

-- a sign of one byte
says_sign : (b : ℕ) (rest : Bytes) → begins_names b ≡ false → is_digit b ≡ false → is_quote b ≡ false → Rest rest → Word (b ∷ []) rest
says_sign b rest n d q r = by (nat_lt b 128) refl
  where
    none : names_after 0 rest ≡ name_in (token_of (b ∷ [])) ++ names_after 0 rest
    none = ap (λ ns. ns ++ names_after 0 rest) (sym (token_none b [] n))

    backslash : (y : Bool) → (b == 92) ≡ y → piece.more_of b rest ≡ 0
    backslash true e = more_space b rest n q ((λ i. d i || e i)) ∙ to_space [] rest tt r
    backslash false e = more_none b rest n q ((λ i. d i || e i))

    by : (y : Bool) → nat_lt b 128 ≡ y → Word (b ∷ []) rest
    by true l = said (b ∷ []) b [] rest (ap (λ y. cond y (b ∷ []) (92 ∷ 120 ∷ hex_digit (b / 16) ∷ hex_digit (b % 16) ∷ []) ++ []) l) (backslash (b == 92) refl) ∙ (ap (λ ns. ns ++ names_after 0 rest) (named_none b [] n) ∙ none)
    by false l = said (b ∷ []) 92 (120 ∷ hex_digit (b / 16) ∷ hex_digit (b % 16) ∷ []) rest (ap (λ y. cond y (b ∷ []) (92 ∷ 120 ∷ hex_digit (b / 16) ∷ hex_digit (b % 16) ∷ []) ++ []) l)
        (to_space (120 ∷ hex_digit (b / 16) ∷ hex_digit (b % 16) ∷ []) rest (refl, (digit_apart (b / 16) 32 (inl (omega arith)), (digit_apart (b % 16) 32 (inl (omega arith)), tt))) r) ∙ none

-- a byte of a sign of two
record PairByte (b : ℕ) : Type 0 where
  names : begins_names b ≡ false
  quote : is_quote b ≡ false
  other : (is_digit b || b == 92) ≡ false
  low : nat_lt b 128 ≡ true

pick : (k b : ℕ) (more : Bool) → PairByte k → ((b == k) || more) ≡ true → (more ≡ true → PairByte b) → PairByte b
pick k b more p h f = by (b == k) refl h
  where
    by : (y : Bool) → (b == k) ≡ y → (y || more) ≡ true → PairByte b
    by true e h = subst PairByte (sym (eqb-true b k e)) p
    by false e h = f h

fine : (k : ℕ) → begins_names k ≡ false → is_quote k ≡ false → (is_digit k || k == 92) ≡ false → nat_lt k 128 ≡ true → PairByte k
fine k a b c d = record { names = a; quote = b; other = c; low = d }

doubled_byte : (b : ℕ) → is_doubled b ≡ true → PairByte b
doubled_byte b h = pick 124 b (b == 38 || (b == 61 || (b == 60 || (b == 62 || false)))) (fine 124 refl refl refl refl) h
    (λ h. pick 38 b (b == 61 || (b == 60 || (b == 62 || false))) (fine 38 refl refl refl refl) h
    (λ h. pick 61 b (b == 60 || (b == 62 || false)) (fine 61 refl refl refl refl) h
    (λ h. pick 60 b (b == 62 || false) (fine 60 refl refl refl refl) h
    (λ h. pick 62 b false (fine 62 refl refl refl refl) h (λ h. absurd (false≢true h))))))

compared_byte : (b : ℕ) → is_compared b ≡ true → PairByte b
compared_byte b h = pick 33 b (b == 60 || (b == 62 || false)) (fine 33 refl refl refl refl) h
    (λ h. pick 60 b (b == 62 || false) (fine 60 refl refl refl refl) h
    (λ h. pick 62 b false (fine 62 refl refl refl refl) h (λ h. absurd (false≢true h))))

pair_bytes : (b c : ℕ) → is_pair b c ≡ true → PairByte b × PairByte c
pair_bytes b c h = by (b == c && is_doubled b) refl h
  where
    both : (x y : Bool) → (x && y) ≡ true → (x ≡ true) × (y ≡ true)
    both true y h = (refl, h)
    both false y h = absurd (false≢true h)

    by : (y : Bool) → (b == c && is_doubled b) ≡ y → (y || (c == 61 && is_compared b)) ≡ true → PairByte b × PairByte c
    by true e k = let w = both (b == c) (is_doubled b) e in let p = doubled_byte b w.1 in (p, subst PairByte (eqb-true b c w.0) p)
    by false e k = let w = both (c == 61) (is_compared b) k in (compared_byte b w.1, subst PairByte (sym (eqb-true c 61 w.0)) (fine 61 refl refl refl refl))

-- a byte of a sign says nothing
passed_byte : (b : ℕ) (u : Bytes) → PairByte b → names_after 0 (b ∷ u) ≡ names_after 0 u
passed_byte b u p = whole_word b [] u (more_none b u p.names p.quote p.other) ∙ ap (λ ns. ns ++ names_after 0 u) (named_none b [] p.names)

says_pair : (b c : ℕ) (rest : Bytes) → is_pair b c ≡ true → Word (b ∷ c ∷ []) rest
says_pair b c rest h = let p = pair_bytes b c h in
    (λ i. names_after 0 ((cond (p.0.low i) (b ∷ []) (92 ∷ 120 ∷ hex_digit (b / 16) ∷ hex_digit (b % 16) ∷ []) ++ (cond (p.1.low i) (c ∷ []) (92 ∷ 120 ∷ hex_digit (c / 16) ∷ hex_digit (c % 16) ∷ []) ++ [])) ++ rest))
    ∙ (passed_byte b (c ∷ rest) p.0 ∙ (passed_byte c rest p.1 ∙ ap (λ ns. ns ++ names_after 0 rest) (sym (token_none b (c ∷ []) p.0.names))))

says_signs : (b : ℕ) (s rest : Bytes) → begins_names b ≡ false → is_digit b ≡ false → is_quote b ≡ false → Rest rest → Word (b ∷ take (sign_len b s) s) rest
says_signs b [] rest n d q r = says_sign b rest n d q r
says_signs b (c ∷ s) rest n d q r = by (is_pair b c) refl
  where
    by : (y : Bool) → is_pair b c ≡ y → Word (b ∷ take (cond y 1 0) (c ∷ s)) rest
    by true e = says_pair b c rest e
    by false e = says_sign b rest n d q r

-- each token's text says its name, if it is one
word_says : (b : ℕ) (s rest : Bytes) → Rest rest → (rest ≡ []) ⊎ ((drop (more_of b s) s ≡ []) → ⊥) → Word (b ∷ take (more_of b s) s) rest
word_says b s rest r ends = by (begins_names b) refl (begins_number b s) refl (is_quote b) refl ends
  where
    by : (x : Bool) → begins_names b ≡ x → (y : Bool) → begins_number b s ≡ y → (z : Bool) → is_quote b ≡ z
        → (rest ≡ []) ⊎ ((drop (cond x (prefix_len is_name_byte s) (cond y (number_len false s) (cond z (quoted_len b false s) (sign_len b s)))) s ≡ []) → ⊥)
        → Word (b ∷ take (cond x (prefix_len is_name_byte s) (cond y (number_len false s) (cond z (quoted_len b false s) (sign_len b s)))) s) rest
    by true e y f z g ends = says_name b s rest e r
    by false e true f z g ends = says_number b s rest e f r
    by false e false f true g ends = says_quoted b s rest e g ends
    by false e false f false g ends = says_signs b s rest e (neither (is_digit b) (b == 46 && begins_digit s) f).0 g r

-- ---- the tokens of a line

token_text : (b : ℕ) (t : Bytes) → text_of (token_of (b ∷ t)) ≡ escaped (b ∷ t)
token_text b t = by (begins_names b) (begins_number b t) (is_quote b)
  where
    by : (x y z : Bool) → text_of (cond x (Ident (escaped (b ∷ t))) (cond y (Number (escaped (b ∷ t))) (cond z (Quoted (escaped (b ∷ t))) (Sign (escaped (b ∷ t)))))) ≡ escaped (b ∷ t)
    by true y z = refl
    by false true z = refl
    by false false true = refl
    by false false false = refl

-- the first token of a line, and the text after it
record First (s : Bytes) (t : Token) (ts : List Token) : Type 0 where
  byte : ℕ
  after : Bytes
  token : t ≡ token_of (byte ∷ take (more_of byte after) after)
  left : tokens_of (drop (more_of byte after) after) ≡ ts

first_of : (s : Bytes) (t : Token) (ts : List Token) → tokens_of s ≡ t ∷ ts → First s t ts
first_of [] t ts h = absurd (cc)
first_of (b ∷ s) t ts h = by (is_white b) refl h (first_of s t ts)
  where
    by : (y : Bool) → is_white b ≡ y → map token_of (cond y (spellings_after 0 s) ((b ∷ take (more_of b s) s) ∷ spellings_after (more_of b s) s)) ≡ t ∷ ts → (tokens_of s ≡ t ∷ ts → First s t ts) → First (b ∷ s) t ts
    by true e h f = let r = f h in record { byte = r.byte; after = r.after; token = r.token; left = r.left }
    by false e h f = let p : token_of (b ∷ take (more_of b s) s) ≡ t = cc in let q : map token_of (spellings_after (more_of b s) s) ≡ ts = cc in
        record { byte = b; after = s; token = sym p; left = ap (map token_of) (sym (after-drop (more_of b s) s)) ∙ q }

none_left : (ts : List Token) (u : Token) (s : Bytes) → tokens_of s ≡ u ∷ ts → s ≡ [] → ⊥
none_left ts u s h e = let k : [] ≡ u ∷ ts = ap tokens_of (sym e) ∙ h in absurd (cc)

names_along : (part back : List Token) (s : Bytes) → tokens_of s ≡ part ++ back → names_of_piece (piece_text part) ≡ names_among part
names_along [] back s h = refl
names_along (t ∷ []) back s h =
    let f = first_of s t back h in
    let w = word_says f.byte f.after [] tt (inl refl) in
    let text : piece_text (t ∷ []) ≡ escaped (f.byte ∷ take (more_of f.byte f.after) f.after) ++ [] = ap text_of f.token ∙ (token_text f.byte (take (more_of f.byte f.after) f.after) ∙ sym (append-nil (escaped (f.byte ∷ take (more_of f.byte f.after) f.after)))) in
    ap (names_after 0) text ∙ (w ∙ ap (λ x. name_in x ++ []) (sym f.token))
names_along (t ∷ u ∷ ts) back s h =
    let f = first_of s t (u ∷ ts ++ back) h in
    let next = names_along (u ∷ ts) back (drop (more_of f.byte f.after) f.after) f.left in
    let w = word_says f.byte f.after (32 ∷ piece_text (u ∷ ts)) refl (inr (none_left (ts ++ back) u (drop (more_of f.byte f.after) f.after) f.left)) in
    let text : piece_text (t ∷ u ∷ ts) ≡ escaped (f.byte ∷ take (more_of f.byte f.after) f.after) ++ 32 ∷ piece_text (u ∷ ts) = ap (λ x. text_of x ++ 32 ∷ piece_text (u ∷ ts)) f.token ∙ ap (λ x. x ++ 32 ∷ piece_text (u ∷ ts)) (token_text f.byte (take (more_of f.byte f.after) f.after)) in
    ap (names_after 0) text ∙ (w ∙ ((λ i. name_in (sym f.token i) ++ names_after 0 (32 ∷ piece_text (u ∷ ts))) ∙ ap (λ ns. name_in t ++ ns) next))

-- the names of a piece are the names among its tokens, whatever part of a line's they are
pub names_are_tokens : (line : Bytes) (front part back : List Token) → tokens_of line ≡ front ++ part ++ back → names_of_piece (piece_text part) ≡ names_among part
names_are_tokens line [] part back h = names_along part back line h
names_are_tokens line (t ∷ front) part back h = let f = first_of line t (front ++ part ++ back) h in names_are_tokens (drop (more_of f.byte f.after) f.after) front part back f.left
