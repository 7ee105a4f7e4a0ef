-- Laws of lines: the first line of a text, and what stands after it.
use Rattle.std.proofs.Common.{◌≡◌, ◌<◌, ◌≤◌, ◌∷◌, ◌&&◌, ◌==◌, ◌+◌, ◌-◌, ℕ, zero, suc, Bool, true, false, List, [], Some, None, length, take, drop, slice_index, refl, ap, subst, arith}
use Rattle.std.proofs.lemmas.Bool.{false≢true}
use Rattle.std.proofs.lemmas.Bool.Decides.{nat_tests}
use Rattle.std.proofs.lemmas.Grind.{common_steps}
use Rattle.std.proofs.lemmas.List.{drop_all}
use Rattle.memchr.specs.Find.{IsFirstByte, is_byte}
use Rattle.ut_text.specs.Lines.{begins_newline, onto_first, lines_of}
use Rattle.ut_text.specs.LineEnds.{ends_line, line_len, after_end}

right : (x y : Bool) → (x && y) ≡ true → y ≡ true
right true y h = h
right false y h = absurd (false≢true h)

-- a text that begins with a newline begins with an empty line
empty_first : (s : List ℕ) → begins_newline s ≡ true → lines_of s ≡ [] ∷ lines_of (drop 1 s)
empty_first [] h = absurd (false≢true h)
empty_first (b ∷ s) h = rw h refl

FirstLine : List ℕ → Type 0
FirstLine s = lines_of s ≡ take (line_len s) s ∷ lines_of (after_end (drop (line_len s) s))

inner : (b : ℕ) (s : List ℕ) → (b == 10) ≡ false → (b == 13 && begins_newline s) ≡ false → (0 < length s → FirstLine s) → FirstLine (b ∷ s)
unfolding FirstLine
inner b [] p q f = rw (p, q) refl
inner b (c ∷ s) p q f = rw (p, q) (ap (onto_first b) (f (omega arith)))

-- the first line of a text that is not empty, and the others
pub first_line : (s : List ℕ) → 0 < length s → lines_of s ≡ take (line_len s) s ∷ lines_of (after_end (drop (line_len s) s))
unfolding FirstLine
first_line [] h = absurd (omega arith)
first_line (b ∷ s) h = by (b == 10) (b == 13 && begins_newline s) refl refl (first_line s)
  where
    by : (x y : Bool) → (b == 10) ≡ x → (b == 13 && begins_newline s) ≡ y → (0 < length s → FirstLine s) → FirstLine (b ∷ s)
    by true y p q f = rw (p, p) refl
    by false true p q f = rw (p, q, p, q) (empty_first s (right (b == 13) (begins_newline s) q))
    by false false p q f = inner b s p q f

-- what stands after the first line is shorter than the text
pub rest_shorter : (s : List ℕ) → 0 < length s → length (after_end (drop (line_len s) s)) < length s
rest_shorter [] h = absurd (omega arith)
rest_shorter (b ∷ s) h = by (b == 10) (b == 13 && begins_newline s) refl refl s (rest_shorter s)
  where
    last : (t : List ℕ) → (0 < length t → length (after_end (drop (line_len t) t)) < length t) → length (after_end (drop (line_len t) t)) < suc (length t)
    last [] f = omega arith
    last (c ∷ t) f = omega (arith, f (omega arith))

    by : (x y : Bool) → (b == 10) ≡ x → (b == 13 && begins_newline s) ≡ y → (t : List ℕ) → (0 < length s → length (after_end (drop (line_len s) s)) < length s)
        → length (after_end (drop (line_len (b ∷ s)) (b ∷ s))) < length (b ∷ s)
    by true y p q t f = rw (p, p) (omega arith)
    by false true p q t f = rw (p, q, p, q) (grind (arith, common_steps))
    by false false p q t f = rw (p, q) (last s f)

no : (x : Bool) → ¬ (x ≡ true) → x ≡ false
no true n = absurd (n refl)
no false n = refl

and_no : (x y : Bool) → (x ≡ true → y ≡ false) → (x && y) ≡ false
and_no true y f = f refl
and_no false y f = refl

-- no newline stands at this place
quiet : (s : List ℕ) (j : ℕ) → (j < length s → (slice_index s j == 10) ≡ false) → begins_newline (drop j s) ≡ false
quiet [] zero h = refl
quiet (b ∷ s) zero h = h (omega arith)
quiet [] (suc j) h = refl
quiet (b ∷ s) (suc j) h = quiet s j (λ g. h (omega (arith, g)))

goes_on : (s : List ℕ) (i : ℕ) → i < length s → (slice_index s i == 10) ≡ false → ((slice_index s i == 13) ≡ true → begins_newline (drop (suc i) s) ≡ false) → ends_line (drop i s) ≡ false
goes_on [] i h p q = absurd (omega (arith, h))
goes_on (b ∷ s) zero h p q = rw p (and_no (b == 13) (begins_newline s) q)
goes_on (b ∷ s) (suc i) h p q = goes_on s i (omega (arith, h)) p q

-- bytes that end no line are counted
counted : (s : List ℕ) (k : ℕ) → k ≤ length s → ((i : ℕ) → i < k → ends_line (drop i s) ≡ false) → line_len s ≡ k + line_len (drop k s)
counted s zero h f = omega arith
counted [] (suc k) h f = absurd (omega (arith, h))
counted (b ∷ s) (suc k) h f = rw (f 0 (omega arith)) (omega (arith, counted s k (omega (arith, h)) (λ i g. f (suc i) (omega (arith, g)))))

at_end : (t : List ℕ) → ends_line t ≡ true → line_len t ≡ 0
at_end [] e = refl
at_end (b ∷ t) e = rw e refl

newline_there : (s : List ℕ) (p : ℕ) → p < length s → (slice_index s p == 10) ≡ true → ends_line (drop p s) ≡ true
newline_there [] p h e = absurd (omega (arith, h))
newline_there (b ∷ s) zero h e = rw e refl
newline_there (b ∷ s) (suc p) h e = newline_there s p (omega (arith, h)) e

two_there : (s : List ℕ) (p : ℕ) → suc p < length s → slice_index s p ≡ 13 → (slice_index s (suc p) == 10) ≡ true → ends_line (drop p s) ≡ true
two_there [] p h r e = absurd (omega (arith, h))
two_there (b ∷ []) zero h r e = absurd (omega (arith, h))
two_there (b ∷ c ∷ s) zero h r e = rw r (rw e refl)
two_there (b ∷ s) (suc p) h r e = two_there s p (omega (arith, h)) r e

both : (s : List ℕ) (p : ℕ) → IsFirstByte (is_byte 10) s (Some (suc p)) → slice_index s p ≡ 13 → p ≡ line_len s
both s p f r =
    let inside : suc p < length s = f.0.high in
    let silent : (j : ℕ) → j < suc p → (slice_index s j == 10) ≡ false = λ j g. no (slice_index s j == 10) (f.0.before j (omega arith) g) in
    let on : (i : ℕ) → i < p → ends_line (drop i s) ≡ false = λ i g. goes_on s i (omega (arith, g, inside)) (silent i (omega (arith, g))) (λ _. quiet s (suc i) (λ _. silent (suc i) (omega (arith, g)))) in
    let zero_left : line_len (drop p s) ≡ 0 = at_end (drop p s) (two_there s p inside r f.1) in
    omega (arith, counted s p (omega (arith, inside)) on, zero_left)

-- where the first newline stands, and a carriage return before it, the line ends before both
pub ends_before : (s : List ℕ) (p : ℕ) → 0 < p → IsFirstByte (is_byte 10) s (Some p) → slice_index s (p - 1) ≡ 13 → p - 1 ≡ line_len s
ends_before s zero h f r = absurd (omega (arith, h))
ends_before s (suc p) h f r = omega (arith, both s p f (subst (λ k. slice_index s k ≡ 13) (omega arith) r))

-- where the first newline stands without one, the line ends there
pub ends_at : (s : List ℕ) (p : ℕ) → IsFirstByte (is_byte 10) s (Some p) → ((i : ℕ) → suc i ≡ p → ¬ (slice_index s i ≡ 13)) → p ≡ line_len s
ends_at s p f r =
    let inside : p < length s = f.0.high in
    let silent : (j : ℕ) → j < p → (slice_index s j == 10) ≡ false = λ j g. no (slice_index s j == 10) (f.0.before j (omega arith) g) in
    let on : (i : ℕ) → i < p → ends_line (drop i s) ≡ false = λ i g. goes_on s i (omega (arith, g, inside)) (silent i g) (λ e. quiet s (suc i) (λ _. silent (suc i) (later i g e))) in
    let zero_left : line_len (drop p s) ≡ 0 = at_end (drop p s) (newline_there s p inside f.1) in
    omega (arith, counted s p (omega (arith, inside)) on, zero_left)
  where
    later : (i : ℕ) → i < p → (slice_index s i == 13) ≡ true → suc i < p
    later i g e = omega (arith, g, λ (is : suc i ≡ p). r i is (grind (arith, nat_tests, e)))

-- a text without a newline is one line
pub no_end : (s : List ℕ) → IsFirstByte (is_byte 10) s None → length s ≡ line_len s
no_end s f =
    let silent : (j : ℕ) → j < length s → (slice_index s j == 10) ≡ false = λ j g. no (slice_index s j == 10) (f j (omega arith) g) in
    let on : (i : ℕ) → i < length s → ends_line (drop i s) ≡ false = λ i g. goes_on s i g (silent i g) (λ _. quiet s (suc i) (silent (suc i))) in
    let zero_left : line_len (drop (length s) s) ≡ 0 = rw (drop_all (length s) s (omega arith)) refl in
    omega (arith, counted s (length s) (omega arith) on, zero_left)
