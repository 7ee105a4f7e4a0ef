-- Laws of the size of a line: what stands after a line end, by its number of bytes.
use Rattle.std.proofs.Common.{◌≡◌, ◌<◌, ◌+◌, ◌==◌, ◌&&◌, ℕ, zero, suc, Bool, true, false, List, [], ◌∷◌, length, take, drop, if◌then◌else◌, refl, ap, sym, subst, ◌∙◌, arith}
use Rattle.std.proofs.lemmas.List.{drop-drop}
use Rattle.ut_text.specs.Lines.{begins_newline, lines_of}
use Rattle.ut_text.specs.LineEnds.{line_len, after_end, end_size}
use Rattle.ut_text.proofs.LinesLemmas.{first_line, rest_shorter}

after_by_size : (s : List ℕ) → after_end s ≡ drop (end_size s) s
after_by_size [] = refl
after_by_size (b ∷ s) = by (b == 10) (b == 13 && begins_newline s)
  where
    by : (x y : Bool) → (if x then s else if y then drop 1 s else b ∷ s) ≡ drop (if x then 1 else if y then 2 else 0) (b ∷ s)
    by true y = refl
    by false true = refl
    by false false = refl

after_line : (s : List ℕ) (n m : ℕ) → n ≡ line_len s → m ≡ end_size (drop n s) → after_end (drop (line_len s) s) ≡ drop (n + m) s
after_line s n m is end =
    ap (λ k. after_end (drop k s)) (sym is) ∙ after_by_size (drop n s) ∙ ap (λ k. drop k (drop n s)) (sym end) ∙ drop-drop m n s

-- the first line, and the lines after its bytes
pub line_and_rest : (s : List ℕ) (n m : ℕ) → 0 < length s → n ≡ line_len s → m ≡ end_size (drop n s)
    → lines_of s ≡ take (line_len s) s ∷ lines_of (drop (n + m) s)
line_and_rest s n m h is end = first_line s h ∙ ap (λ t. take (line_len s) s ∷ lines_of t) (after_line s n m is end)

-- a line with its end is not empty
pub some_bytes : (s : List ℕ) (n m : ℕ) → 0 < length s → n ≡ line_len s → m ≡ end_size (drop n s) → 0 < n + m
some_bytes s zero zero h is end = absurd (omega (arith, subst (λ t. length t < length s) (after_line s 0 0 is end) (rest_shorter s h)))
some_bytes s zero (suc m) h is end = omega arith
some_bytes s (suc n) m h is end = omega arith
