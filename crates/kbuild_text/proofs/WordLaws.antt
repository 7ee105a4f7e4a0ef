-- The words of a line, from its front.
use Rattle.std.proofs.Common.{◌≡◌, ◌∙◌, ◌+◌, ◌-◌, ◌==◌, ◌<◌, ◌≤◌, ℕ, suc, Bool, true, false, not, cond, if◌then◌else◌, refl, sym, ap, subst, List, [], ◌∷◌, ◌++◌, length, take, drop, arith, true≢false, length-drop, eqb}
use Rattle.std.specs.List.{prefix_len}
use Rattle.std.proofs.lemmas.Bool.{eqb-true}
use Rattle.std.proofs.lemmas.List.Sums.{prefix_len-le-length}
use Rattle.kbuild_text.specs.Marks.{after, closing, depth_of, opening}
use Rattle.kbuild_text.specs.Words.{begins_word, is_of_word, onto_first, separates, words_of}
use Rattle.kbuild_text.specs.declared.marks.Bracket.{Bracket}
use Rattle.kbuild_text.specs.declared.marks.Bracket.TheVariants.{Round, Curly}
use Rattle.kbuild_text.specs.declared.marks.Mark.{Mark}
use Rattle.kbuild_text.specs.declared.marks.Place.{Place}
use Rattle.kbuild_text.specs.declared.marks.Place.TheVariants.{Outside, Dollar, Inside}

-- ---- macro calls

outside-depth : (t : Bool) → depth_of (if t then Dollar else Outside) ≤ 0
outside-depth true = omega arith
outside-depth false = omega arith

dollar-depth : (t u v : Bool) → depth_of (if t then Inside Round 0 else if u then Inside Curly 0 else if v then Dollar else Outside) ≤ 0
dollar-depth true u v = omega arith
dollar-depth false true v = omega arith
dollar-depth false false v = outside-depth v

inside-depth : (bracket : Bracket) (depth : ℕ) (t u v : Bool) → depth_of (if t then Inside bracket (depth + 1) else if u then Inside bracket depth else if v then Outside else Inside bracket (depth - 1)) ≤ depth + 1
inside-depth bracket depth true u v = omega arith
inside-depth bracket depth false true v = omega arith
inside-depth bracket depth false false true = omega arith
inside-depth bracket depth false false false = omega arith

-- one more byte opens at most one more pair
pub depth_after : (place : Place) (b : ℕ) → depth_of (after place b) ≤ depth_of place + 1
depth_after Outside b = let h = outside-depth (b == 36) in omega (arith, h)
depth_after Dollar b = let h = dollar-depth (b == 40) (b == 123) (b == 36) in omega (arith, h)
depth_after (Inside bracket depth) b = inside-depth bracket depth (b == opening bracket) (not (b == closing bracket)) (depth == 0)

-- ---- words

-- the place where a count stops
pub stops_at : (p : Mark → Bool) (s : List Mark) (m : Mark) (rest : List Mark) → drop (prefix_len p s) s ≡ m ∷ rest → p m ≡ false
stops_at p [] m rest e = absurd (cc)
stops_at p (x ∷ s) m rest e = by (p x) refl e (stops_at p s m rest)
  where
    by : (t : Bool) → p x ≡ t → drop (cond t (1 + prefix_len p s) 0) (x ∷ s) ≡ m ∷ rest → (drop (prefix_len p s) s ≡ m ∷ rest → p m ≡ false) → p m ≡ false
    by true h e rest_stops = let one : 1 + prefix_len p s ≡ suc (prefix_len p s) = omega arith in rest_stops (rw one at e)
    by false h e rest_stops = let same : x ≡ m = cc in subst (λ z. p z ≡ false) same h

-- separators before the first word don't matter
pub words-separators : (s : List Mark) → words_of (drop (prefix_len separates s) s) ≡ words_of s
words-separators [] = refl
words-separators (m ∷ s) = by (separates m) refl (words-separators s)
  where
    by : (t : Bool) → separates m ≡ t → words_of (drop (prefix_len separates s) s) ≡ words_of s
        → words_of (drop (cond t (1 + prefix_len separates s) 0) (m ∷ s)) ≡ words_of (m ∷ s)
    by true h rest =
        let one : 1 + prefix_len separates s ≡ suc (prefix_len separates s) = omega arith in
        rw one (rest ∙ sym (ap (λ t. if t then words_of s else if begins_word s then onto_first m (words_of s) else (m ∷ []) ∷ words_of s) h))
    by false h rest = refl

-- a line that begins with a word: that word, and the words of what stands after it
pub words-first : (m : Mark) (s : List Mark) → separates m ≡ false
    → words_of (m ∷ s) ≡ take (prefix_len is_of_word (m ∷ s)) (m ∷ s) ∷ words_of (drop (prefix_len is_of_word (m ∷ s)) (m ∷ s))
words-first m [] h = by (separates m) h
  where
    by : (t : Bool) → t ≡ false → (if t then [] else (m ∷ []) ∷ []) ≡ take (cond (not t) (1 + 0) 0) (m ∷ []) ∷ words_of (drop (cond (not t) (1 + 0) 0) (m ∷ []))
    by true e = absurd (true≢false e)
    by false e = refl
words-first m (n ∷ s) h = by (separates m) (separates n) h refl (words-first n s)
  where
    k : ℕ
    k = prefix_len is_of_word s

    by : (t u : Bool) → t ≡ false → separates n ≡ u
        → (separates n ≡ false → words_of (n ∷ s) ≡ take (prefix_len is_of_word (n ∷ s)) (n ∷ s) ∷ words_of (drop (prefix_len is_of_word (n ∷ s)) (n ∷ s)))
        → (if t then words_of (n ∷ s) else if not u then onto_first m (words_of (n ∷ s)) else (m ∷ []) ∷ words_of (n ∷ s))
        ≡ take (cond (not t) (1 + cond (not u) (1 + k) 0) 0) (m ∷ n ∷ s) ∷ words_of (drop (cond (not t) (1 + cond (not u) (1 + k) 0) 0) (m ∷ n ∷ s))
    by true u e f rest = absurd (true≢false e)
    by false true e f rest = refl
    by false false e f rest =
        let same : prefix_len is_of_word (n ∷ s) ≡ 1 + k = ap (λ t. cond (not t) (1 + k) 0) f in
        let one : 1 + (1 + k) ≡ suc (1 + k) = omega arith in
        ap (onto_first m) (rest f) ∙ (ap (λ j. (m ∷ take j (n ∷ s)) ∷ words_of (drop j (n ∷ s))) same ∙ ap (λ j. take j (m ∷ n ∷ s) ∷ words_of (drop j (m ∷ n ∷ s))) (sym one))

-- a text that tests as not empty has a mark
pub some_marks : (line : List Mark) (b : Bool) → b ≡ eqb (length line) 0 → b ≡ false → 0 < length line
some_marks [] b e f = absurd (true≢false (sym e ∙ f))
some_marks (m ∷ line) b e f = omega arith

module _ (s line : List Mark) (is : line ≡ drop (prefix_len separates s) s) where
  -- no word is left
  pub no_word : (b : Bool) → b ≡ eqb (length line) 0 → b ≡ true → words_of s ≡ []
  no_word b e t = sym (words-separators s) ∙ ap words_of (sym is ∙ none line (eqb-true (length line) 0 (sym e ∙ t)))
    where
      none : (l : List Mark) → length l ≡ 0 → l ≡ []
      none [] n = refl
      none (m ∷ l) n = absurd (omega (arith, n))

  -- the first word, and what stands after it
  pub first_word : 0 < length line → words_of s ≡ take (prefix_len is_of_word line) line ∷ words_of (drop (prefix_len is_of_word line) line)
  first_word some = sym (words-separators s) ∙ (ap words_of (sym is) ∙ by line some (sym is))
    where
      by : (l : List Mark) → 0 < length l → drop (prefix_len separates s) s ≡ l → words_of l ≡ take (prefix_len is_of_word l) l ∷ words_of (drop (prefix_len is_of_word l) l)
      by [] some e = absurd (omega (arith, some))
      by (m ∷ rest) some e = words-first m rest (stops_at separates s m rest e)

  -- it is shorter than the line
  pub rest_shorter : 0 < length line → length (drop (prefix_len is_of_word line) line) < length s
  rest_shorter some =
      let some_word : 0 < prefix_len is_of_word line = by line some (sym is) in
      let inner : length line ≤ length s = omega (arith, ap length is, length-drop (prefix_len separates s) s) in
      omega (arith, length-drop (prefix_len is_of_word line) line, some_word, inner, some)
    where
      by : (l : List Mark) → 0 < length l → drop (prefix_len separates s) s ≡ l → 0 < prefix_len is_of_word l
      by [] some e = absurd (omega (arith, some))
      by (m ∷ rest) some e = subst (λ t. 0 < cond (not t) (1 + prefix_len is_of_word rest) 0) (sym (stops_at separates s m rest e)) (omega arith)
