-- The turns kept by name stay those of the macro lines passed, and the sum over a piece's distinct names
-- is the number of macro lines that touch one of them.
use Rattle.std.proofs.Common.{◌≡◌, ℕ, ◌+◌, suc, Bool, true, false, ◌||◌, cond, List, [], ◌∷◌, ◌++◌, length, filter, refl, sym, ap, ◌∙◌, arith}
use Rattle.std.specs.List.{list_any, sum_by}
use Rattle.std.proofs.lemmas.Bool.{false≢true}
use Rattle.std.proofs.lemmas.List.Folds.{list_any-append}
use Rattle.std.proofs.lemmas.List.Sums.{sum_by-cons, sum_by_push}
use Rattle.ut_text.specs.Text.{text_eq, text_equiv}
use Rattle.cpp_blocks.specs.declared.turns.Turns.{Turns}
use Rattle.cpp_blocks.specs.Counted.{turn_in, IsCounted, piece_turn}
use Rattle.cpp_blocks.specs.Mentions.{firsts}
use Rattle.cpp_directives.specs.PieceNames.{names_of_piece}
use Rattle.cpp_blocks.specs.Run.{touches}
use Rattle.cpp_blocks.specs.Turns.{turn_of}

-- one more macro line
pub one_more : (ts : List (List ℕ)) (n x : List ℕ) → turn_of (ts ++ n ∷ []) x ≡ cond (text_eq n x) (suc (turn_of ts x)) (turn_of ts x)
one_more [] n x = by (text_eq n x)
  where
    by : (b : Bool) → length (cond b (n ∷ []) []) ≡ cond b 1 0
    by true = refl
    by false = refl
one_more (t ∷ ts) n x = by (text_eq t x) (text_eq n x) (one_more ts n x)
  where
    by : (b c : Bool) → turn_of (ts ++ n ∷ []) x ≡ cond c (suc (turn_of ts x)) (turn_of ts x)
        → length (cond b (t ∷ filter (λ l. text_eq l x) (ts ++ n ∷ [])) (filter (λ l. text_eq l x) (ts ++ n ∷ [])))
        ≡ cond c (suc (length (cond b (t ∷ filter (λ l. text_eq l x) ts) (filter (λ l. text_eq l x) ts)))) (length (cond b (t ∷ filter (λ l. text_eq l x) ts) (filter (λ l. text_eq l x) ts)))
    by true true h = ap suc h
    by true false h = ap suc h
    by false true h = h
    by false false h = h

-- what counting one name leaves is counted
pub counted : (old new : Turns) (n : List ℕ) → ((x : List ℕ) → turn_in new x ≡ cond (text_eq n x) (suc (turn_in old n)) (turn_in old x))
    → (ts : List (List ℕ)) → IsCounted old ts → IsCounted new (ts ++ n ∷ [])
counted old new n h ts is x = h x ∙ (by (text_eq n x) refl ∙ sym (one_more ts n x))
  where
    same : text_eq n x ≡ true → turn_of ts n ≡ turn_of ts x
    same e = ap (λ f. length (filter f ts)) (λ i l. text_same l i)
      where
        text_same : (l : List ℕ) → text_eq l n ≡ text_eq l x
        text_same l = text_equiv.symm l n ∙ (text_equiv.congr n x l e ∙ text_equiv.symm x l)

    by : (b : Bool) → text_eq n x ≡ b → cond b (suc (turn_in old n)) (turn_in old x) ≡ cond b (suc (turn_of ts x)) (turn_of ts x)
    by true e = ap suc (is n ∙ same e)
    by false e = is x

-- ---- a piece's number

-- 1 where the name is that of the line
abbrev one_if : Bool → ℕ
one_if b = cond b 1 0

abbrev hits : List ℕ → List (List ℕ) → ℕ
hits line names = sum_by (λ x. one_if (text_eq line x)) names

-- a line touches at most one of distinct names
hit_once : (line : List ℕ) (seen more : List (List ℕ)) → hits line seen ≡ one_if (list_any (text_eq line) seen)
    → hits line (firsts text_eq seen more) ≡ one_if (list_any (text_eq line) seen || list_any (text_eq line) more)
hit_once line seen [] h = h ∙ by (list_any (text_eq line) seen)
  where
    by : (b : Bool) → one_if b ≡ one_if (b || false)
    by true = refl
    by false = refl
hit_once line seen (x ∷ more) h = by (list_any (text_eq x) seen) refl (hit_once line seen more h) (hit_once line (seen ++ x ∷ []) more)
  where
    known : (s a m : Bool) → (a ≡ true → s ≡ true) → (s || m) ≡ (s || (a || m))
    known true a m f = refl
    known false true m f = absurd (false≢true (f refl))
    known false false m f = refl

    inside : list_any (text_eq x) seen ≡ true → text_eq line x ≡ true → list_any (text_eq line) seen ≡ true
    inside e q = ap (λ f. list_any f seen) (λ i y. text_equiv.congr line x y q i) ∙ e

    after : (s a m : Bool) → (a ≡ true → s ≡ false) → ((s || (a || false)) || m) ≡ (s || (a || m))
    after true a m f = refl
    after false true m f = refl
    after false false m f = refl

    outside : list_any (text_eq x) seen ≡ false → text_eq line x ≡ true → list_any (text_eq line) seen ≡ false
    outside e q = ap (λ f. list_any f seen) (λ i y. text_equiv.congr line x y q i) ∙ e

    added : (s a : Bool) → (a ≡ true → s ≡ false) → one_if s + one_if a ≡ one_if (s || (a || false))
    added true true f = absurd (false≢true (sym (f refl)))
    added true false f = refl
    added false true f = refl
    added false false f = refl

    by : (b : Bool) → list_any (text_eq x) seen ≡ b
        → hits line (firsts text_eq seen more) ≡ one_if (list_any (text_eq line) seen || list_any (text_eq line) more)
        → (hits line (seen ++ x ∷ []) ≡ one_if (list_any (text_eq line) (seen ++ x ∷ [])) → hits line (firsts text_eq (seen ++ x ∷ []) more) ≡ one_if (list_any (text_eq line) (seen ++ x ∷ []) || list_any (text_eq line) more))
        → hits line (firsts text_eq (cond b seen (seen ++ x ∷ [])) more) ≡ one_if (list_any (text_eq line) seen || (text_eq line x || list_any (text_eq line) more))
    by true e there new = there ∙ ap one_if (known (list_any (text_eq line) seen) (text_eq line x) (list_any (text_eq line) more) (inside e))
    by false e there new = new
        (sum_by_push (λ y. one_if (text_eq line y)) seen x ∙ (ap (λ k. k + one_if (text_eq line x)) h ∙ (added (list_any (text_eq line) seen) (text_eq line x) (outside e) ∙ ap one_if (sym (list_any-append (text_eq line) seen (x ∷ []))))))
        ∙ ap one_if (ap (λ b. b || list_any (text_eq line) more) (list_any-append (text_eq line) seen (x ∷ [])) ∙ after (list_any (text_eq line) seen) (text_eq line x) (list_any (text_eq line) more) (outside e))

-- the turns after one more line, at its front
front : (t : List ℕ) (ts : List (List ℕ)) (x : List ℕ) → turn_of (t ∷ ts) x ≡ one_if (text_eq t x) + turn_of ts x
front t ts x = by (text_eq t x)
  where
    by : (b : Bool) → length (cond b (t ∷ filter (λ l. text_eq l x) ts) (filter (λ l. text_eq l x) ts)) ≡ one_if b + turn_of ts x
    by true = omega arith
    by false = omega arith

split_sum : (f g h : List ℕ → ℕ) → ((x : List ℕ) → f x ≡ g x + h x) → (names : List (List ℕ)) → sum_by f names ≡ sum_by g names + sum_by h names
split_sum f g h e [] = refl
split_sum f g h e (x ∷ xs) = let a : sum_by f (x ∷ xs) ≡ f x + sum_by f xs = sum_by-cons f x xs in
    let b : sum_by g (x ∷ xs) ≡ g x + sum_by g xs = sum_by-cons g x xs in
    let c : sum_by h (x ∷ xs) ≡ h x + sum_by h xs = sum_by-cons h x xs in
    let d : f x ≡ g x + h x = e x in
    let r : sum_by f xs ≡ sum_by g xs + sum_by h xs = split_sum f g h e xs in
    omega arith

none_sum : (names : List (List ℕ)) → sum_by (λ (x : List ℕ). 0) names ≡ 0
none_sum [] = refl
none_sum (x ∷ xs) = none_sum xs

summed : (text : List ℕ) (ts : List (List ℕ)) → sum_by (turn_of ts) (firsts text_eq [] (names_of_piece text)) ≡ touches ts text
summed text [] = none_sum (firsts text_eq [] (names_of_piece text))
summed text (t ∷ ts) = split_sum (turn_of (t ∷ ts)) (λ x. one_if (text_eq t x)) (turn_of ts) (front t ts) (firsts text_eq [] (names_of_piece text))
    ∙ (ap (λ k. k + sum_by (turn_of ts) (firsts text_eq [] (names_of_piece text))) (hit_once t [] (names_of_piece text) refl)
    ∙ (ap (λ k. one_if (list_any (text_eq t) (names_of_piece text)) + k) (summed text ts) ∙ by (list_any (text_eq t) (names_of_piece text))))
  where
    by : (b : Bool) → one_if b + touches ts text ≡ length (cond b (t ∷ filter (λ n. list_any (text_eq n) (names_of_piece text)) ts) (filter (λ n. list_any (text_eq n) (names_of_piece text)) ts))
    by true = omega arith
    by false = omega arith

-- the numbers of pieces are those of the macro lines passed
pub pieces_counted : (turns : Turns) (ts : List (List ℕ)) → IsCounted turns ts → piece_turn turns ≡ touches ts
pieces_counted turns ts is i text = (ap (λ (f : List ℕ → ℕ). sum_by f (firsts text_eq [] (names_of_piece text))) (λ j x. is x j) ∙ summed text ts) i
