-- Words take something, so that they are cut off one after another.
use Rattle.std.proofs.Common.{ℕ, suc, ◌≡◌, ◌∙◌, refl, sym, ap, ◌<◌, ◌≤◌, ◌||◌, arith, Bool, true, false, List, [], ◌∷◌, ◌++◌, length, drop, append_assoc}
use Rattle.std.specs.Prelude.{if◌then◌else◌, Option, Some, None}
use Rattle.std.proofs.lemmas.List.{append-nil}
use Rattle.ut_text.specs.Bytes.{Bytes}
use Rattle.kconf_entries.specs.declared.entries.Var.{Var}
use Rattle.kconf_words.specs.declared.line_words.LineWord.{LineWord}
use Rattle.kconf_lines.specs.Cut.{onto, go_on, at_most, cut}
use Rattle.kconf_lines.specs.Laws.{Shortens, CutsOneByOne}
use Rattle.kconf_lines.proofs.CutLaws.{cut_is, left_le}
use Rattle.kconf_cut.specs.Words.{Part, is_at, is_word_byte, is_mark, begins_call, first_call, unquoted, quoted, begins_comment, is_pair, sign_of, quoted_word, unquoted_word, word_at, first_word, unblanked}
use Rattle.kconf_cut.proofs.CallLemmas.{Leaves, if_both, if_known, drop_le}
use Rattle.kconf_cut.proofs.PartLemmas.{unquoted_shorter, quoted_shorter}

some_none : {A : Type 0} {X : Type 0} (x : A) → ◌≡◌ {A = Option A} (Some x) None → X
some_none x h = absurd (cc)

module _ (vars : List Var) (b : ℕ) (s : Bytes) where
  quoted_is : (p : List Part × Bytes) → length p.1 ≤ length s → Leaves (suc (length s)) (quoted_word vars b p)
  quoted_is p h = let d = drop_le 1 p.1 in if_both (suc (length s)) (is_at b p.1) _ None (omega (arith, d, h)) tt

  -- where an unquoted word has no first part, a call without its end stands there
  no_part : (c w : Bool) → (w || c) ≡ true → (if c then first_call (b ∷ s) else if w then Some (Part.Byte b, s) else None) ≡ None → c ≡ true
  no_part true w h k = refl
  no_part false true h k = some_none (Part.Byte b, s) k
  no_part false false h k = h

  unquoted_by : (o : Option (Part × Bytes)) → Leaves (suc (length s)) o → (o ≡ None → begins_call (b ∷ s) ≡ true)
      → Leaves (suc (length s)) (unquoted_word vars (go_on (at_most unquoted (length s)) (b ∷ s) o))
  unquoted_by None h f = rw (f refl) tt
  unquoted_by (Some p) h f = let d = left_le unquoted unquoted_shorter (length s) p.1 in
      if_both (suc (length s)) (begins_call (at_most unquoted (length s) p.1).1) None _ tt (omega (arith, d, h))

  word_shorter : Leaves (suc (length s)) (word_at vars (b ∷ s))
  word_shorter =
      let n = suc (length s) in
      let d = drop_le 1 s in
      let sign = if_both n (is_pair (b ∷ s)) (Some (sign_of 2 (b ∷ s))) (Some (sign_of 1 (b ∷ s))) (omega (arith, d)) (omega arith) in
      let other = if_both n (begins_comment (b ∷ s)) None _ tt sign in
      let bare = if_known n (is_word_byte b || begins_call (b ∷ s)) (unquoted_word vars (cut unquoted (b ∷ s))) _
      (λ e. unquoted_by (unquoted (b ∷ s)) (unquoted_shorter (b ∷ s)) (no_part (begins_call (b ∷ s)) (is_word_byte b) e)) other in
      if_both n (is_mark b) (quoted_word vars b (cut (quoted b) s)) _ (quoted_is (cut (quoted b) s) (left_le (quoted b) (quoted_shorter b) (length s) s)) bare

grown : {X A : Type 0} (n m : ℕ) (o : Option (A × List X)) → n ≤ m → Leaves n o → Leaves m o
grown n m None le h = tt
grown n m (Some p) le h = omega (arith, le, h)

at_shorter : (vars : List Var) (s : Bytes) → Leaves (length s) (word_at vars s)
at_shorter vars [] = tt
at_shorter vars (b ∷ s) = word_shorter vars b s

pub word_shortens : (vars : List Var) → Shortens (first_word vars)
word_shortens vars line = grown (length (unblanked line)) (length line) (word_at vars (unblanked line)) (drop_le _ line) (at_shorter vars (unblanked line))

pub words_cut : (vars : List Var) → CutsOneByOne (first_word vars)
words_cut vars = cut_is (first_word vars) (word_shortens vars)

-- ---- a loop that cuts words off

-- these words, and then those that are cut off what is left
abbrev pub Goes : List Var → Bytes → List LineWord → Bytes → Type 0
Goes vars text list rest = cut (first_word vars) text ≡ (list ++ (cut (first_word vars) rest).0, (cut (first_word vars) rest).1)

pub goes_on : (vars : List Var) (text : Bytes) (list new : List LineWord) (rest : Bytes) (p : LineWord × Bytes) → new ≡ list ++ p.0 ∷ [] → Goes vars text list rest
    → first_word vars rest ≡ Some p → Goes vars text new p.1
goes_on vars text list new rest p n h e =
    let one : cut (first_word vars) rest ≡ onto p.0 (cut (first_word vars) p.1) = words_cut vars rest ∙ ap (go_on (cut (first_word vars)) rest) e in
    h ∙ ap (λ q. (list ++ q.0, q.1)) one ∙ ap (λ l. (l, (cut (first_word vars) p.1).1)) (sym (append_assoc list (p.0 ∷ []) (cut (first_word vars) p.1).0))
    ∙ ap (λ (l : List LineWord). (l ++ (cut (first_word vars) p.1).0, (cut (first_word vars) p.1).1)) (sym n)

pub ends : (vars : List Var) (text : Bytes) (list : List LineWord) (rest : Bytes) → Goes vars text list rest → first_word vars rest ≡ None → cut (first_word vars) text ≡ (list, rest)
ends vars text list rest h e =
    let one : cut (first_word vars) rest ≡ ([], rest) = words_cut vars rest ∙ ap (go_on (cut (first_word vars)) rest) e in
    h ∙ ap (λ q. (list ++ q.0, q.1)) one ∙ ap (λ l. (l, rest)) (append-nil list)

pub next_shorter : (vars : List Var) (rest : Bytes) (p : LineWord × Bytes) → first_word vars rest ≡ Some p → length p.1 < length rest
next_shorter vars rest p e = let h : Leaves (length rest) (first_word vars rest) = word_shortens vars rest in rw e at h
