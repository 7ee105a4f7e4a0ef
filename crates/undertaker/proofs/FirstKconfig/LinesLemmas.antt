-- Laws of the lines of the first form: words are cut one after another, and names are read so.
use Rattle.std.proofs.Common.{◌≡◌, ℕ, suc, ◌+◌, ◌∷◌, ◌++◌, ◌==◌, Bool, true, false, List, [], take, drop, append_assoc, refl, ap, sym, ◌∙◌, arith}
use Rattle.std.specs.Prelude.{Option, None, Some}
use Rattle.std.specs.List.{prefix_len}
use Rattle.undertaker.specs.FirstKconfig.Form.{is_word_byte, onto_word, words_of, with_name, names_from, is_name}
use Rattle.undertaker.specs.FirstKconfig.Words.{later_words, with_names, Takes}

FirstWord : List ℕ → ℕ → Type 0
FirstWord s n = words_of s ≡ take n s ∷ later_words (drop n s)

first_at : (s : List ℕ) → FirstWord s (prefix_len is_word_byte s)
unfolding FirstWord
first_at [] = refl
first_at (b ∷ s) = by (b == 32) refl (first_at s)
  where
    next : 1 + prefix_len is_word_byte s ≡ suc (prefix_len is_word_byte s)
    next = omega arith

    by : (x : Bool) → (b == 32) ≡ x → FirstWord s (prefix_len is_word_byte s) → FirstWord (b ∷ s) (prefix_len is_word_byte (b ∷ s))
    by true e f = rw e refl
    by false e f = rw e (rw next (ap (onto_word b) f))

-- a text is its first word and the later ones
pub first_word : (s : List ℕ) → words_of s ≡ take (prefix_len is_word_byte s) s ∷ later_words (drop (prefix_len is_word_byte s) s)
unfolding FirstWord
first_word s = first_at s

-- one more word stands in front of those that are left
pub one_more : (front new whole : List (List ℕ)) (w : List ℕ) (ws : List (List ℕ)) → new ≡ front ++ w ∷ [] → front ++ w ∷ ws ≡ whole → new ++ ws ≡ whole
one_more front new whole w ws e h = rw e (append_assoc front (w ∷ []) ws ∙ h)

-- one more name stands in front of those that are left
name_more : (front : List (List ℕ)) (w : List ℕ) (left : Option (List (List ℕ))) → with_names front (with_name w left) ≡ with_names (front ++ w ∷ []) left
name_more front w None = refl
name_more front w (Some ws) = ap (λ (xs : List (List ℕ)). Some xs) (sym (append_assoc front (w ∷ []) ws))

pub takes_name : (w : List ℕ) (old new : List (List ℕ)) → is_name w ≡ true → new ≡ old ++ w ∷ [] → Takes true w old new true
takes_name w old new h e ws = rw (e, h) (name_more old w (names_from false ws))

-- where a word does not stand as one like it is wanted, there are no names
pub word_refused : (names new : List (List ℕ)) (wants ok : Bool) (w : List ℕ) (ws left : List (List ℕ)) (whole : Option (List (List ℕ)))
    → ok ≡ false → left ≡ w ∷ ws → Takes wants w names new ok → with_names names (names_from wants left) ≡ whole → None ≡ whole
word_refused names new wants ok w ws left whole e is t h = sym (rw is (t ws ∙ rw e refl)) ∙ h
