-- The texts of words, one more word at a time.
use Rattle.std.proofs.Common.{◌≡◌, ◌∙◌, ap, ap₂, sym, subst, ℕ, ◌+◌, ◌<◌, List, [], ◌∷◌, ◌++◌, length, get_or, map, take, Bor}
use Rattle.std.proofs.lemmas.List.{map-append, take_more}
use Rattle.std.specs.List.{AllByRecursion}
use Rattle.std.specs.Str.{IsUtf8}
use Rattle.ut_text.specs.Bytes.{Bytes}
use Rattle.ut_words.specs.Reading.{AreUtf8}

abbrev pub texts : List (Bor Bytes) → List Bytes
texts = map (λ t. t.now)

all_snoc : {A : Type 0} (P : A → Type 0) (xs : List A) (x : A) → AllByRecursion P xs → P x → AllByRecursion P (xs ++ x ∷ [])
all_snoc P [] x all p = (p, all)
all_snoc P (y ∷ xs) x all p = (all.0, all_snoc P xs x all.1 p)

-- one more word
pub one_more_text : (old new : List (Bor Bytes)) (t : Bor Bytes) (words : List Bytes) (i : ℕ) (word : Bytes) → i < length words → get_or words i word ≡ word → new ≡ old ++ t ∷ []
    → t.now ≡ word → texts old ≡ take i words → texts new ≡ take (i + 1) words
one_more_text old new t words i word inside at more is so_far =
    ap texts more ∙ map-append (λ b. b.now) old (t ∷ []) ∙ ap₂ (λ ws w. ws ++ w ∷ []) so_far (is ∙ sym at) ∙ sym (take_more words i word inside)

pub one_more_utf8 : (old new : List (Bor Bytes)) (t : Bor Bytes) → new ≡ old ++ t ∷ [] → IsUtf8 t.now → AreUtf8 (texts old) → AreUtf8 (texts new)
one_more_utf8 old new t more utf8 all =
    subst AreUtf8 (sym (ap texts more ∙ map-append (λ b. b.now) old (t ∷ []))) (all_snoc IsUtf8 (texts old) t.now all utf8)
