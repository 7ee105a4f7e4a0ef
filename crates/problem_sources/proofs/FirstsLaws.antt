-- Members that are each put at their first place.
use Rattle.std.proofs.Common.{◌≡◌, ℕ, ◌+◌, ◌<◌, Bool, true, false, ◌||◌, cond, List, [], ◌∷◌, ◌++◌, length, get_or, drop, map, append_assoc, refl, sym, ap, ◌∙◌}
use Rattle.std.specs.List.{list_any, flat_map}
use Rattle.std.proofs.lemmas.List.{at_drop_more, append-nil}
use Rattle.std.proofs.lemmas.List.Folds.{list_any-append}
use Rattle.kconf_tree.specs.Apart.{AreApart}
use Rattle.cpp_blocks.specs.Mentions.{firsts, with_new}
use Rattle.problem_sources.specs.Outers.{with_outer}
use Rattle.ut_text.specs.Text.{text_eq}

pub firsts-append : {A : Type 0} (eq : A → A → Bool) (seen xs ys : List A) → firsts eq seen (xs ++ ys) ≡ firsts eq (firsts eq seen xs) ys
firsts-append eq seen [] ys = refl
firsts-append eq seen (x ∷ xs) ys = firsts-append eq (with_new eq seen x) xs ys

-- the next one, and then what is left
pub firsts_one : {A : Type 0} (eq : A → A → Bool) (seen xs : List A) (i : ℕ) (d : A) → i < length xs
    → firsts eq seen (drop i xs) ≡ firsts eq (with_new eq seen (get_or xs i d)) (drop (i + 1) xs)
firsts_one eq seen xs i d h = at_drop_more (firsts eq seen) xs i d h

-- the members that the next of several gives, and then those of what is left
pub firsts_next : {A B : Type 0} (eq : A → A → Bool) (f : B → List A) (seen : List A) (xs : List B) (i : ℕ) (d : B) → i < length xs
    → firsts eq seen (flat_map f (drop i xs)) ≡ firsts eq (firsts eq seen (f (get_or xs i d))) (flat_map f (drop (i + 1) xs))
firsts_next eq f seen xs i d h = at_drop_more (λ ys. firsts eq seen (flat_map f ys)) xs i d h ∙ firsts-append eq seen (f (get_or xs i d)) (flat_map f (drop (i + 1) xs))

-- the same where each of several is seen as something else first
pub firsts_map_next : {A B C : Type 0} (eq : A → A → Bool) (f : B → List A) (g : C → B) (seen : List A) (xs : List C) (i : ℕ) (d : C) → i < length xs
    → firsts eq seen (flat_map f (map g (drop i xs))) ≡ firsts eq (firsts eq seen (f (g (get_or xs i d)))) (flat_map f (map g (drop (i + 1) xs)))
firsts_map_next eq f g seen xs i d h = at_drop_more (λ ys. firsts eq seen (flat_map f (map g ys))) xs i d h ∙ firsts-append eq seen (f (g (get_or xs i d))) (flat_map f (map g (drop (i + 1) xs)))

-- ---- members that are apart

-- none of them is among those seen
abbrev AreNew : {A : Type 0} → (A → A → Bool) → List A → List A → Type 0
AreNew eq seen [] = Unit {0}
AreNew eq seen (y ∷ ys) = (list_any (eq y) seen ≡ false) × AreNew eq seen ys

new_push : {A : Type 0} (eq : A → A → Bool) → ((x y : A) → eq x y ≡ eq y x) → (seen : List A) (x : A) (ys : List A) → AreNew eq seen ys → list_any (eq x) ys ≡ false → AreNew eq (seen ++ x ∷ []) ys
new_push eq flip seen x [] new off = tt
new_push eq flip seen x (y ∷ ys) new off = (list_any-append (eq y) seen (x ∷ []) ∙ both (list_any (eq y) seen) (eq y x) new.0 (flip y x ∙ first (eq x y) off), new_push eq flip seen x ys new.1 (rest (eq x y) off))
  where
    both : (a b : Bool) → a ≡ false → b ≡ false → (a || (b || false)) ≡ false
    both true b h g = h
    both false true h g = g
    both false false h g = refl

    first : (b : Bool) → (b || list_any (eq x) ys) ≡ false → b ≡ false
    first true h = h
    first false h = refl

    rest : (b : Bool) → (b || list_any (eq x) ys) ≡ false → list_any (eq x) ys ≡ false
    rest true h = absurd (cc)
    rest false h = h

apart_after : {A : Type 0} (eq : A → A → Bool) → ((x y : A) → eq x y ≡ eq y x) → (seen xs : List A) → AreApart eq xs → AreNew eq seen xs → firsts eq seen xs ≡ seen ++ xs
apart_after eq flip seen [] apart new = sym (append-nil seen)
apart_after eq flip seen (x ∷ xs) apart new = ap (λ b. firsts eq (cond b seen (seen ++ x ∷ [])) xs) new.0
    ∙ (apart_after eq flip (seen ++ x ∷ []) xs apart.1 (new_push eq flip seen x xs new.1 apart.0) ∙ append_assoc seen (x ∷ []) xs)

none_seen : {A : Type 0} (eq : A → A → Bool) (xs : List A) → AreNew eq [] xs
none_seen eq [] = tt
none_seen eq (x ∷ xs) = (refl, none_seen eq xs)

-- of those that are apart each stands at its first place
pub firsts_apart : {A : Type 0} (eq : A → A → Bool) → ((x y : A) → eq x y ≡ eq y x) → (xs : List A) → AreApart eq xs → firsts eq [] xs ≡ xs
firsts_apart eq flip xs apart = apart_after eq flip [] xs apart (none_seen eq xs)

-- ---- outer conditions

-- one more is put after those of the ground, where neither list has it
pub outer_new : (first more : List (List ℕ)) (text : List ℕ) → first ++ with_outer first more text ≡ with_new text_eq (first ++ more) text
outer_new first more text = by (list_any (text_eq text) first) (list_any (text_eq text) more) ∙ ap (λ b. cond b (first ++ more) ((first ++ more) ++ text ∷ [])) (sym (list_any-append (text_eq text) first more))
  where
    by : (b c : Bool) → first ++ cond b more (cond c more (more ++ text ∷ [])) ≡ cond (b || c) (first ++ more) ((first ++ more) ++ text ∷ [])
    by true c = refl
    by false true = refl
    by false false = sym (append_assoc first more (text ∷ []))
