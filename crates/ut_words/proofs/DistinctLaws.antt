-- Whether texts are distinct, text by text: none of those that are left was seen, and they are distinct.
use Rattle.std.proofs.Common.{◌≡◌, ◌∙◌, ap, ap₂, sym, refl, ℕ, List, [], ◌∷◌, ◌++◌, Bool, true, false, ◌&&◌, ◌||◌, ◌==◌, not}
use Rattle.std.proofs.lemmas.Bool.{eqb-true, eq-eqb}
use Rattle.std.specs.List.{list_all}
use Rattle.std.specs.Str.{bytes_eq}
use Rattle.ut_text.specs.Bytes.{Bytes}
use Rattle.ut_words.specs.Values.{are_distinct, is_one_of}
use Rattle.std.proofs.Common.{◌+◌, ◌<◌, ◌≤◌, Bor, length, get_or, drop, if◌then◌else◌}
use Rattle.std.proofs.lemmas.List.{drop_all, drop_more}
use Rattle.ut_words.proofs.BoolLaws.{or_false, other_way}
use Rattle.ut_words.proofs.OneByOne.{bytes_of}

eq_turned : (a b : ℕ) → (a == b) ≡ (b == a)
eq_turned a b = by (a == b) refl
  where
    by : (t : Bool) → (a == b) ≡ t → t ≡ (b == a)
    by true h = sym (eq-eqb b a (sym (eqb-true a b h)))
    by false h = sym (other_way a b h)

bytes_turned : (xs ys : Bytes) → bytes_eq xs ys ≡ bytes_eq ys xs
bytes_turned [] [] = refl
bytes_turned [] (y ∷ ys) = refl
bytes_turned (x ∷ xs) [] = refl
bytes_turned (x ∷ xs) (y ∷ ys) = ap₂ (λ a b. a && b) (eq_turned x y) (bytes_turned xs ys)

-- none of the texts that are left was seen
abbrev pub none_of : List Bytes → List Bytes → Bool
none_of seen left = list_all (λ text. not (is_one_of seen text)) left

one_of-more : (seen : List Bytes) (x text : Bytes) → is_one_of (seen ++ x ∷ []) text ≡ (is_one_of seen text || bytes_eq text x)
one_of-more [] x text = or_false (bytes_eq text x)
one_of-more (s ∷ seen) x text = by (bytes_eq text s) (one_of-more seen x text)
  where
    by : (b : Bool) → is_one_of (seen ++ x ∷ []) text ≡ (is_one_of seen text || bytes_eq text x) → (b || is_one_of (seen ++ x ∷ []) text) ≡ ((b || is_one_of seen text) || bytes_eq text x)
    by true h = refl
    by false h = h

shared_out : (a b c d : Bool) → (not (a || b) && (c && not d)) ≡ ((not a && c) && not (b || d))
shared_out true b c d = refl
shared_out false true true d = refl
shared_out false true false d = refl
shared_out false false c d = refl

none_of-more : (seen : List Bytes) (x : Bytes) (left : List Bytes) → none_of (seen ++ x ∷ []) left ≡ (none_of seen left && not (is_one_of left x))
none_of-more seen x [] = refl
none_of-more seen x (text ∷ left) =
    ap₂ (λ a b. not a && b) (one_of-more seen x text ∙ ap (λ b. is_one_of seen text || b) (bytes_turned text x)) (none_of-more seen x left)
    ∙ shared_out (is_one_of seen text) (bytes_eq x text) (none_of seen left) (is_one_of left x)

gathered : (p c q d : Bool) → ((p && c) && (q && d)) ≡ (p && ((c && q) && d))
gathered true true q d = refl
gathered true false q d = refl
gathered false c q d = refl

-- one text more is seen
pub next_text : (seen : List Bytes) (x : Bytes) (left : List Bytes)
    → (none_of seen (x ∷ left) && are_distinct (x ∷ left)) ≡ (not (is_one_of seen x) && (none_of (seen ++ x ∷ []) left && are_distinct left))
next_text seen x left =
    gathered (not (is_one_of seen x)) (none_of seen left) (not (is_one_of left x)) (are_distinct left)
    ∙ ap (λ b. not (is_one_of seen x) && (b && are_distinct left)) (sym (none_of-more seen x left))

pub nothing_seen : (left : List Bytes) → none_of [] left ≡ true
nothing_seen [] = refl
nothing_seen (text ∷ left) = nothing_seen left

-- the same, along a slice of texts
pub distinct_at_start : (texts : List (Bor Bytes)) (seen : List Bytes) → seen ≡ [] → are_distinct (bytes_of texts) ≡ (none_of seen (bytes_of texts) && are_distinct (bytes_of texts))
distinct_at_start texts seen none = rw none (sym (ap (λ b. b && are_distinct (bytes_of texts)) (nothing_seen (bytes_of texts))))

now_and_later : (texts : List (Bor Bytes)) (i : ℕ) (seen : List Bytes) (d : Bor Bytes) → i < length texts
    → (none_of seen (bytes_of (drop i texts)) && are_distinct (bytes_of (drop i texts)))
    ≡ (not (is_one_of seen (get_or texts i d).now)
    && (none_of (seen ++ (get_or texts i d).now ∷ []) (bytes_of (drop (i + 1) texts)) && are_distinct (bytes_of (drop (i + 1) texts))))
now_and_later texts i seen d inside =
    ap (λ l. none_of seen (bytes_of l) && are_distinct (bytes_of l)) (drop_more texts i d inside) ∙ next_text seen (get_or texts i d).now (bytes_of (drop (i + 1) texts))

pub distinct_fails : (texts : List (Bor Bytes)) (i : ℕ) (seen : List Bytes) (d : Bor Bytes) → i < length texts → not (is_one_of seen (get_or texts i d).now) ≡ false
    → are_distinct (bytes_of texts) ≡ (none_of seen (bytes_of (drop i texts)) && are_distinct (bytes_of (drop i texts))) → false ≡ are_distinct (bytes_of texts)
distinct_fails texts i seen d inside old so_far = sym (so_far ∙ now_and_later texts i seen d inside ∙ ap (λ b. b && (none_of (seen ++ (get_or texts i d).now ∷ []) (bytes_of (drop (i + 1) texts)) && are_distinct (bytes_of (drop (i + 1) texts)))) old)

pub distinct_more : (texts : List (Bor Bytes)) (i : ℕ) (seen new : List Bytes) (d : Bor Bytes) → i < length texts → (is_new : Bool) → is_new ≡ true
    → is_new ≡ not (is_one_of seen (get_or texts i d).now) → new ≡ (if is_new then seen ++ (get_or texts i d).now ∷ [] else seen)
    → are_distinct (bytes_of texts) ≡ (none_of seen (bytes_of (drop i texts)) && are_distinct (bytes_of (drop i texts)))
    → are_distinct (bytes_of texts) ≡ (none_of new (bytes_of (drop (i + 1) texts)) && are_distinct (bytes_of (drop (i + 1) texts)))
distinct_more texts i seen new d inside is_new unseen is keys so_far =
    let more : new ≡ seen ++ (get_or texts i d).now ∷ [] = keys ∙ ap (λ b. if b then seen ++ (get_or texts i d).now ∷ [] else seen) unseen in
    so_far ∙ now_and_later texts i seen d inside
    ∙ ap (λ b. b && (none_of (seen ++ (get_or texts i d).now ∷ []) (bytes_of (drop (i + 1) texts)) && are_distinct (bytes_of (drop (i + 1) texts)))) (sym is ∙ unseen)
    ∙ ap (λ ks. none_of ks (bytes_of (drop (i + 1) texts)) && are_distinct (bytes_of (drop (i + 1) texts))) (sym more)

pub distinct_at_end : (texts : List (Bor Bytes)) (i : ℕ) (seen : List Bytes) → length texts ≤ i
    → are_distinct (bytes_of texts) ≡ (none_of seen (bytes_of (drop i texts)) && are_distinct (bytes_of (drop i texts))) → true ≡ are_distinct (bytes_of texts)
distinct_at_end texts i seen end so_far = sym (so_far ∙ ap (λ l. none_of seen (bytes_of l) && are_distinct (bytes_of l)) (drop_all i texts end))
