-- What is made of texts, one by one, if each passes a test.
use Rattle.std.proofs.Common.{◌≡◌, ◌∙◌, ap, sym, refl, ℕ, ◌+◌, ◌<◌, ◌≤◌, List, [], ◌∷◌, ◌++◌, length, get_or, map, take, drop, Bor, Bool, true, false, ◌&&◌, Some, None}
use Rattle.std.proofs.lemmas.List.{drop_all, drop_more, map-append, take_all, take_more}
use Rattle.std.specs.List.{list_all}
use Rattle.ut_text.specs.Bytes.{Bytes}
use Rattle.ut_words.specs.Reading.{some_if}

abbrev pub bytes_of : List (Bor Bytes) → List Bytes
bytes_of = map (λ t. t.now)

-- the first i texts passed, and this was made of them
pub record Made {B : Type 0} (passes : Bytes → Bool) (f : Bytes → B) (texts : List (Bor Bytes)) (i : ℕ) (made : List B) : Type 0 where
  pub made_is : made ≡ map f (bytes_of (take i texts))
  pub left : list_all passes (bytes_of texts) ≡ list_all passes (bytes_of (drop i texts))

pub made_nothing : {B : Type 0} (passes : Bytes → Bool) (f : Bytes → B) (texts : List (Bor Bytes)) (made : List B) → made ≡ [] → Made passes f texts 0 made
made_nothing passes f texts made none = record { made_is = none; left = refl }

left_now : (passes : Bytes → Bool) (texts : List (Bor Bytes)) (i : ℕ) (d : Bor Bytes) → i < length texts
    → list_all passes (bytes_of (drop i texts)) ≡ (passes (get_or texts i d).now && list_all passes (bytes_of (drop (i + 1) texts)))
left_now passes texts i d inside = ap (λ l. list_all passes (bytes_of l)) (drop_more texts i d inside)

pub made_more : {B : Type 0} (passes : Bytes → Bool) (f : Bytes → B) (texts : List (Bor Bytes)) (i : ℕ) (made new : List B) (d : Bor Bytes) → i < length texts
    → passes (get_or texts i d).now ≡ true → new ≡ made ++ f (get_or texts i d).now ∷ [] → Made passes f texts i made → Made passes f texts (i + 1) new
made_more passes f texts i made new d inside right more so_far = record {
  made_is =
      more ∙ ap (λ l. l ++ f (get_or texts i d).now ∷ []) so_far.made_is ∙ sym (map-append f (bytes_of (take i texts)) ((get_or texts i d).now ∷ []))
      ∙ ap (map f) (sym (map-append (λ t. t.now) (take i texts) (get_or texts i d ∷ []))) ∙ ap (λ l. map f (bytes_of l)) (sym (take_more texts i d inside));
  left = so_far.left ∙ left_now passes texts i d inside ∙ ap (λ b. b && list_all passes (bytes_of (drop (i + 1) texts))) right;
}

pub made_fails : {B V : Type 0} (passes : Bytes → Bool) (f : Bytes → B) (texts : List (Bor Bytes)) (i : ℕ) (made : List B) (d : Bor Bytes) (v : V) → i < length texts
    → passes (get_or texts i d).now ≡ false → Made passes f texts i made → None ≡ some_if (list_all passes (bytes_of texts)) v
made_fails passes f texts i made d v inside wrong so_far =
    let none : list_all passes (bytes_of texts) ≡ false = so_far.left ∙ left_now passes texts i d inside ∙ ap (λ b. b && list_all passes (bytes_of (drop (i + 1) texts))) wrong in
    rw none refl

pub made_all : {B : Type 0} (passes : Bytes → Bool) (f : Bytes → B) (texts : List (Bor Bytes)) (i : ℕ) (made : List B) → length texts ≤ i → Made passes f texts i made
    → Some made ≡ some_if (list_all passes (bytes_of texts)) (map f (bytes_of texts))
made_all passes f texts i made end so_far =
    let all : list_all passes (bytes_of texts) ≡ true = so_far.left ∙ ap (λ l. list_all passes (bytes_of l)) (drop_all i texts end) in
    let whole : made ≡ map f (bytes_of texts) = so_far.made_is ∙ ap (λ l. map f (bytes_of l)) (take_all i texts end) in
    ap (λ (l : List _). Some l) whole ∙ sym (ap (λ b. some_if b (map f (bytes_of texts))) all)

-- at the end all texts have been made, if no test was asked
pub made_whole : {B : Type 0} (passes : Bytes → Bool) (f : Bytes → B) (texts : List (Bor Bytes)) (i : ℕ) (made : List B) → length texts ≤ i → Made passes f texts i made → made ≡ map f (bytes_of texts)
made_whole passes f texts i made end so_far = so_far.made_is ∙ ap (λ l. map f (bytes_of l)) (take_all i texts end)

-- one more text that is made of a text
pub text_more : (f : Bytes → Bytes) (texts : List (Bor Bytes)) (i : ℕ) (old new : List (Bor Bytes)) (t d : Bor Bytes) → i < length texts → new ≡ old ++ t ∷ [] → t.now ≡ f (get_or texts i d).now
    → Made (λ text. true) f texts i (bytes_of old) → Made (λ text. true) f texts (i + 1) (bytes_of new)
text_more f texts i old new t d inside more is so_far =
    made_more (λ text. true) f texts i (bytes_of old) (bytes_of new) d inside refl
    (ap bytes_of more ∙ map-append (λ b. b.now) old (t ∷ []) ∙ ap (λ x. bytes_of old ++ x ∷ []) is) so_far
