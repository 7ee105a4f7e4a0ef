-- Texts of lists, one element after another: what is read of one is a front of it.
use Rattle.std.proofs.Common.{◌≡◌, ◌≢◌, ℕ, ◌+◌, ◌<◌, List, [], ◌∷◌, ◌++◌, length, get_or, take, refl, sym, ap, ◌∙◌, subst, arith, append_assoc}
use Rattle.std.specs.Prelude.{All, Contains}
use Rattle.std.specs.List.{flat_map}
use Rattle.std.proofs.lemmas.List.{append-nil, take_more}
use Rattle.std.proofs.lemmas.List.Concat.{flat_map-append}
use Rattle.std.proofs.lemmas.List.Elements.{All-head, All-tail, All-contains, Contains-append_right}
use Rattle.ut_text.specs.Bytes.{Bytes}

-- elements of kind V have texts f that can be told apart, and told from the end of the list. Q is what may follow
-- an element, and End what may follow the list.
pub record AreApart {A : Type 0} (f : A → Bytes) (V : A → Type 0) (Q End : Bytes → Type 0) : Type 0 where
  pub once : (x y : A) (s t : Bytes) → V x → V y → Q s → Q t → f x ++ s ≡ f y ++ t → (x ≡ y) × (s ≡ t)
  pub ended : (x : A) (s t : Bytes) → V x → End t → f x ++ s ≢ t
  pub begins : (x : A) (s : Bytes) → Q (f x ++ s)
  pub ends : (t : Bytes) → End t → Q t

-- the first element's text comes first
first_text : {A : Type 0} (f : A → Bytes) (x : A) (xs : List A) (s : Bytes) → flat_map f (x ∷ xs) ++ s ≡ f x ++ (flat_map f xs ++ s)
first_text f x xs s = append_assoc (f x) (flat_map f xs) s

-- a list may follow an element
pub follows : {A : Type 0} (f : A → Bytes) (V : A → Type 0) (Q End : Bytes → Type 0) → AreApart f V Q End → (xs : List A) (s : Bytes) → Q s → Q (flat_map f xs ++ s)
follows f V Q End a [] s q = q
follows f V Q End a (x ∷ xs) s q = subst Q (sym (first_text f x xs s)) (a.begins x (flat_map f xs ++ s))

-- what was read of a list's text is a front of the list
pub front_of_list : {A : Type 0} (f : A → Bytes) (V : A → Type 0) (Q End : Bytes → Type 0) → AreApart f V Q End → (xs ys : List A) (s t : Bytes) → All V xs → All V ys → Q s → End t → flat_map f xs ++ s ≡ flat_map f ys ++ t → (more : List A) × (ys ≡ xs ++ more) × (s ≡ flat_map f more ++ t)
front_of_list f V Q End a [] ys s t v w q n e = (ys, refl, e)
front_of_list f V Q End a (x ∷ xs) [] s t v w q n e = absurd (a.ended x (flat_map f xs ++ s) t (All-head V x xs v) n (sym (first_text f x xs s) ∙ e))
front_of_list f V Q End a (x ∷ xs) (y ∷ ys) s t v w q n e =
    let same = a.once x y (flat_map f xs ++ s) (flat_map f ys ++ t) (All-head V x xs v) (All-head V y ys w)
    (follows f V Q End a xs s q) (follows f V Q End a ys t (a.ends t n))
    (sym (first_text f x xs s) ∙ e ∙ first_text f y ys t) in
    let rest = front_of_list f V Q End a xs ys s t (All-tail V x xs v) (All-tail V y ys w) q n same.1 in
    (rest.0, ap (λ k. k ∷ ys) (sym same.0) ∙ ap (λ l. x ∷ l) rest.1, rest.2)

-- the element after a front of a list is one of the list
next_is : {A : Type 0} (V : A → Type 0) (xs ys more : List A) (x : A) → All V ys → ys ≡ xs ++ x ∷ more → V x
next_is V xs ys more x w g =
    All-contains V ys x w (subst (λ l. Contains l x) (sym g) (Contains-append_right xs (x ∷ more) x (0, omega arith, refl)))

-- one list stands here at most
pub list_once : {A : Type 0} (f : A → Bytes) (V : A → Type 0) (Q End : Bytes → Type 0) → AreApart f V Q End → (xs ys : List A) (s t : Bytes) → All V xs → All V ys → End s → End t → flat_map f xs ++ s ≡ flat_map f ys ++ t → (xs ≡ ys) × (s ≡ t)
list_once {A} f V Q End a xs ys s t v w m n e = by rest.0 rest.1 rest.2
  where
    rest : (more : List A) × (ys ≡ xs ++ more) × (s ≡ flat_map f more ++ t)
    rest = front_of_list f V Q End a xs ys s t v w (a.ends s m) n e

    by : (more : List A) → ys ≡ xs ++ more → s ≡ flat_map f more ++ t → (xs ≡ ys) × (s ≡ t)
    by [] g h = (sym (g ∙ append-nil xs), h)
    by (x ∷ more) g h = absurd (a.ended x (flat_map f more ++ t) s (next_is V xs ys more x w g) m (sym (first_text f x more t) ∙ sym h))

-- no list stands where, after some elements, neither another one nor the end does
pub no_list : {A : Type 0} (f : A → Bytes) (V : A → Type 0) (Q End : Bytes → Type 0) → AreApart f V Q End → (start : Bytes) (xs : List A) (here : Bytes) → start ≡ flat_map f xs ++ here → All V xs → Q here → ¬ End here → ((x : A) (rest : Bytes) → V x → Q rest → here ≢ f x ++ rest) → (ys : List A) (t : Bytes) → All V ys → End t → start ≢ flat_map f ys ++ t
no_list {A} f V Q End a start xs here e v q other none ys t w n g = by rest.0 rest.1 rest.2
  where
    rest : (more : List A) × (ys ≡ xs ++ more) × (here ≡ flat_map f more ++ t)
    rest = front_of_list f V Q End a xs ys here t v w q n (sym e ∙ g)

    by : (more : List A) → ys ≡ xs ++ more → here ≡ flat_map f more ++ t → ⊥
    by [] g h = other (subst End (sym h) n)
    by (x ∷ more) g h = none x (flat_map f more ++ t) (next_is V xs ys more x w g) (follows f V Q End a more t (a.ends t n)) (h ∙ first_text f x more t)

-- one element more is read
pub text_more : {A : Type 0} (f : A → Bytes) (start : Bytes) (xs : List A) (x : A) (here next : Bytes) → start ≡ flat_map f xs ++ here → here ≡ f x ++ next → start ≡ flat_map f (xs ++ x ∷ []) ++ next
text_more f start xs x here next e g =
    let more : flat_map f (xs ++ x ∷ []) ≡ flat_map f xs ++ f x = flat_map-append f xs (x ∷ []) ∙ ap (λ t. flat_map f xs ++ t) (append-nil (f x)) in
    e ∙ ap (λ t. flat_map f xs ++ t) g ∙ sym (append_assoc (flat_map f xs) (f x) next) ∙ ap (λ t. t ++ next) (sym more)

-- one element more is written
pub element_written : {A : Type 0} (f : A → Bytes) (start old new : Bytes) (xs : List A) (i : ℕ) (d : A) → i < length xs → old ≡ start ++ flat_map f (take i xs) → new ≡ old ++ f (get_or xs i d) → new ≡ start ++ flat_map f (take (i + 1) xs)
element_written f start old new xs i d h e g =
    let more : flat_map f (take (i + 1) xs) ≡ flat_map f (take i xs) ++ f (get_or xs i d) =
    ap (flat_map f) (take_more xs i d h) ∙ flat_map-append f (take i xs) (get_or xs i d ∷ []) ∙ ap (λ t. flat_map f (take i xs) ++ t) (append-nil (f (get_or xs i d))) in
    g ∙ ap (λ t. t ++ f (get_or xs i d)) e ∙ append_assoc start (flat_map f (take i xs)) (f (get_or xs i d)) ∙ ap (λ t. start ++ t) (sym more)
