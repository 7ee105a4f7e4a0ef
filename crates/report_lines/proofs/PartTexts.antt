-- Texts of lists of parts.
use Rattle.std.proofs.Common.{◌≡◌, ℕ, suc, ◌+◌, ◌<◌, Bool, true, false, cond, List, [], ◌∷◌, ◌++◌, length, get_or, refl, ap, sym, subst, ◌∙◌, arith, map}
use Rattle.std.specs.Prelude.{if◌then◌else◌}
use Rattle.std.specs.List.{filter, flat_map}
use Rattle.std.proofs.lemmas.List.Concat.{flat_map-append}
use Rattle.ut_report.specs.Groups.{each_from}

-- what the elements give that are kept
pub flat_filter : {A B : Type 0} (h : A → List B) (p : A → Bool) (xs : List A) → flat_map h (filter p xs) ≡ flat_map (λ x. if p x then h x else []) xs
flat_filter h p [] = refl
flat_filter h p (x ∷ xs) = by (p x) (flat_filter h p xs)
  where
    by : (b : Bool) → flat_map h (filter p xs) ≡ flat_map (λ y. if p y then h y else []) xs
        → flat_map h (cond b (x ∷ filter p xs) (filter p xs)) ≡ (if b then h x else []) ++ flat_map (λ y. if p y then h y else []) xs
    by true e = ap (λ t. h x ++ t) e
    by false e = e

-- those that give nothing may be left out
pub flat_kept : {A B : Type 0} (h : A → List B) (p : A → Bool) → ((x : A) → p x ≡ false → h x ≡ []) → (xs : List A) → flat_map h (filter p xs) ≡ flat_map h xs
flat_kept h p none [] = refl
flat_kept h p none (x ∷ xs) = by (p x) refl (flat_kept h p none xs)
  where
    by : (b : Bool) → p x ≡ b → flat_map h (filter p xs) ≡ flat_map h xs → flat_map h (cond b (x ∷ filter p xs) (filter p xs)) ≡ h x ++ flat_map h xs
    by true s e = ap (λ t. h x ++ t) e
    by false s e = e ∙ ap (λ t. t ++ flat_map h xs) (sym (none x s))

pub both_append : {A : Type 0} (a b c d : List A) → a ≡ b → c ≡ d → a ++ c ≡ b ++ d
both_append a b c d e f = λ i. e i ++ f i

-- what a list of parts gives, and what its elements give one by one
module _ {B C : Type 0} (G : List C → List ℕ) (nothing : G [] ≡ []) (parts : (xs ys : List C) → G (xs ++ ys) ≡ G xs ++ G ys) (h : B → List ℕ) where
  pub each_text : {A : Type 0} (f : ℕ → A → List C) (g : ℕ → A → List B) (d : A) (n : ℕ) (xs : List A)
      → ((k : ℕ) → k < length xs → G (f (n + k) (get_or xs k d)) ≡ flat_map h (g (n + k) (get_or xs k d))) → G (each_from f n xs) ≡ flat_map h (each_from g n xs)
  each_text f g d n [] e = nothing
  each_text f g d n (a ∷ xs) e =
      let here : n + 0 ≡ n = omega arith in
      let first : G (f n a) ≡ flat_map h (g n a) = subst (λ m. G (f m a) ≡ flat_map h (g m a)) here (e 0 (omega arith)) in
      let rest : G (each_from f (suc n) xs) ≡ flat_map h (each_from g (suc n) xs) = each_text f g d (suc n) xs (λ k l. let next : n + suc k ≡ suc n + k = omega arith in
      subst (λ m. G (f m (get_or xs k d)) ≡ flat_map h (g m (get_or xs k d))) next (e (suc k) (omega (arith, l)))) in
      parts (f n a) (each_from f (suc n) xs) ∙ both_append (G (f n a)) (flat_map h (g n a)) (G (each_from f (suc n) xs)) (flat_map h (each_from g (suc n) xs)) first rest
      ∙ sym (flat_map-append h (g n a) (each_from g (suc n) xs))

  pub map_text : {A : Type 0} (f : A → List C) (g : A → B) → ((x : A) → G (f x) ≡ h (g x)) → (xs : List A) → G (flat_map f xs) ≡ flat_map h (map g xs)
  map_text f g e [] = nothing
  map_text f g e (x ∷ xs) = parts (f x) (flat_map f xs) ∙ both_append (G (f x)) (h (g x)) (G (flat_map f xs)) (flat_map h (map g xs)) (e x) (map_text f g e xs)
