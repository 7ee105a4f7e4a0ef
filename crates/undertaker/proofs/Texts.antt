-- Facts on texts and their places.
use Rattle.std.proofs.Common.{◌≡◌, ℕ, zero, suc, Bool, true, false, cond, refl, ap, sym, subst, ◌∙◌, List, [], ◌∷◌, ◌++◌, length, take, drop, Option, None, Some, nat_eq, codes, ◌-◌}
use Rattle.std.proofs.lemmas.Cmp.{nat_list_eq_equiv}
use Rattle.std.specs.List.{starts_with, ends_with}
use Rattle.std.specs.Option.{option_map, MatchOption}
use Rattle.std.specs.Str.Pattern.{FindsTextSuffix, StripsSuffix}
use Rattle.ut_text.specs.Text.{text_eq, text_eq-exact}
use Rattle.undertaker.specs.On.{config_name}

-- a text is itself
pub same_text : (x : List ℕ) → text_eq x x ≡ true
same_text x = nat_list_eq_equiv.refl x

-- a text is its front and what stands after it
pub front_behind : (x p : List ℕ) → starts_with nat_eq x p ≡ true → p ++ drop (length p) x ≡ x
front_behind x p h = ap (λ q. q ++ drop (length p) x) (text_eq-exact p (take (length p) x) h) ∙ whole x (length p)
  where
    whole : (xs : List ℕ) (n : ℕ) → take n xs ++ drop n xs ≡ xs
    whole [] zero = refl
    whole [] (suc n) = refl
    whole (x ∷ xs) zero = refl
    whole (x ∷ xs) (suc n) = ap (λ ys. x ∷ ys) (whole xs n)

-- a macro `CONFIG_N` is its front and N
pub config_behind : (macro name : List ℕ) → config_name macro ≡ Some name → codes "CONFIG_" ++ name ≡ macro
config_behind macro name h = by (starts_with nat_eq macro (codes "CONFIG_")) refl h
  where
    by : (b : Bool) → starts_with nat_eq macro (codes "CONFIG_") ≡ b → cond b (Some (drop 7 macro)) None ≡ Some name → codes "CONFIG_" ++ name ≡ macro
    by true e g = let same : drop 7 macro ≡ name = cc in ap (λ n. codes "CONFIG_" ++ n) (sym same) ∙ front_behind macro (codes "CONFIG_") e
    by false e g = absurd (cc)

whole_text : (xs : List ℕ) (n : ℕ) → take n xs ++ drop n xs ≡ xs
whole_text [] zero = refl
whole_text [] (suc n) = refl
whole_text (x ∷ xs) zero = refl
whole_text (x ∷ xs) (suc n) = ap (λ ys. x ∷ ys) (whole_text xs n)

same_back : (xs ys zs : List ℕ) → xs ++ ys ≡ xs ++ zs → ys ≡ zs
same_back [] ys zs h = h
same_back (x ∷ xs) ys zs h = same_back xs ys zs (tail x (xs ++ ys) (xs ++ zs) h)
  where
    tail : (x : ℕ) (us vs : List ℕ) → ◌≡◌ {A = List ℕ} (x ∷ us) (x ∷ vs) → us ≡ vs
    tail x us vs g = cc

-- the text before an end, if the text ends so
pub front_of_end : {B : Type 0} (view : B → List ℕ) (end s : List ℕ) (r : Option B)
    → MatchOption r (FindsTextSuffix end s None) (λ x. StripsSuffix (FindsTextSuffix end) s (view x))
    → option_map view r ≡ cond (ends_with nat_eq s end) (Some (take (length s - length end) s)) None
front_of_end view end s None h = by (ends_with nat_eq s end) refl
  where
    by : (b : Bool) → ends_with nat_eq s end ≡ b → None ≡ cond b (Some (take (length s - length end) s)) None
    by true e = absurd (h (take (length s - length end) s) (sym (whole_text s (length s - length end)) ∙ ap (λ back. take (length s - length end) s ++ back) (sym (text_eq-exact end (drop (length s - length end) s) e))))
    by false e = refl
front_of_end view end s (Some x) h = rw (ends) (ap Some (h.2 ∙ ap (λ k. take (length s - k) s) h.1.0))
  where
    back : drop (length s - length end) s ≡ end
    back = same_back (take (length s - length end) s) (drop (length s - length end) s) end
        (whole_text s (length s - length end) ∙ subst (λ k. s ≡ take (length s - k) s ++ end) h.1.0 h.1.1)

    ends : ends_with nat_eq s end ≡ true
    ends = ap (text_eq end) back ∙ same_text end
