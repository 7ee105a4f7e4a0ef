-- Words read one after another at the start of a text.
use Rattle.std.proofs.Common.{◌≡◌, ◌≢◌, ℕ, ◌==◌, ◌&&◌, eq-eqb, Bool, true, false, Option, None, Some, List, [], ◌∷◌, ◌++◌, length, refl, ap, sym, ◌∙◌, append_assoc, arith, MatchOption, Bor}
use Rattle.std.proofs.lemmas.Bool.Decides.{nat_tests}
use Rattle.std.proofs.lemmas.List.{append-nil}
use Rattle.ut_text.specs.Text.{text_eq, text_eq-exact, text_equiv}

-- no text begins so
abbrev pub Missing : List ℕ → List ℕ → Type 0
Missing s p = (rest : List ℕ) → s ≢ p ++ rest

append_cancel : (p r s : List ℕ) → p ++ r ≡ p ++ s → r ≡ s
append_cancel [] r s h = h
append_cancel (x ∷ p) r s h = append_cancel p r s (cc)

pub missing_front : (s p q : List ℕ) → Missing s p → Missing s (p ++ q)
missing_front s p q m = λ rest e. m (q ++ rest) (e ∙ append_assoc p q rest)

pub missing_after : (s p q r : List ℕ) → s ≡ p ++ r → Missing r q → Missing s (p ++ q)
missing_after s p q r h m = λ rest e. m rest (append_cancel p r (q ++ rest) (sym h ∙ (e ∙ append_assoc p q rest)))

pub found_after : (s p q r x : List ℕ) → s ≡ p ++ r → r ≡ q ++ x → s ≡ p ++ q ++ x
found_after s p q r x h g = h ∙ (ap (λ ys. p ++ ys) g ∙ sym (append_assoc p q x))

pub match_after : (s p q x : List ℕ) (r : Option (Bor (List ℕ))) → s ≡ p ++ x → MatchOption r (Missing x q) (λ y. x ≡ q ++ y.now) → MatchOption r (Missing s (p ++ q)) (λ y. s ≡ p ++ q ++ y.now)
match_after s p q x None h m = missing_after s p q x h m
match_after s p q x (Some y) h m = found_after s p q x y.now h m

pub match_none : (s p : List ℕ) (r : Option (Bor (List ℕ))) → r ≡ None → Missing s p → MatchOption r (Missing s p) (λ y. s ≡ p ++ y.now)
match_none s p None e m = m
match_none s p (Some y) e m = absurd (cc)

-- ---- a whole text

pub not_text : (w s : List ℕ) → Missing s w → false ≡ text_eq w s
not_text w s m = by (text_eq w s) refl
  where
    by : (b : Bool) → text_eq w s ≡ b → false ≡ b
    by false e = refl
    by true e = absurd (m [] (sym (text_eq-exact w s e) ∙ sym (append-nil w)))

longer : (w r : List ℕ) (x : ℕ) → text_eq w (w ++ x ∷ r) ≡ false
longer [] r x = refl
longer (y ∷ w) r x = ap (λ b. b && text_eq w (w ++ x ∷ r)) (eq-eqb y y refl) ∙ longer w r x

pub is_whole : (w s r : List ℕ) → s ≡ w ++ r → (length r == 0) ≡ text_eq w s
is_whole w s [] h = sym (ap (text_eq w) (h ∙ append-nil w) ∙ text_equiv.refl w)
is_whole w s (x ∷ r) h = some ∙ sym (ap (text_eq w) h ∙ longer w r x)
  where
    some : (length (x ∷ r) == 0) ≡ false
    some = grind (arith, nat_tests)
