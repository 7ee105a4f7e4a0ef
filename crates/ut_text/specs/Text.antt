-- Texts are equal where their bytes are, and ordered by their bytes. This project's rule.
use Rattle.std.specs.Prelude.{◌≡◌, Bool, true, false, [], ◌∷◌, ◌&&◌, nat_eq, refl}
use Rattle.std.specs.declared.cmp.Ordering.{Ordering}
use Rattle.std.specs.Ordering.{nat_cmp, eq_by_cmp, as_partial_cmp}
use Rattle.std.specs.Cmp.{IsEquivalence, IsTotalOrder, IsPartialOrder, partial_order_from_total}
use Rattle.std.specs.Cmp.Lexicographic.{slice_cmp, pointwise}
use Rattle.std.specs.Hash.{str}
use Rattle.std.proofs.Common.{ap, subst, sym}
use Rattle.std.proofs.lemmas.Bool.{false≢true, eqb-true}
use Rattle.std.proofs.lemmas.Cmp.{nat_list_eq_equiv, nat_list_cmp_total}
use Rattle.std.proofs.lemmas.Map.Text.{is_eq-slice_cmp}
use Rattle.ut_text.specs.Bytes.{Bytes}

-- the same bytes
abbrev pub text_eq : Bytes → Bytes → Bool
text_eq = pointwise nat_eq

-- the first differing byte decides, and a text comes before its extensions
abbrev pub text_cmp : Bytes → Bytes → Ordering
text_cmp = slice_cmp nat_cmp

pub text_equiv : IsEquivalence text_eq
text_equiv = nat_list_eq_equiv

pub text_total : IsTotalOrder text_cmp
text_total = nat_list_cmp_total

-- the order calls two texts equal exactly where they are
pub text_ties : (xs ys : Bytes) → text_eq xs ys ≡ eq_by_cmp text_cmp xs ys
text_ties xs ys = sym (is_eq-slice_cmp xs ys)

pub text_partial_order : IsPartialOrder text_eq (as_partial_cmp text_cmp)
text_partial_order = subst (λ E. IsPartialOrder E (as_partial_cmp text_cmp)) (λ i x y. sym (text_ties x y) i) (partial_order_from_total text_total)

-- texts that test equal are one
pub text_eq-exact : (xs ys : Bytes) → text_eq xs ys ≡ true → xs ≡ ys
text_eq-exact [] [] h = refl
text_eq-exact [] (y ∷ ys) h = absurd (false≢true h)
text_eq-exact (x ∷ xs) [] h = absurd (false≢true h)
text_eq-exact (x ∷ xs) (y ∷ ys) h = by (nat_eq x y) refl h (text_eq-exact xs ys)
  where
    by : (b : Bool) → nat_eq x y ≡ b → (b && text_eq xs ys) ≡ true → (text_eq xs ys ≡ true → xs ≡ ys) → x ∷ xs ≡ y ∷ ys
    by true e h f = rw (eqb-true x y e, f h) refl
    by false e h f = absurd (false≢true h)

-- so they feed a hash alike
pub alike : (xs ys : Bytes) → text_eq xs ys ≡ true → str xs ≡ str ys
alike xs ys h = ap str (text_eq-exact xs ys h)
