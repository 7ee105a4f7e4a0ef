-- Laws of every grammar of lines, and of its readers.
use Rattle.std.proofs.Common.{◌≡◌, ℕ, zero, suc, ◌+◌, ◌-◌, ◌<◌, List, [], ◌∷◌, refl, sym, ap, subst, arith}
use Rattle.line_texts.specs.Grammar.{Says, IsFirstOutside, IsOutsideLine}

-- a line leads from a state to one state at most, and a state says one thing at most
pub record IsExact {X S A : Type 0} (Takes : S → X → List X → S → Type 0) (Ends : S → A → Type 0) : Type 0 where
  pub leads : (s : S) (x : X) (xs : List X) (m k : S) → Takes s x xs m → Takes s x xs k → m ≡ k
  pub says : (s : S) (a b : A) → Ends s a → Ends s b → a ≡ b

-- lines say one thing at most
pub says_once : {X S A : Type 0} (Takes : S → X → List X → S → Type 0) (Ends : S → A → Type 0) → IsExact Takes Ends → (s : S) (xs : List X) (a b : A) → Says Takes Ends s xs a → Says Takes Ends s xs b → a ≡ b
says_once Takes Ends e s [] a b h k = e.says s a b h k
says_once Takes Ends e s (x ∷ xs) a b (m, t, h) (n, u, k) =
    says_once Takes Ends e m xs a b h (subst (λ z. Says Takes Ends z xs b) (sym (e.leads s x xs m n t u)) k)

-- lines that say something have no first line outside
pub never_both : {X S A : Type 0} (Takes : S → X → List X → S → Type 0) (Ends : S → A → Type 0) → IsExact Takes Ends → (s : S) (xs : List X) (a : A) (n : ℕ) → Says Takes Ends s xs a → IsFirstOutside Takes Ends s xs n → ⊥
never_both Takes Ends e s [] a zero h o = o a h
never_both Takes Ends e s [] a (suc n) h o = o
never_both Takes Ends e s (x ∷ xs) a zero (m, t, h) o = o m t
never_both Takes Ends e s (x ∷ xs) a (suc n) (m, t, h) (k, u, o) =
    never_both Takes Ends e m xs a n h (subst (λ z. IsFirstOutside Takes Ends z xs n) (sym (e.leads s x xs m k t u)) o)

-- lines have one first line outside at most
pub outside_once : {X S A : Type 0} (Takes : S → X → List X → S → Type 0) (Ends : S → A → Type 0) → IsExact Takes Ends → (s : S) (xs : List X) (n k : ℕ) → IsFirstOutside Takes Ends s xs n → IsFirstOutside Takes Ends s xs k → n ≡ k
outside_once Takes Ends e s [] zero zero h o = refl
outside_once Takes Ends e s [] zero (suc k) h o = absurd o
outside_once Takes Ends e s [] (suc n) k h o = absurd h
outside_once Takes Ends e s (x ∷ xs) zero zero h o = refl
outside_once Takes Ends e s (x ∷ xs) zero (suc k) h (m, t, o) = absurd (h m t)
outside_once Takes Ends e s (x ∷ xs) (suc n) zero (m, t, h) o = absurd (o m t)
outside_once Takes Ends e s (x ∷ xs) (suc n) (suc k) (m, t, h) (i, u, o) =
    ap suc (outside_once Takes Ends e m xs n k h (subst (λ z. IsFirstOutside Takes Ends z xs k) (sym (e.leads s x xs m i t u)) o))

-- What a reader keeps in its loop: it began with the whole from a first state, is now in state s, before the line with
-- this number, and what the rest says from there, or where it is outside, the whole does.
pub record Continues {X S A : Type 0} (Takes : S → X → List X → S → Type 0) (Ends : S → A → Type 0) (first : S) (whole : List X) (s : S) (rest : List X) (number : ℕ) : Type 0 where
  pub says : (a : A) → Says Takes Ends s rest a → Says Takes Ends first whole a
  pub outside : (n : ℕ) → IsFirstOutside Takes Ends s rest n → IsFirstOutside Takes Ends first whole (number - 1 + n)
  pub counted : 0 < number

-- before the first line
pub continues_first : {X S A : Type 0} (Takes : S → X → List X → S → Type 0) (Ends : S → A → Type 0) (first : S) (whole : List X) → Continues Takes Ends first whole first whole 1
continues_first Takes Ends first whole = record {
  says = λ a h. h;
  outside = λ n h. subst (IsFirstOutside Takes Ends first whole) (omega arith) h;
  counted = omega arith;
}

-- a line was taken
pub continues_after : {X S A : Type 0} {Takes : S → X → List X → S → Type 0} {Ends : S → A → Type 0} {first : S} {whole : List X} {s : S} {rest : List X} {number : ℕ} → Continues Takes Ends first whole s rest number → (x : X) (xs : List X) (next : S) → rest ≡ x ∷ xs → Takes s x xs next → Continues Takes Ends first whole next xs (number + 1)
continues_after {Takes = Takes} {Ends = Ends} {first = first} {whole = whole} {s = s} {number = number} c x xs next e t = record {
  says = λ a h. c.says a (subst (λ ls. Says Takes Ends s ls a) (sym e) (next, t, h));
  outside = λ n h.
      let place : number - 1 + suc n ≡ number + 1 - 1 + n = omega (arith, c.counted) in
      subst (IsFirstOutside Takes Ends first whole) place (c.outside (suc n) (subst (λ ls. IsFirstOutside Takes Ends s ls (suc n)) (sym e) (next, t, h)));
  counted = omega arith;
}

-- the next line may not stand here
pub outside_here : {X S A : Type 0} {Takes : S → X → List X → S → Type 0} {Ends : S → A → Type 0} {first : S} {whole : List X} {s : S} {rest : List X} {number : ℕ} → Continues Takes Ends first whole s rest number → (x : X) (xs : List X) → rest ≡ x ∷ xs → ((next : S) → ¬ Takes s x xs next) → IsOutsideLine Takes Ends first whole number
outside_here {Takes = Takes} {Ends = Ends} {first = first} {whole = whole} {s = s} {number = number} c x xs e none = (
  c.counted,
  subst (IsFirstOutside Takes Ends first whole) (omega arith) (c.outside zero (subst (λ ls. IsFirstOutside Takes Ends s ls zero) (sym e) none)),
)

-- no line is left, and the text may not end here
pub outside_at_end : {X S A : Type 0} {Takes : S → X → List X → S → Type 0} {Ends : S → A → Type 0} {first : S} {whole : List X} {s : S} {rest : List X} {number : ℕ} → Continues Takes Ends first whole s rest number → rest ≡ [] → ((a : A) → ¬ Ends s a) → IsOutsideLine Takes Ends first whole number
outside_at_end {Takes = Takes} {Ends = Ends} {first = first} {whole = whole} {s = s} {number = number} c e none = (
  c.counted,
  subst (IsFirstOutside Takes Ends first whole) (omega arith) (c.outside zero (subst (λ ls. IsFirstOutside Takes Ends s ls zero) (sym e) none)),
)

-- no line is left, and the text may end here
pub says_at_end : {X S A : Type 0} {Takes : S → X → List X → S → Type 0} {Ends : S → A → Type 0} {first : S} {whole : List X} {s : S} {rest : List X} {number : ℕ} → Continues Takes Ends first whole s rest number → (a : A) → rest ≡ [] → Ends s a → Says Takes Ends first whole a
says_at_end {Takes = Takes} {Ends = Ends} {s = s} c a e h = c.says a (subst (λ ls. Says Takes Ends s ls a) (sym e) h)
