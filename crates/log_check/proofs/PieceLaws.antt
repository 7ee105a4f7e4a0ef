-- The pieces of a step: what stands at a place is one thing at most.
use Rattle.std.proofs.Common.{◌≡◌, ◌≢◌, ℕ, ◌^◌, ◌<◌, Bool, true, false, List, [], ◌∷◌, ◌++◌, length, cond, refl, sym, ap, ◌∙◌, subst, arith, append_assoc}
use Rattle.std.specs.Prelude.{codes, decimal}
use Rattle.std.specs.Str.{all_ascii_digits}
use Rattle.std.specs.Char.{is_ascii_digit}
use Rattle.std.proofs.lemmas.Bool.{false≢true, and_parts}
use Rattle.std.proofs.lemmas.List.{append_cancel_left}
use Rattle.std.proofs.lemmas.Fmt.{digits_decimal, decimal_nonempty}
use Rattle.ut_logic.specs.declared.literals.Lit.{Lit}
use Rattle.ut_logic.specs.Clauses.{literal}
use Rattle.log_check.specs.declared.derivations.PivotOf.{PivotOf}
use Rattle.log_check.specs.DerivationText.{literal_text, pair_text}
use Rattle.log_check.specs.Reading.{IsSignThen, IsLiteralThen, IsPairThen, IsHeadThen}
use Rattle.ut_text.specs.Decimals.{IsNumberThen}
use Rattle.ut_text.proofs.DecimalLaws.{own, number_once}

digits_not_minus : (ds rest more : List ℕ) → all_ascii_digits ds ≡ true → 0 < length ds → ds ++ rest ≡ 45 ∷ more → ⊥
digits_not_minus [] rest more p some e = omega arith
digits_not_minus (c ∷ cs) rest more p some e =
    let digit = and_parts (is_ascii_digit c) (all_ascii_digits cs) p in
    let minus : c ≡ 45 = cc in
    false≢true (subst (λ k. is_ascii_digit k ≡ true) minus digit.0)

-- a number has no sign
number_not_minus : (n : ℕ) (rest more : List ℕ) → n < 2 ^ 64 → decimal n ++ rest ≡ 45 ∷ more → ⊥
number_not_minus n rest more small e = digits_not_minus (decimal n) rest more (digits_decimal own n small) (decimal_nonempty n small) e

literal_plus : (l : Lit) (rest : List ℕ) → l.positive ≡ true → literal_text l ++ rest ≡ decimal l.var ++ (32 ∷ rest)
literal_plus l rest e =
    ap (λ b. (cond b [] (45 ∷ []) ++ decimal l.var ++ (32 ∷ [])) ++ rest) e ∙ append_assoc (decimal l.var) (32 ∷ []) rest

literal_minus : (l : Lit) (rest : List ℕ) → l.positive ≡ false → literal_text l ++ rest ≡ 45 ∷ (decimal l.var ++ (32 ∷ rest))
literal_minus l rest e =
    ap (λ b. (cond b [] (45 ∷ []) ++ decimal l.var ++ (32 ∷ [])) ++ rest) e ∙ ap (λ t. 45 ∷ t) (append_assoc (decimal l.var) (32 ∷ []) rest)

-- the sign of a literal that stands here
pub sign_of : (bytes : List ℕ) (l : Lit) (rest : List ℕ) → IsLiteralThen bytes l rest → IsSignThen bytes l.positive (decimal l.var ++ (32 ∷ rest))
sign_of bytes l rest h = by l.positive refl
  where
    by : (b : Bool) → l.positive ≡ b → IsSignThen bytes b (decimal l.var ++ (32 ∷ rest))
    by true e = (h.text ∙ literal_plus l rest e, λ more m. number_not_minus l.var (32 ∷ rest) more h.variable.1 m)
    by false e = h.text ∙ literal_minus l rest e

-- what stands here has one sign
sign_once : (bytes : List ℕ) (p q : Bool) (rest more : List ℕ) → IsSignThen bytes p rest → IsSignThen bytes q more → (p ≡ q) × (rest ≡ more)
sign_once bytes true true rest more h k = (refl, sym h.0 ∙ k.0)
sign_once bytes true false rest more h k = absurd (h.1 more (sym h.0 ∙ k))
sign_once bytes false true rest more h k = absurd (k.1 rest (sym k.0 ∙ h))
sign_once bytes false false rest more h k = (refl, let e = sym h ∙ k in cc)

-- after the sign of a literal comes its variable
pub sign_splits : (bytes : List ℕ) (l : Lit) (p : Bool) (rest more : List ℕ) → IsLiteralThen bytes l rest → IsSignThen bytes p more → (p ≡ l.positive) × IsNumberThen more l.var (32 ∷ rest)
sign_splits bytes l p rest more h s =
    let once = sign_once bytes p l.positive more (decimal l.var ++ (32 ∷ rest)) s (sign_of bytes l rest h) in
    (once.0, record { fits = h.variable.1; text = once.1; ends = refl })

-- a sign, a variable and a blank are a literal
pub literal_made : (bytes : List ℕ) (p : Bool) (n : ℕ) (more later rest : List ℕ) → IsSignThen bytes p more → IsNumberThen more n later → 0 < n → later ≡ 32 ∷ rest → IsLiteralThen bytes (literal n p) rest
literal_made bytes true n more later rest s h some e = record {
  variable = (some, h.fits);
  text = s.0 ∙ h.text ∙ ap (λ t. decimal n ++ t) e ∙ sym (literal_plus (literal n true) rest refl);
}
literal_made bytes false n more later rest s h some e = record {
  variable = (some, h.fits);
  text = s ∙ ap (λ t. 45 ∷ t) (h.text ∙ ap (λ t. decimal n ++ t) e) ∙ sym (literal_minus (literal n false) rest refl);
}

literal_from : (l m : Lit) → l.positive ≡ m.positive → l.var ≡ m.var → l ≡ m
literal_from l m e f = rw (e, f) refl

-- one literal stands here at most
pub literal_once : (bytes : List ℕ) (l m : Lit) (rest more : List ℕ) → IsLiteralThen bytes l rest → IsLiteralThen bytes m more → (l ≡ m) × (rest ≡ more)
literal_once bytes l m rest more h k =
    let parts = sign_splits bytes m l.positive more (decimal l.var ++ (32 ∷ rest)) k (sign_of bytes l rest h) in
    let mine : IsNumberThen (decimal l.var ++ (32 ∷ rest)) l.var (32 ∷ rest) = record { fits = h.variable.1; text = refl; ends = refl } in
    let numbers = number_once _ l.var m.var (32 ∷ rest) (32 ∷ more) mine parts.1 in
    (literal_from l m parts.0 numbers.0, append_cancel_left (32 ∷ []) rest more numbers.1)

pub pair_is : (p : PivotOf) (rest : List ℕ) → pair_text p ++ rest ≡ 32 ∷ (decimal p.pivot ++ (32 ∷ (decimal p.clause ++ rest)))
pair_is p rest =
    append_assoc ((32 ∷ decimal p.pivot) ++ (32 ∷ [])) (decimal p.clause) rest
    ∙ append_assoc (32 ∷ decimal p.pivot) (32 ∷ []) (decimal p.clause ++ rest)

-- a blank and the pivot begin a pair
pub pair_splits : (bytes : List ℕ) (p : PivotOf) (rest more : List ℕ) → IsPairThen bytes p rest → bytes ≡ 32 ∷ more → IsNumberThen more p.pivot (32 ∷ (decimal p.clause ++ rest))
pair_splits bytes p rest more h e = record {
  fits = h.fits.0;
  text = append_cancel_left (32 ∷ []) more (decimal p.pivot ++ (32 ∷ (decimal p.clause ++ rest))) (sym e ∙ h.text ∙ pair_is p rest);
  ends = refl;
}

-- a pair begins with a blank
pub pair_begins : (bytes : List ℕ) (p : PivotOf) (rest : List ℕ) → IsPairThen bytes p rest → bytes ≡ 32 ∷ (decimal p.pivot ++ (32 ∷ (decimal p.clause ++ rest)))
pair_begins bytes p rest h = h.text ∙ pair_is p rest

-- the clause's number ends a pair
pub pair_ends : (bytes : List ℕ) (p : PivotOf) (rest more : List ℕ) → IsPairThen bytes p rest → more ≡ decimal p.clause ++ rest → IsNumberThen more p.clause rest
pair_ends bytes p rest more h e = record { fits = h.fits.1; text = e; ends = h.ends }

-- two blanks and two numbers are a pair
pub pair_made : (bytes a b c rest : List ℕ) (m n : ℕ) → bytes ≡ 32 ∷ a → IsNumberThen a m b → b ≡ 32 ∷ c → IsNumberThen c n rest → IsPairThen bytes (record { pivot = m; clause = n }) rest
pair_made bytes a b c rest m n e f g h = record {
  fits = (f.fits, h.fits);
  text = e ∙ ap (λ t. 32 ∷ t) (f.text ∙ ap (λ t. decimal m ++ t) (g ∙ ap (λ t. 32 ∷ t) h.text)) ∙ sym (pair_is (record { pivot = m; clause = n }) rest);
  ends = h.ends;
}

pair_from : (p q : PivotOf) → p.pivot ≡ q.pivot → p.clause ≡ q.clause → p ≡ q
pair_from p q e f = rw (e, f) refl

-- one pair stands here at most
pub pair_once : (bytes : List ℕ) (p q : PivotOf) (rest more : List ℕ) → IsPairThen bytes p rest → IsPairThen bytes q more → (p ≡ q) × (rest ≡ more)
pair_once bytes p q rest more h k =
    let left : bytes ≡ 32 ∷ (decimal p.pivot ++ (32 ∷ (decimal p.clause ++ rest))) = pair_begins bytes p rest h in
    let pivots = number_once _ p.pivot q.pivot _ _ (pair_splits bytes p rest _ h left) (pair_splits bytes q more _ k left) in
    let later : decimal p.clause ++ rest ≡ decimal q.clause ++ more = append_cancel_left (32 ∷ []) _ _ pivots.1 in
    let clauses = number_once (decimal p.clause ++ rest) p.clause q.clause rest more (pair_ends bytes p rest _ h refl) (pair_ends bytes q more _ k later) in
    (pair_from p q pivots.0 clauses.0, clauses.1)

-- the word before a step's number begins its head
pub head_splits : (bytes : List ℕ) (n : ℕ) (rest more : List ℕ) → IsHeadThen bytes n rest → bytes ≡ codes " step " ++ more → IsNumberThen more n (codes ": " ++ rest)
head_splits bytes n rest more h e = record {
  fits = h.fits;
  text = append_cancel_left (codes " step ") more _ (sym e ∙ h.text);
  ends = refl;
}

-- one head stands here at most
pub head_once : (bytes : List ℕ) (n m : ℕ) (rest more : List ℕ) → IsHeadThen bytes n rest → IsHeadThen bytes m more → (n ≡ m) × (rest ≡ more)
head_once bytes n m rest more h k =
    let numbers = number_once _ n m _ _ (head_splits bytes n rest _ h h.text) (head_splits bytes m more _ k h.text) in
    (numbers.0, append_cancel_left (codes ": ") rest more numbers.1)

-- no head stands where the word after the number doesn't
pub head_no_word : (bytes more later : List ℕ) (n : ℕ) → bytes ≡ codes " step " ++ more → IsNumberThen more n later → ((rest : List ℕ) → later ≢ codes ": " ++ rest) → (m : ℕ) (rest : List ℕ) → IsHeadThen bytes m rest → ⊥
head_no_word bytes more later n e found other m rest h = other rest (number_once more n m later _ found (head_splits bytes m rest more h e)).1

-- no literal stands where no number comes after the sign
pub literal_no_number : (bytes more : List ℕ) (p : Bool) → IsSignThen bytes p more → ((n : ℕ) (rest : List ℕ) → ¬ IsNumberThen more n rest) → (l : Lit) (rest : List ℕ) → ¬ IsLiteralThen bytes l rest
literal_no_number bytes more p s none l rest h = none l.var (32 ∷ rest) (sign_splits bytes l p rest more h s).1

-- no literal stands where the variable is 0
pub literal_no_zero : (bytes more later : List ℕ) (p : Bool) (n : ℕ) → IsSignThen bytes p more → IsNumberThen more n later → n ≡ 0 → (l : Lit) (rest : List ℕ) → ¬ IsLiteralThen bytes l rest
literal_no_zero bytes more later p n s found z l rest h =
    let same = (number_once more n l.var later _ found (sign_splits bytes l p rest more h s).1).0 in
    let some = h.variable.0 in
    omega arith

-- no literal stands where no blank comes after the variable
pub literal_no_blank : (bytes more later : List ℕ) (p : Bool) (n : ℕ) → IsSignThen bytes p more → IsNumberThen more n later → ((rest : List ℕ) → later ≢ 32 ∷ rest) → (l : Lit) (rest : List ℕ) → ¬ IsLiteralThen bytes l rest
literal_no_blank bytes more later p n s found other l rest h =
    other rest (number_once more n l.var later _ found (sign_splits bytes l p rest more h s).1).1

-- no pair stands where no blank comes after the pivot
pub pair_no_blank : (bytes more later : List ℕ) (n : ℕ) → bytes ≡ 32 ∷ more → IsNumberThen more n later → ((rest : List ℕ) → later ≢ 32 ∷ rest) → (p : PivotOf) (rest : List ℕ) → ¬ IsPairThen bytes p rest
pair_no_blank bytes more later n e found other p rest h =
    other (decimal p.clause ++ rest) (number_once more n p.pivot later _ found (pair_splits bytes p rest more h e)).1

-- no pair stands where no number comes after the second blank
pub pair_no_clause : (bytes more later last : List ℕ) (n : ℕ) → bytes ≡ 32 ∷ more → IsNumberThen more n later → later ≡ 32 ∷ last → ((m : ℕ) (rest : List ℕ) → ¬ IsNumberThen last m rest) → (p : PivotOf) (rest : List ℕ) → ¬ IsPairThen bytes p rest
pair_no_clause bytes more later last n e found f none p rest h =
    let same = (number_once more n p.pivot later _ found (pair_splits bytes p rest more h e)).1 in
    none p.clause rest (pair_ends bytes p rest last h (append_cancel_left (32 ∷ []) last _ (sym f ∙ same)))
