-- Literals and their numbers.
use Rattle.std.proofs.Common.{◌≡◌, ℕ, zero, suc, ◌+◌, ◌-◌, ◌*◌, ◌/◌, ◌%◌, eqb, ◌<◌, ◌≤◌, Bool, true, false, not, List, get_or, refl, sym, ap, ap₂, ◌∙◌, subst, arith}
use Rattle.std.proofs.lemmas.Bool.{false≢true}
use Rattle.std.proofs.lemmas.Nat.{div-mul-add, mod-mul-add, div-add-mod', mod_below}
use Rattle.ut_logic.specs.declared.literals.Lit.{Lit}
use Rattle.ut_logic.specs.Clauses.{literal, negated}
use Rattle.sat_log.specs.declared.marks.Mark.{Mark}
use Rattle.sat_log.specs.declared.values.Value.{Value}
use Rattle.sat_log.specs.declared.values.Value.TheVariants.{Unset, True, False}
use Rattle.sat_log.specs.Codes.{code_of, literal_of, truth_of, value_under, TellsLiteral}
use Rattle.sat_log.specs.Inner.{Tells, AreValues}
use Rattle.sat_log.proofs.Reading.{value_tells}

code_parts : (c q r : ℕ) → r < 2 → c ≡ q * 2 + r → (c / 2 ≡ q) × (c % 2 ≡ r)
code_parts c q r h e = (ap (λ t. t / 2) e ∙ div-mul-add q 2 r h, ap (λ t. t % 2) e ∙ mod-mul-add q 2 r h)

literal_parts : (c q r : ℕ) → r < 2 → c ≡ q * 2 + r → literal_of c ≡ literal q (eqb r 1)
literal_parts c q r h e = let p = code_parts c q r h e in ap₂ literal p.0 (ap (λ t. eqb t 1) p.1)

-- the number of a literal is its own
number_literal : (x : ℕ) (s : Bool) → literal_of (code_of (literal x s)) ≡ literal x s
number_literal x true = literal_parts (x * 2 + 1) x 1 (omega arith) refl
number_literal x false = literal_parts (x * 2) x 0 (omega arith) (omega arith)

pub literal_of-code_of : (l : Lit) → literal_of (code_of l) ≡ l
literal_of-code_of l = number_literal l.var l.positive

pub code_high : (l : Lit) → code_of l ≤ l.var * 2 + 1
code_high l = by l.positive
  where
    by : (s : Bool) → code_of (literal l.var s) ≤ l.var * 2 + 1
    by true = let k : l.var * 2 + 1 ≤ l.var * 2 + 1 = omega arith in k
    by false = let k : l.var * 2 ≤ l.var * 2 + 1 = omega arith in k

same_rest : (i j : ℕ) → i < 2 → j < 2 → eqb i 1 ≡ eqb j 1 → i ≡ j
same_rest zero zero h k e = refl
same_rest zero (suc zero) h k e = absurd (false≢true e)
same_rest zero (suc (suc j)) h k e = absurd (omega arith)
same_rest (suc zero) zero h k e = absurd (false≢true (sym e))
same_rest (suc zero) (suc zero) h k e = refl
same_rest (suc zero) (suc (suc j)) h k e = absurd (omega arith)
same_rest (suc (suc i)) j h k e = absurd (omega arith)

-- literals with different numbers differ
pub same_code : (a b : ℕ) → literal_of a ≡ literal_of b → a ≡ b
same_code a b e =
    let q : a / 2 ≡ b / 2 = ap (λ (l : Lit). l.var) e in
    let s : eqb (a % 2) 1 ≡ eqb (b % 2) 1 = ap (λ (l : Lit). l.positive) e in
    let r : a % 2 ≡ b % 2 = same_rest (a % 2) (b % 2) (mod_below a 2 (omega arith)) (mod_below b 2 (omega arith)) s in
    sym (div-add-mod' a 2) ∙ ap₂ (λ i j. i * 2 + j) q r ∙ div-add-mod' b 2

-- what a value says of a literal

tells_under : (ms : List Mark) (x : ℕ) (s : Bool) (v : Value) → Tells ms x v → TellsLiteral ms (literal x s) (value_under s v)
tells_under ms x s Unset t = ((λ i. t (s, i)), (λ i. t (not s, i)))
tells_under ms x true True t = t
tells_under ms x false True t = t
tells_under ms x true False t = t
tells_under ms x false False t = t

pub truth_tells : (n : ℕ) (ms : List Mark) (values : List Value) (code : ℕ) → AreValues n ms values → 0 < code / 2 → code / 2 ≤ n → TellsLiteral ms (literal_of code) (truth_of values code)
truth_tells n ms values code told low high =
    tells_under ms (code / 2) (eqb (code % 2) 1) (get_or values (code / 2 - 1) Unset) (value_tells n ms values (code / 2) Unset told low high)
