-- What the numbers of a clause's literals say under the values.
use Rattle.std.proofs.Common.{◌≡◌, ◌≢◌, ℕ, ◌+◌, ◌/◌, ◌<◌, ◌≤◌, List, [], ◌∷◌, map, length, get_or, take, inl, inr, refl, sym, ap, ◌∙◌, subst, arith}
use Rattle.std.specs.Prelude.{Contains, All}
use Rattle.std.proofs.lemmas.List.Elements.{All-contains, Contains-push_cases}
use Rattle.std.proofs.lemmas.List.{take_all, take_more}
use Rattle.ut_logic.specs.declared.literals.Lit.{Lit}
use Rattle.ut_logic.specs.Clauses.{IsWithin}
use Rattle.log_check.proofs.Resolvents.{contains_head, contains_tail, contains_cases, contains_nothing}
use Rattle.sat_log.specs.declared.marks.Mark.{Mark}
use Rattle.sat_log.specs.declared.values.Value.{Value}
use Rattle.sat_log.specs.declared.values.Value.TheVariants.{Unset, True, False}
use Rattle.sat_log.specs.Codes.{literal_of, truth_of, TellsLiteral}
use Rattle.sat_log.specs.Inner.{AreApart, AreValues}
use Rattle.sat_log.specs.Moves.{IsSet, IsFalse, IsUnset}
use Rattle.sat_log.proofs.Numbering.{truth_tells, same_code}
use Rattle.sat_log.proofs.Settled.{both_set}

pub code_in : (codes : List ℕ) (code : ℕ) → Contains codes code → Contains (map literal_of codes) (literal_of code)
code_in [] code i = absurd (contains_nothing code i)
code_in (x ∷ xs) code i = elim (contains_cases x xs code i) [
  | inl e ↦ subst (λ t. Contains (map literal_of (x ∷ xs)) (literal_of t)) e (contains_head (literal_of x) (map literal_of xs))
  | inr j ↦ contains_tail (literal_of x) (map literal_of xs) (literal_of code) (code_in xs code j)
]

pub code_for : (codes : List ℕ) (l : Lit) → Contains (map literal_of codes) l → (code : ℕ) × Contains codes code × (literal_of code ≡ l)
code_for [] l i = absurd (contains_nothing l i)
code_for (x ∷ xs) l i = elim (contains_cases (literal_of x) (map literal_of xs) l i) [
  | inl e ↦ (x, contains_head x xs, e)
  | inr j ↦ let p = code_for xs l j in (p.0, contains_tail x xs p.0 p.1, p.2)
]

-- what a value that isn't this one says
not_false_value : (ms : List Mark) (l : Lit) (v : Value) → AreApart ms → TellsLiteral ms l v → v ≢ False → ¬ IsFalse ms l
not_false_value ms l Unset a t n f = t.1 f
not_false_value ms l True a t n f = both_set ms l a t f
not_false_value ms l False a t n f = n refl

not_true_value : (ms : List Mark) (l : Lit) (v : Value) → AreApart ms → TellsLiteral ms l v → v ≢ True → ¬ IsSet ms l
not_true_value ms l Unset a t n s = t.0 s
not_true_value ms l True a t n s = n refl
not_true_value ms l False a t n s = both_set ms l a s t

module _ (ms : List Mark) (values : List Value) (told : AreValues (length values) ms values) (apart : AreApart ms) where
  tells : (code : ℕ) → (0 < (literal_of code).var) × ((literal_of code).var ≤ length values) → TellsLiteral ms (literal_of code) (truth_of values code)
  tells code w = truth_tells (length values) ms values code told w.0 w.1

  module _ (codes : List ℕ) (within : IsWithin (length values) (map literal_of codes)) where
    pub range_in : (code : ℕ) → Contains codes code → (0 < (literal_of code).var) × ((literal_of code).var ≤ length values)
    range_in code i = All-contains (λ (l : Lit). (0 < l.var) × (l.var ≤ length values)) (map literal_of codes) (literal_of code) within (code_in codes code i)

    pub rest_false : (other : ℕ) → ((code : ℕ) → Contains codes code → code ≢ other → truth_of values code ≡ False) → (l : Lit) → Contains (map literal_of codes) l → l ≢ literal_of other → IsFalse ms l
    rest_false other all l i n = by (code_for codes l i)
      where
        by : (code : ℕ) × Contains codes code × (literal_of code ≡ l) → IsFalse ms l
        by (code, j, e) =
            let v : truth_of values code ≡ False = all code j (λ f. n (sym e ∙ ap literal_of f)) in
            subst (IsFalse ms) e (subst (TellsLiteral ms (literal_of code)) v (tells code (range_in code j)))

    pub code_open : (code : ℕ) → Contains codes code → truth_of values code ≢ False → ¬ IsFalse ms (literal_of code)
    code_open code i n = not_false_value ms (literal_of code) (truth_of values code) apart (tells code (range_in code i)) n

  pub literal_true : (code : ℕ) → (0 < (literal_of code).var) × ((literal_of code).var ≤ length values) → truth_of values code ≡ True → IsSet ms (literal_of code)
  literal_true code w v = subst (TellsLiteral ms (literal_of code)) v (tells code w)

  pub literal_false : (code : ℕ) → (0 < (literal_of code).var) × ((literal_of code).var ≤ length values) → truth_of values code ≡ False → IsFalse ms (literal_of code)
  literal_false code w v = subst (TellsLiteral ms (literal_of code)) v (tells code w)

  pub literal_open : (code : ℕ) → (0 < (literal_of code).var) × ((literal_of code).var ≤ length values) → truth_of values code ≡ Unset → ¬ IsFalse ms (literal_of code)
  literal_open code w v = (subst (TellsLiteral ms (literal_of code)) v (tells code w)).1

  pub literal_not_true : (code : ℕ) → (0 < (literal_of code).var) × ((literal_of code).var ≤ length values) → truth_of values code ≢ True → ¬ IsSet ms (literal_of code)
  literal_not_true code w n = not_true_value ms (literal_of code) (truth_of values code) apart (tells code w) n

  -- a literal that is set is seen as true
  pub truth_from_set : (code : ℕ) → (0 < (literal_of code).var) × ((literal_of code).var ≤ length values) → IsSet ms (literal_of code) → truth_of values code ≡ True
  truth_from_set code w s = by (truth_of values code) (tells code w)
    where
      by : (v : Value) → TellsLiteral ms (literal_of code) v → v ≡ True
      by Unset t = absurd (t.0 s)
      by True t = refl
      by False t = absurd (both_set ms (literal_of code) apart s t)

-- the loop of a look: so far each number but one is false
abbrev pub AreFalseSoFar : List Value → List ℕ → ℕ → Type 0
AreFalseSoFar values codes other = (code : ℕ) → Contains codes code → code ≢ other → truth_of values code ≡ False

pub so_far_more : (values : List Value) (codes : List ℕ) (other i d : ℕ) → i < length codes → AreFalseSoFar values (take i codes) other → (get_or codes i d ≢ other → truth_of values (get_or codes i d) ≡ False) → AreFalseSoFar values (take (i + 1) codes) other
so_far_more values codes other i d h before here code j n = elim (Contains-push_cases (take i codes) (get_or codes i d) code (subst (λ t. Contains t code) (take_more codes i d h) j)) [
  | inl k ↦ before code k n
  | inr e ↦ subst (λ t. truth_of values t ≡ False) e (here (λ f. n (sym e ∙ f)))
]

pub so_far_all : (values : List Value) (codes : List ℕ) (other i : ℕ) → length codes ≤ i → AreFalseSoFar values (take i codes) other → AreFalseSoFar values codes other
so_far_all values codes other i h all = subst (λ t. AreFalseSoFar values t other) (take_all i codes h) all

pub false_value : (v : Value) → (¬ (v ≢ False)) → v ≡ False
false_value Unset n = absurd (n (λ e. cc))
false_value True n = absurd (n (λ e. cc))
false_value False n = refl

-- neither true nor false
pub unset_value : (v : Value) → v ≢ True → v ≢ False → v ≡ Unset
unset_value Unset a b = refl
unset_value True a b = absurd (a refl)
unset_value False a b = absurd (b refl)
