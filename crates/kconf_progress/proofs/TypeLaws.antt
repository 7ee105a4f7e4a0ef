-- No line before a choice gives it a type.
use Rattle.std.proofs.Common.{ℕ, ◌≡◌, refl, ◌<◌, ◌≤◌, ◌==◌, ◌&&◌, arith, Bool, true, false, List, [], ◌∷◌, ◌++◌, Option, Some, None}
use Rattle.std.specs.Prelude.{IfSome, All, map}
use Rattle.std.proofs.lemmas.Bool.{eqb-true}
use Rattle.std.proofs.lemmas.List.Elements.{All-nil, All-cons, All-append, All-head, All-tail}
use Rattle.ut_text.specs.Bytes.{Bytes}
use Rattle.kconf_entries.specs.declared.entries.Kind.{Kind}
use Rattle.kconf_entries.specs.declared.entries.Kind.TheVariants as kind
use Rattle.kconf_statements.specs.EntryLines.{first_type, Entry, At, Before}
use Rattle.kconf_statements.specs.Entries.{TypeLine, type_line, types_in, types_of, type_of, is_number, gives_type, given_type, may_be_member, is_logical, with_choice, choice_count, number_of_choice}
use Rattle.kconf_statements.proofs.FormedLaws.{number_below}

-- a type line stands in one of so many choices, or in none
abbrev pub IsBelow : ℕ → TypeLine → Type 0
IsBelow k t = IfSome t.choice (λ n. n < k)

raised : (o : Option ℕ) (m k : ℕ) → m ≤ k → IfSome o (λ n. n < m) → IfSome o (λ n. n < k)
raised None m k le h = tt
raised (Some n) m k le h = omega (arith, le, h)

pub counts_on : (e : Entry) (n : ℕ) → n ≤ with_choice e n
counts_on Entry.MainMenu n = omega arith
counts_on Entry.Comment n = omega arith
counts_on (Entry.Menu m) n = omega arith
counts_on (Entry.Config c) n = omega arith
counts_on (Entry.Choice c) n = omega arith
counts_on (Entry.If x) n = omega arith
counts_on (Entry.End what) n = omega arith
counts_on (Entry.Source file) n = omega arith
counts_on Entry.Sourced n = omega arith

lines_below : (k : ℕ) (name : Bytes) (number : Option ℕ) (ks : List Kind) → IfSome number (λ n. n < k) → All (IsBelow k) (map (type_line name number) ks)
lines_below k name number [] h = All-nil (IsBelow k)
lines_below k name number (x ∷ ks) h = All-cons (IsBelow k) _ _ h (lines_below k name number ks h)

in_below : (before : Before) (e : Entry) (k : ℕ) → choice_count before ≤ k → All (IsBelow k) (types_in before e)
in_below before Entry.MainMenu k le = All-nil (IsBelow k)
in_below before Entry.Comment k le = All-nil (IsBelow k)
in_below before (Entry.Menu m) k le = All-nil (IsBelow k)
in_below before (Entry.Config c) k le = lines_below k c.name (number_of_choice before) c.types (raised (number_of_choice before) (choice_count before) k le (number_below before))
in_below before (Entry.Choice c) k le = All-nil (IsBelow k)
in_below before (Entry.If x) k le = All-nil (IsBelow k)
in_below before (Entry.End what) k le = All-nil (IsBelow k)
in_below before (Entry.Source file) k le = All-nil (IsBelow k)
in_below before Entry.Sourced k le = All-nil (IsBelow k)

pub types_below : (before : Before) (k : ℕ) → choice_count before ≤ k → All (IsBelow k) (types_of before)
types_below [] k le = All-nil (IsBelow k)
types_below (At line e ∷ before) k le =
    let more = counts_on e (choice_count before) in
    let low : choice_count before ≤ k = omega (arith, more, le) in
    All-append (IsBelow k) (types_of before) (types_in before e) (types_below before k low) (in_below before e k low)

-- such a line gives choice n no type
not_given : (n : ℕ) (earlier : List TypeLine) (t : TypeLine) → IsBelow n t → gives_type n earlier t ≡ false
not_given n earlier t h = by t.choice h
  where
    at : (m : ℕ) → m < n → (b : Bool) → (n == m) ≡ b → (n == m) ≡ false
    at m lt true e = let z = eqb-true n m e in let w : ⊥ = omega (arith, z, lt) in absurd w
    at m lt false e = e

    by : (o : Option ℕ) → IfSome o (λ m. m < n) → (is_number n o && (is_logical t.kind && may_be_member (type_of earlier t.name))) ≡ false
    by None g = refl
    by (Some m) g = rw (at m g (n == m) refl) refl

pub given_none : (n : ℕ) (earlier ts : List TypeLine) → All (IsBelow n) ts → given_type n earlier ts ≡ kind.Untyped
given_none n earlier [] h = refl
given_none n earlier (t ∷ ts) h =
    rw (not_given n earlier t (All-head (IsBelow n) t ts h)) (given_none n (earlier ++ t ∷ []) ts (All-tail (IsBelow n) t ts h))

pub first_of_none : (k : Kind) → first_type k kind.Untyped ≡ k
first_of_none kind.Bool = refl
first_of_none kind.Tristate = refl
first_of_none kind.Str = refl
first_of_none kind.Hex = refl
first_of_none kind.Int = refl
first_of_none kind.Untyped = refl
