-- The line that is named: an induction on the lines, from any number and any open chains.
use Rattle.std.proofs.Common.{◌≡◌, ℕ, suc, ◌+◌, ◌-◌, ◌<◌, ◌⊎◌, inl, inr, ◌∷◌, ◌++◌, List, [], Bool, true, false, length, take, codes, refl, ap, sym, ◌∙◌, arith}
use Rattle.std.specs.Prelude.{Result, Ok, Err}
use Rattle.cpp_directives.specs.declared.directive.What.TheVariants.{Endif}
use Rattle.cpp_directives.specs.declared.directive.Directive.{Directive}
use Rattle.undertaker.specs.declared.first_source.lines.FirstLine.{FirstLine}
use Rattle.undertaker.specs.declared.first_source.lines.FirstLine.TheVariants.{Opens, Closes, Plain, Other}
use Rattle.ut_text.specs.Lines.{lines_of}
use Rattle.undertaker.specs.FirstSource.Form.{Chains, no_chains, first_line, is_full, opened, closed, step, at_end, read_lines, first_directives_of}
use Rattle.undertaker.specs.FirstSource.BadLine.{chains_behind, IsNamed}
use Rattle.ut_text.specs.Results.{◌>>=◌}

Reads : ℕ → Chains → List (List ℕ) → Type 0
Reads n c ls = (ds : List Directive) × (read_lines n c ls ≡ Ok ds)

-- lines that close all open chains
closers : List ℕ → List (List ℕ)
closers [] = []
closers (o ∷ os) = codes "#endif" ∷ closers os

prefixed : (front : List Directive) (read : Result (List Directive) ℕ) → ((ds : List Directive) × (read ≡ Ok ds))
    → (ds : List Directive) × ((read >>= λ ds. Ok (front ++ ds)) ≡ Ok ds)
prefixed front read h = (front ++ h.0, rw h.1 refl)

can_close : (n blocks : ℕ) (os : List ℕ) → Reads n (record { openers = os; blocks = blocks }) (closers os)
unfolding Reads closers
can_close n blocks [] = ([], refl)
can_close n blocks (o ∷ os) = prefixed (record { line = n; what = Endif } ∷ []) (read_lines (n + 1) (record { openers = os; blocks = blocks }) (closers os)) (can_close (n + 1) blocks os)

-- some lines after these make them a text of the form
GoesOn : ℕ → Chains → List (List ℕ) → Type 0
GoesOn n c ls = (more : List (List ℕ)) × Reads n c (ls ++ more)

at_start : (n : ℕ) (c : Chains) → GoesOn n c []
unfolding GoesOn
at_start n c = (closers c.openers, can_close n c.blocks c.openers)

-- where a line stops the reading, it is named
step_names : (n : ℕ) (l : FirstLine) (c : Chains) (e : ℕ) → step n l c ≡ Err e → n ≡ e
step_names n (Opens cond) c e h = by (is_full c) refl h
  where
    by : (b : Bool) → is_full c ≡ b → opened n cond c ≡ Err e → n ≡ e
    by true p h = let q = rw p at h in cc
    by false p h = let q = rw p at h in cc
step_names n Closes c e h = by c.openers h
  where
    by : (os : List ℕ) → closed n c.blocks os ≡ Err e → n ≡ e
    by [] h = cc
    by (o ∷ os) h = cc
step_names n Plain c e h = cc
step_names n Other c e h = cc

-- the reading of lines after one that is read
then_read : (n : ℕ) (c : Chains) (l : List ℕ) (ls : List (List ℕ)) (x : Chains × List Directive) → step n (first_line l) c ≡ Ok x
    → read_lines n c (l ∷ ls) ≡ (read_lines (n + 1) x.0 ls >>= λ ds. Ok (x.1 ++ ds))
then_read n c l ls x h = rw h refl

reads_more : (n : ℕ) (c : Chains) (l : List ℕ) (ls : List (List ℕ)) (x : Chains × List Directive) → step n (first_line l) c ≡ Ok x
    → Reads (n + 1) x.0 ls → Reads n c (l ∷ ls)
unfolding Reads
reads_more n c l ls x h r = (x.1 ++ r.0, then_read n c l ls x h ∙ rw r.1 refl)

reads_less : (n : ℕ) (c : Chains) (l : List ℕ) (ls : List (List ℕ)) (x : Chains × List Directive) → step n (first_line l) c ≡ Ok x
    → Reads n c (l ∷ ls) → Reads (n + 1) x.0 ls
unfolding Reads
reads_less n c l ls x h r = by (read_lines (n + 1) x.0 ls) refl (sym (then_read n c l ls x h) ∙ r.1)
  where
    by : (read : Result (List Directive) ℕ) → read_lines (n + 1) x.0 ls ≡ read → (read >>= λ ds. Ok (x.1 ++ ds)) ≡ Ok r.0 → Reads (n + 1) x.0 ls
    by (Ok ds) p q = (ds, p)
    by (Err e) p q = cc

-- a line that stops the reading stops it whatever stands after
reads_none : (n : ℕ) (c : Chains) (l : List ℕ) (ls : List (List ℕ)) (e : ℕ) → step n (first_line l) c ≡ Err e → Reads n c (l ∷ ls) → ⊥
unfolding Reads
reads_none n c l ls e h r = let k : read_lines n c (l ∷ ls) ≡ Err e = rw h refl in cc (k, r.1)

-- the lines stop at the one with place i
record Stops (n : ℕ) (c : Chains) (ls : List (List ℕ)) (k : ℕ) : Type 0 where
  place : ℕ
  is : k ≡ n + place
  within : place < length ls
  before : GoesOn n c (take place ls)
  behind : GoesOn n c (take (suc place) ls) → ⊥

-- the lines leave a chain open, the innermost one opened by line k
record Leaves (n : ℕ) (c : Chains) (ls : List (List ℕ)) (k : ℕ) : Type 0 where
  goes_on : GoesOn n c ls
  chains : Chains
  open_ones : chains_behind n c ls ≡ Ok chains
  others : List ℕ
  innermost : chains.openers ≡ k ∷ others

goes_more : (n : ℕ) (c : Chains) (l : List ℕ) (ls : List (List ℕ)) (x : Chains × List Directive) → step n (first_line l) c ≡ Ok x
    → GoesOn (n + 1) x.0 ls → GoesOn n c (l ∷ ls)
unfolding GoesOn
goes_more n c l ls x h g = (g.0, reads_more n c l (ls ++ g.0) x h g.1)

goes_less : (n : ℕ) (c : Chains) (l : List ℕ) (ls : List (List ℕ)) (x : Chains × List Directive) → step n (first_line l) c ≡ Ok x
    → GoesOn n c (l ∷ ls) → GoesOn (n + 1) x.0 ls
unfolding GoesOn
goes_less n c l ls x h g = (g.0, reads_less n c l (ls ++ g.0) x h g.1)

goes_none : (n : ℕ) (c : Chains) (l : List ℕ) (e : ℕ) → step n (first_line l) c ≡ Err e → GoesOn n c (l ∷ []) → ⊥
unfolding GoesOn
goes_none n c l e h g = reads_none n c l g.0 e h g.1

stops_later : (n : ℕ) (c : Chains) (l : List ℕ) (ls : List (List ℕ)) (k : ℕ) (x : Chains × List Directive) → step n (first_line l) c ≡ Ok x
    → Stops (n + 1) x.0 ls k → Stops n c (l ∷ ls) k
stops_later n c l ls k x h s = record {
  place = suc s.place;
  is = omega (arith, s.is);
  within = omega (arith, s.within);
  before = goes_more n c l (take s.place ls) x h s.before;
  behind = λ g. s.behind (goes_less n c l (take (suc s.place) ls) x h g);
}

leaves_later : (n : ℕ) (c : Chains) (l : List ℕ) (ls : List (List ℕ)) (k : ℕ) (x : Chains × List Directive) → step n (first_line l) c ≡ Ok x
    → Leaves (n + 1) x.0 ls k → Leaves n c (l ∷ ls) k
leaves_later n c l ls k x h s = record {
  goes_on = goes_more n c l ls x h s.goes_on;
  chains = s.chains;
  open_ones = rw h s.open_ones;
  others = s.others;
  innermost = s.innermost;
}

later : (front : List Directive) (read : Result (List Directive) ℕ) (e : ℕ) → (read >>= λ ds. Ok (front ++ ds)) ≡ Err e → read ≡ Err e
later front (Ok ds) e h = cc
later front (Err f) e h = h

named : (n : ℕ) (c : Chains) (ls : List (List ℕ)) (k : ℕ) → read_lines n c ls ≡ Err k → Stops n c ls k ⊎ Leaves n c ls k
named n c [] k h = by c.openers refl h
  where
    by : (os : List ℕ) → c.openers ≡ os → at_end os ≡ Err k → Stops n c [] k ⊎ Leaves n c [] k
    by [] p q = cc
    by (o ∷ os) p q =
        let is : o ≡ k = cc in
        inr (record { goes_on = at_start n c; chains = c; open_ones = refl; others = os; innermost = p ∙ ap (λ m. m ∷ os) is })
named n c (l ∷ ls) k h = by (step n (first_line l) c) refl (λ x. named (n + 1) x.0 ls k)
  where
    by : (s : Result (Chains × List Directive) ℕ) → step n (first_line l) c ≡ s
        → ((x : Chains × List Directive) → read_lines (n + 1) x.0 ls ≡ Err k → Stops (n + 1) x.0 ls k ⊎ Leaves (n + 1) x.0 ls k)
        → Stops n c (l ∷ ls) k ⊎ Leaves n c (l ∷ ls) k
    by (Err e) p f =
        let first : n ≡ e = step_names n (first_line l) c e p in
        let stopped : read_lines n c (l ∷ ls) ≡ Err e = rw p refl in
        let is : k ≡ n = cc (first, stopped, h) in
        inl (record { place = 0; is = omega (arith, is); within = omega arith; before = at_start n c; behind = goes_none n c l e p })
    by (Ok x) p f = elim (f x (later x.1 (read_lines (n + 1) x.0 ls) k (sym (then_read n c l ls x p) ∙ h))) [
      | inl s ↦ inl (stops_later n c l ls k x p s)
      | inr s ↦ inr (leaves_later n c l ls k x p s)
    ]

pub is_named : (bytes : List ℕ) (n : ℕ) → first_directives_of bytes ≡ Err n → IsNamed (lines_of bytes) n
unfolding Reads GoesOn
is_named bytes n h = elim (named 1 no_chains (lines_of bytes) n h) [
  | inl s ↦ inl (record {
    counted = omega (arith, s.is);
    within = omega (arith, s.is, s.within);
    before = let e : n - 1 ≡ s.place = omega (arith, s.is) in rw e s.before;
    wrong = let e : n ≡ suc s.place = omega (arith, s.is) in rw e s.behind;
  })
  | inr s ↦ inr (record { goes_on = s.goes_on; chains = s.chains; open_ones = s.open_ones; others = s.others; innermost = s.innermost })
]
