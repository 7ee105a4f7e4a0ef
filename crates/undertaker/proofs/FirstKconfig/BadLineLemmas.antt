-- The line that is named: an induction on the lines, from any number and place.
use Rattle.std.proofs.Common.{◌≡◌, ℕ, suc, ◌+◌, ◌-◌, ◌≤◌, ◌<◌, ◌⊎◌, inl, inr, ◌∷◌, ◌++◌, List, [], Bool, true, false, length, take, codes, refl, ap, sym, ◌∙◌, arith}
use Rattle.std.specs.Prelude.{Option, None, Some, Result, Ok, Err}
use Rattle.std.specs.List.{list_all}
use Rattle.kconf_entries.specs.declared.entries.ConfigEntry.{ConfigEntry}
use Rattle.kconf_entries.specs.declared.entries.Entries.{Entries}
use Rattle.undertaker.specs.declared.first_kconfig.form.Place.{Place}
use Rattle.undertaker.specs.declared.first_kconfig.form.Place.TheVariants.{Start, Heading, Entry}
use Rattle.undertaker.specs.declared.first_kconfig.lines.FirstLine.{FirstLine}
use Rattle.undertaker.specs.declared.first_kconfig.lines.FirstLine.TheVariants.{Config, Prompt, Depends}
use Rattle.ut_text.specs.Lines.{lines_of}
use Rattle.kconf_entries.specs.BoolEntries.{bool_entry}
use Rattle.undertaker.specs.FirstKconfig.Form.{Reading, start, first_line, step, at_end, is_earlier, read_lines, first_tree_of}
use Rattle.ut_text.specs.Results.{◌>>=◌}
use Rattle.undertaker.specs.FirstKconfig.BadLine.{EndsInConfig, IsNamed}

Reads : ℕ → Reading → List (List ℕ) → Type 0
Reads n r ls = (es : List ConfigEntry) × (read_lines n r ls ≡ Ok es)

-- some lines after these make them a text of the form
GoesOn : ℕ → Reading → List (List ℕ) → Type 0
GoesOn n r ls = (more : List (List ℕ)) × Reads n r (ls ++ more)

at_start : (n : ℕ) (r : Reading) → GoesOn n r []
unfolding GoesOn Reads
at_start n r = by r.place refl
  where
    by : (p : Place) → r.place ≡ p → GoesOn n r []
    by Start e = ([], ([], rw e refl))
    by (Heading name) e = ((9 ∷ codes "bool \"\"") ∷ [], (bool_entry name [] ∷ [], rw e refl))
    by (Entry name needs) e = ([], (bool_entry name needs ∷ [], rw e refl))

-- what a line leaves
Steps : Reading → List ℕ → Reading × List ConfigEntry → Type 0
Steps r l x = step r.declared r.place (first_line l) ≡ Some x

then_read : (n : ℕ) (r : Reading) (l : List ℕ) (ls : List (List ℕ)) (x : Reading × List ConfigEntry) → Steps r l x
    → read_lines n r (l ∷ ls) ≡ (read_lines (n + 1) x.0 ls >>= λ es. Ok (x.1 ++ es))
unfolding Steps
then_read n r l ls x h = rw h refl

not_read : (n : ℕ) (r : Reading) (l : List ℕ) (ls : List (List ℕ)) → step r.declared r.place (first_line l) ≡ None → read_lines n r (l ∷ ls) ≡ Err n
not_read n r l ls h = rw h refl

reads_less : (n : ℕ) (r : Reading) (l : List ℕ) (ls : List (List ℕ)) (x : Reading × List ConfigEntry) → Steps r l x → Reads n r (l ∷ ls) → Reads (n + 1) x.0 ls
unfolding Reads
reads_less n r l ls x h is = by (read_lines (n + 1) x.0 ls) refl (sym (then_read n r l ls x h) ∙ is.1)
  where
    by : (read : Result (List ConfigEntry) ℕ) → read_lines (n + 1) x.0 ls ≡ read → (read >>= λ es. Ok (x.1 ++ es)) ≡ Ok is.0 → Reads (n + 1) x.0 ls
    by (Ok es) p q = (es, p)
    by (Err e) p q = cc

goes_more : (n : ℕ) (r : Reading) (l : List ℕ) (ls : List (List ℕ)) (x : Reading × List ConfigEntry) → Steps r l x → GoesOn (n + 1) x.0 ls → GoesOn n r (l ∷ ls)
unfolding GoesOn Reads
goes_more n r l ls x h g = (g.0, (x.1 ++ g.1.0, then_read n r l (ls ++ g.0) x h ∙ rw g.1.1 refl))

goes_less : (n : ℕ) (r : Reading) (l : List ℕ) (ls : List (List ℕ)) (x : Reading × List ConfigEntry) → Steps r l x → GoesOn n r (l ∷ ls) → GoesOn (n + 1) x.0 ls
unfolding GoesOn
goes_less n r l ls x h g = (g.0, reads_less n r l (ls ++ g.0) x h g.1)

goes_none : (n : ℕ) (r : Reading) (l : List ℕ) → step r.declared r.place (first_line l) ≡ None → GoesOn n r (l ∷ []) → ⊥
unfolding GoesOn Reads
goes_none n r l h g = let k = not_read n r l g.0 h in cc (k, g.1.1)

-- the lines stop at the one with this place
record Stops (n : ℕ) (r : Reading) (ls : List (List ℕ)) (k : ℕ) : Type 0 where
  place : ℕ
  is : k ≡ n + place
  within : place < length ls
  before : GoesOn n r (take place ls)
  behind : GoesOn n r (take (suc place) ls) → ⊥

-- there is no line, and the place is after a `config` line
record IsBehind (r : Reading) (ls : List (List ℕ)) : Type 0 where
  none : ls ≡ []
  name : List ℕ
  place : r.place ≡ Heading name

-- the lines end after a `config` line
record Ends (n : ℕ) (r : Reading) (ls : List (List ℕ)) (k : ℕ) : Type 0 where
  goes_on : GoesOn n r ls
  last : k + 1 ≡ n + length ls
  config : EndsInConfig ls ⊎ IsBehind r ls

not_heading : (x y : Reading × List ConfigEntry) (own name : List ℕ) (needs : List (List ℕ)) → Some y ≡ Some x → y.0.place ≡ Entry own needs → x.0.place ≡ Heading name → ⊥
not_heading x y own name needs h p e =
    let is : y ≡ x = cc in
    let q : y.0.place ≡ x.0.place = ap (λ (z : Reading × List ConfigEntry). z.0.place) is in
    cc

-- a place after a `config` line comes from such a line
from_config : (declared : List (List ℕ)) (p : Place) (l : FirstLine) (x : Reading × List ConfigEntry) (name : List ℕ)
    → step declared p l ≡ Some x → x.0.place ≡ Heading name → (new : List ℕ) × (l ≡ Config new)
from_config declared p (Config new) x name h e = (new, refl)
from_config declared (Heading own) Prompt x name h e = absurd (not_heading x (record { declared = declared; place = Entry own [] }, []) own name [] h refl e)
from_config declared (Entry own needs) (Depends names) x name h e = by (list_all (is_earlier declared own) names) refl
  where
    by : (b : Bool) → list_all (is_earlier declared own) names ≡ b → (new : List ℕ) × (Depends names ≡ Config new)
    by true q = let k = rw q at h in absurd (not_heading x (record { declared = declared; place = Entry own (needs ++ names) }, []) own name (needs ++ names) k refl e)
    by false q = let k = rw q at h in cc
from_config declared p l x name h e = cc

ends_later : (n : ℕ) (r : Reading) (l : List ℕ) (ls : List (List ℕ)) (k : ℕ) (x : Reading × List ConfigEntry) → Steps r l x → Ends (n + 1) x.0 ls k → Ends n r (l ∷ ls) k
unfolding Steps
ends_later n r l ls k x h s = record {
  goes_on = goes_more n r l ls x h s.goes_on;
  last = omega (arith, s.last);
  config = by s.config;
}
  where
    by : EndsInConfig ls ⊎ IsBehind x.0 ls → EndsInConfig (l ∷ ls) ⊎ IsBehind r (l ∷ ls)
    by (inl c) = inl (record { front = l ∷ c.front; line = c.line; name = c.name; last = ap (λ (xs : List (List ℕ)). l ∷ xs) c.last; is = c.is })
    by (inr b) =
        let c = from_config r.declared r.place (first_line l) x b.name h b.place in
        inl (record { front = []; line = l; name = c.0; last = ap (λ (xs : List (List ℕ)). l ∷ xs) b.none; is = c.1 })

stops_later : (n : ℕ) (r : Reading) (l : List ℕ) (ls : List (List ℕ)) (k : ℕ) (x : Reading × List ConfigEntry) → Steps r l x → Stops (n + 1) x.0 ls k → Stops n r (l ∷ ls) k
stops_later n r l ls k x h s = record {
  place = suc s.place;
  is = omega (arith, s.is);
  within = omega (arith, s.within);
  before = goes_more n r l (take s.place ls) x h s.before;
  behind = λ g. s.behind (goes_less n r l (take (suc s.place) ls) x h g);
}

later : (front : List ConfigEntry) (read : Result (List ConfigEntry) ℕ) (k : ℕ) → (read >>= λ es. Ok (front ++ es)) ≡ Err k → read ≡ Err k
later front (Ok es) k h = cc
later front (Err f) k h = h

named : (n : ℕ) (r : Reading) (ls : List (List ℕ)) (k : ℕ) → 1 ≤ n → read_lines n r ls ≡ Err k → Stops n r ls k ⊎ Ends n r ls k
unfolding Steps
named n r [] k one h = by r.place refl h
  where
    by : (p : Place) → r.place ≡ p → at_end n p ≡ Err k → Stops n r [] k ⊎ Ends n r [] k
    by Start e q = cc
    by (Heading name) e q =
        let is : n - 1 ≡ k = cc in
        inr (record { goes_on = at_start n r; last = omega (arith, is, one); config = inr (record { none = refl; name = name; place = e }) })
    by (Entry name needs) e q = cc
named n r (l ∷ ls) k one h = by (step r.declared r.place (first_line l)) refl (λ x. named (n + 1) x.0 ls k (omega arith))
  where
    by : (s : Option (Reading × List ConfigEntry)) → step r.declared r.place (first_line l) ≡ s
        → ((x : Reading × List ConfigEntry) → read_lines (n + 1) x.0 ls ≡ Err k → Stops (n + 1) x.0 ls k ⊎ Ends (n + 1) x.0 ls k)
        → Stops n r (l ∷ ls) k ⊎ Ends n r (l ∷ ls) k
    by None p f =
        let stopped = not_read n r l ls p in
        let is : k ≡ n = cc (stopped, h) in
        inl (record { place = 0; is = omega (arith, is); within = omega arith; before = at_start n r; behind = goes_none n r l p })
    by (Some x) p f = elim (f x (later x.1 (read_lines (n + 1) x.0 ls) k (sym (then_read n r l ls x p) ∙ h))) [
      | inl s ↦ inl (stops_later n r l ls k x p s)
      | inr s ↦ inr (ends_later n r l ls k x p s)
    ]

in_config : (ls : List (List ℕ)) → EndsInConfig ls ⊎ IsBehind start ls → EndsInConfig ls
in_config ls (inl c) = c
in_config ls (inr b) = let e = b.place in cc

whole : (bytes : List ℕ) (n : ℕ) → first_tree_of bytes ≡ Err n → read_lines 1 start (lines_of bytes) ≡ Err n
whole bytes n h = by (read_lines 1 start (lines_of bytes)) h
  where
    tree_of : List ConfigEntry → Result Entries ℕ
    tree_of es = Ok (record { configs = es; choices = [] })

    by : (read : Result (List ConfigEntry) ℕ) → (read >>= tree_of) ≡ Err n → read ≡ Err n
    by (Ok es) q = cc
    by (Err e) q = cc

pub is_named : (bytes : List ℕ) (n : ℕ) → first_tree_of bytes ≡ Err n → IsNamed (lines_of bytes) n
unfolding Reads GoesOn
is_named bytes n h = elim (named 1 start (lines_of bytes) n (omega arith) (whole bytes n h)) [
  | inl s ↦ inl (record {
    counted = omega (arith, s.is);
    within = omega (arith, s.is, s.within);
    before = let e : n - 1 ≡ s.place = omega (arith, s.is) in rw e s.before;
    wrong = let e : n ≡ suc s.place = omega (arith, s.is) in rw e s.behind;
  })
  | inr s ↦ inr (record { goes_on = s.goes_on; last = omega (arith, s.last); config = in_config (lines_of bytes) s.config })
]
