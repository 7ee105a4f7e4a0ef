-- Laws of splices: what a step at the front of a text leaves.
use Rattle.std.proofs.Common.{◌≡◌, ℕ, ◌+◌, ◌<◌, ◌≤◌, Bool, true, false, ◌==◌, ◌&&◌, ◌||◌, List, [], ◌∷◌, length, drop, get_or, refl, ap, sym, ◌∙◌, arith, add-one}
use Rattle.std.proofs.Math.Seq.{drop-cons}
use Rattle.std.proofs.lemmas.Bool.{false≢true, eqb-true}
use Rattle.std.proofs.lemmas.List.{drop-drop, length-drop}
use Rattle.ut_text.specs.Bytes.{Bytes}
use Rattle.cpp_read.specs.declared.cursor.PlacedByte.{PlacedByte}
use Rattle.ut_text.specs.Lines.{begins_newline}
use Rattle.ut_text.specs.LineEnds.{ends_line}
use Rattle.cpp_read.specs.Splices.{spliced_bytes, line_after, placed, returnless, spliced}
use Rattle.cpp_read.specs.Cursors.{begins_return, begins_join, begins_return_join, begins_splice, Stands, Passes}

pub at_front : (bytes : Bytes) (at : ℕ) → at < length bytes → drop at bytes ≡ get_or bytes at 0 ∷ drop (at + 1) bytes
at_front bytes at h = rw (add-one, drop-cons bytes at 0) refl

pub both_true : (x y : Bool) → (x && y) ≡ true → (x ≡ true) × (y ≡ true)
both_true true y h = (refl, h)
both_true false y h = absurd (false≢true h)

pub neither : (x y : Bool) → (x || y) ≡ false → (x ≡ false) × (y ≡ false)
neither true y h = absurd (false≢true (sym h))
neither false y h = (refl, h)

-- a newline is kept
newline_kept : (line end : ℕ) (s : List PlacedByte) → returnless (record { byte = 10; line = line; end = end } ∷ s) ≡ record { byte = 10; line = line; end = end } ∷ returnless s
newline_kept line end [] = refl
newline_kept line end (c ∷ s) = refl

two_are : (a b x y : ℕ) (s : Bytes) → (a == x) ≡ true → (b == y) ≡ true → a ∷ b ∷ s ≡ x ∷ y ∷ s
two_are a b x y s p q = let e = eqb-true a x p in let f = eqb-true b y q in cc

three_are : (a b c x y z : ℕ) (s : Bytes) → (a == x) ≡ true → (b == y) ≡ true → (c == z) ≡ true → a ∷ b ∷ c ∷ s ≡ x ∷ y ∷ z ∷ s
three_are a b c x y z s p q r = let e = eqb-true a x p in let f = eqb-true b y q in let g = eqb-true c z r in cc

-- the carriage return of a line end shows nothing
return_step : (at line : ℕ) (s : Bytes) → begins_return s ≡ true → spliced_bytes (at + 1) line (drop 1 s) ≡ spliced_bytes at line s
return_step at line [] h = absurd (false≢true h)
return_step at line (a ∷ []) h = absurd (false≢true (both_true (a == 13) false h).1)
return_step at line (a ∷ b ∷ s) h =
    let w = both_true (a == 13) (b == 10) h in
    let e : a ∷ b ∷ s ≡ 13 ∷ 10 ∷ s = two_are a b 13 10 s w.0 w.1 in
    ap (λ (t : Bytes). spliced_bytes (at + 1) line (drop 1 t)) e ∙ sym (ap (spliced_bytes at line) e)

joined : (at line : ℕ) (s : Bytes) → spliced_bytes (at + 1 + 1) (line + 1) s ≡ spliced_bytes at line (92 ∷ 10 ∷ s)
joined at line s = sym (ap (λ (r : List PlacedByte). spliced (record { byte = 92; line = line; end = at + 1 } ∷ r)) (newline_kept line (at + 1 + 1) (placed (at + 1 + 1) (line + 1) s)))

-- a carriage return between a backslash and a newline shows nothing
joined_return : (at line : ℕ) (s : Bytes) → spliced_bytes (at + 1 + 1 + 1) (line + 1) s ≡ spliced_bytes at line (92 ∷ 13 ∷ 10 ∷ s)
joined_return at line s = sym (ap (λ (r : List PlacedByte). spliced (record { byte = 92; line = line; end = at + 1 } ∷ r)) (newline_kept line (at + 1 + 1 + 1) (placed (at + 1 + 1 + 1) (line + 1) s)))

moved : (a b line : ℕ) (s : Bytes) → a ≡ b → spliced_bytes a line s ≡ spliced_bytes b line s
moved a b line s e = ap (λ k. spliced_bytes k line s) e

-- nor do a backslash and a newline
join_step : (at line : ℕ) (s : Bytes) → begins_join s ≡ true → spliced_bytes (at + 2) (line + 1) (drop 2 s) ≡ spliced_bytes at line s
join_step at line [] h = absurd (false≢true h)
join_step at line (a ∷ []) h = absurd (false≢true (both_true (a == 92) false h).1)
join_step at line (a ∷ b ∷ s) h =
    let w = both_true (a == 92) (b == 10) h in
    moved (at + 2) (at + 1 + 1) (line + 1) s (omega arith) ∙ joined at line s ∙ sym (ap (spliced_bytes at line) (two_are a b 92 10 s w.0 w.1))

-- nor with a carriage return between them
return_join_step : (at line : ℕ) (s : Bytes) → begins_return_join s ≡ true → spliced_bytes (at + 3) (line + 1) (drop 3 s) ≡ spliced_bytes at line s
return_join_step at line [] h = absurd (false≢true h)
return_join_step at line (a ∷ []) h = absurd (false≢true (both_true (a == 92) false h).1)
return_join_step at line (a ∷ b ∷ []) h = absurd (false≢true (both_true (b == 13) false (both_true (a == 92) (b == 13 && false) h).1).1)
return_join_step at line (a ∷ b ∷ c ∷ s) h =
    let w = both_true (a == 92) (b == 13 && c == 10) h in
    let v = both_true (b == 13) (c == 10) w.1 in
    moved (at + 3) (at + 1 + 1 + 1) (line + 1) s (omega arith) ∙ joined_return at line s ∙ sym (ap (spliced_bytes at line) (three_are a b c 92 13 10 s w.0 v.0 v.1))

-- whether spliced_bytes begin with a newline
begins : List PlacedByte → Bool
begins [] = false
begins (c ∷ s) = c.byte == 10

left : (x : Bool) → (x || false) ≡ x
left true = refl
left false = refl

never : (x : Bool) → (x && false) ≡ false
never true = refl
never false = refl

-- a newline is first just where the text begins with a line end
begins_ends : (at line : ℕ) (s : Bytes) → begins (returnless (placed at line s)) ≡ ends_line s
unfolding begins
begins_ends at line [] = refl
begins_ends at line (c ∷ []) = rw (never (c == 13), left (c == 10)) refl
begins_ends at line (c ∷ d ∷ s) = by (c == 13 && d == 10) refl
  where
    by : (b : Bool) → (c == 13 && d == 10) ≡ b → begins (returnless (placed at line (c ∷ d ∷ s))) ≡ ends_line (c ∷ d ∷ s)
    by true e =
        let w = both_true (c == 13) (d == 10) e in
        let is = two_are c d 13 10 s w.0 w.1 in
        ap (λ (t : Bytes). begins (returnless (placed at line t))) is ∙ ap begins (newline_kept line (at + 1 + 1) (placed (at + 1 + 1) (line + 1) s)) ∙ sym (ap ends_line is)
    by false e = rw (e, left (c == 10)) refl

-- a byte that is no splice with the next is kept
byte_kept : (c : PlacedByte) (s : List PlacedByte) → (c.byte == 92 && begins s) ≡ false → spliced (c ∷ s) ≡ c ∷ spliced s
unfolding begins
byte_kept c [] h = refl
byte_kept c (d ∷ s) h = rw h refl

first_kept : (at line b : ℕ) (s : Bytes) → begins_return (b ∷ s) ≡ false → returnless (placed at line (b ∷ s)) ≡ record { byte = b; line = line; end = at + 1 } ∷ returnless (placed (at + 1) (line_after line b) s)
first_kept at line b [] h = refl
first_kept at line b (c ∷ s) h = rw h refl

apart : (x y z : Bool) → ((x && y) || (x && z)) ≡ false → (x && (y || z)) ≡ false
apart true y z h = h
apart false y z h = refl

no_line_end : (b : ℕ) (s : Bytes) → begins_join (b ∷ s) ≡ false → begins_return_join (b ∷ s) ≡ false → (b == 92 && ends_line s) ≡ false
no_line_end b [] p q = never (b == 92)
no_line_end b (c ∷ s) p q = apart (b == 92) (c == 10) (c == 13 && begins_newline s) (rw (p, q) refl)

-- a text that begins with no splice has its first byte as its first
pub clear_step : (at line b : ℕ) (s : Bytes) → begins_splice (b ∷ s) ≡ false → spliced_bytes at line (b ∷ s) ≡ record { byte = b; line = line; end = at + 1 } ∷ spliced_bytes (at + 1) (line_after line b) s
unfolding begins
clear_step at line b s h =
    let w = neither (begins_return (b ∷ s) || begins_join (b ∷ s)) (begins_return_join (b ∷ s)) h in
    let v = neither (begins_return (b ∷ s)) (begins_join (b ∷ s)) w.0 in
    ap spliced (first_kept at line b s v.0)
    ∙ byte_kept (record { byte = b; line = line; end = at + 1 }) (returnless (placed (at + 1) (line_after line b) s)) (ap (λ x. b == 92 && x) (begins_ends (at + 1) (line_after line b) s) ∙ no_line_end b s v.1 w.1)

-- the same at a place of a text
pub clear_at : (bytes : Bytes) (at line : ℕ) → at < length bytes → begins_splice (drop at bytes) ≡ false
    → spliced_bytes at line (drop at bytes) ≡ record { byte = get_or bytes at 0; line = line; end = at + 1 } ∷ spliced_bytes (at + 1) (line_after line (get_or bytes at 0)) (drop (at + 1) bytes)
clear_at bytes at line h clear = let e = at_front bytes at h in
    ap (spliced_bytes at line) e ∙ clear_step at line (get_or bytes at 0) (drop (at + 1) bytes) (ap begins_splice (sym e) ∙ clear)

long_return : (s : Bytes) → begins_return s ≡ true → 1 ≤ length s
long_return [] h = absurd (false≢true h)
long_return (a ∷ s) h = omega arith

long_join : (s : Bytes) → begins_join s ≡ true → 2 ≤ length s
long_join [] h = absurd (false≢true h)
long_join (a ∷ []) h = absurd (false≢true (both_true (a == 92) false h).1)
long_join (a ∷ b ∷ s) h = omega arith

long_return_join : (s : Bytes) → begins_return_join s ≡ true → 3 ≤ length s
long_return_join [] h = absurd (false≢true h)
long_return_join (a ∷ []) h = absurd (false≢true (both_true (a == 92) false h).1)
long_return_join (a ∷ b ∷ []) h = absurd (false≢true (both_true (b == 13) false (both_true (a == 92) (b == 13 && false) h).1).1)
long_return_join (a ∷ b ∷ c ∷ s) h = omega arith

pub return_passes : (bytes : Bytes) (at line : ℕ) → Stands bytes at line → begins_return (drop at bytes) ≡ true → Passes bytes at line (at + 1) line
return_passes bytes at line s h = record {
  same = ap (spliced_bytes (at + 1) line) (sym (drop-drop 1 at bytes)) ∙ return_step at line (drop at bytes) h;
  stands = record { small = s.small; within = omega (arith, long_return (drop at bytes) h, length-drop at bytes, s.within); counted = omega (arith, s.counted) };
  onward = omega arith;
}

pub join_passes : (bytes : Bytes) (at line : ℕ) → Stands bytes at line → begins_join (drop at bytes) ≡ true → Passes bytes at line (at + 2) (line + 1)
join_passes bytes at line s h = record {
  same = ap (spliced_bytes (at + 2) (line + 1)) (sym (drop-drop 2 at bytes)) ∙ join_step at line (drop at bytes) h;
  stands = record { small = s.small; within = omega (arith, long_join (drop at bytes) h, length-drop at bytes, s.within); counted = omega (arith, s.counted) };
  onward = omega arith;
}

pub return_join_passes : (bytes : Bytes) (at line : ℕ) → Stands bytes at line → begins_return_join (drop at bytes) ≡ true → Passes bytes at line (at + 3) (line + 1)
return_join_passes bytes at line s h = record {
  same = ap (spliced_bytes (at + 3) (line + 1)) (sym (drop-drop 3 at bytes)) ∙ return_join_step at line (drop at bytes) h;
  stands = record { small = s.small; within = omega (arith, long_return_join (drop at bytes) h, length-drop at bytes, s.within); counted = omega (arith, s.counted) };
  onward = omega arith;
}
