-- Logical lines, from the front of a text.
use Rattle.std.proofs.Common.{◌≡◌, ◌∙◌, ◌+◌, ◌==◌, ℕ, Bool, true, false, if◌then◌else◌, refl, sym, ap, subst, List, [], ◌∷◌, ◌++◌, append_assoc, arith}
use Rattle.std.proofs.lemmas.Bool.{eqb-true, eq-eqb}
use Rattle.ut_text.specs.Bytes.{Bytes, backslash, space}
use Rattle.ut_text.specs.Lines.{lines_of}
use Rattle.kbuild_text.specs.Lines.{Line, Begins, BeginsWith, goes_on, joined_lines, onto_line, part_of}

-- the last byte decides whether a line goes on
pub goes_on-push : (front : Bytes) (b : ℕ) → goes_on (front ++ b ∷ []) ≡ (b == backslash)
goes_on-push [] b = refl
goes_on-push (x ∷ []) b = refl
goes_on-push (x ∷ y ∷ s) b = goes_on-push (y ∷ s) b

pub part_of-push : (front : Bytes) (b : ℕ) → part_of (front ++ b ∷ []) ≡ front ++ (if b == backslash then space ∷ [] else b ∷ [])
part_of-push [] b = refl
part_of-push (x ∷ []) b = refl
part_of-push (x ∷ y ∷ s) b = ap (λ l. x ∷ l) (part_of-push (y ∷ s) b)

-- what a physical line gives that ends with this byte
part_by : (physical front : Bytes) (b : ℕ) (t : Bool) → physical ≡ front ++ b ∷ [] → (b == backslash) ≡ t → (goes_on physical ≡ t) × (part_of physical ≡ front ++ (if t then space ∷ [] else b ∷ []))
part_by physical front b t is e =
    (ap goes_on is ∙ (goes_on-push front b ∙ e), ap part_of is ∙ (part_of-push front b ∙ ap (λ u. front ++ (if u then space ∷ [] else b ∷ [])) e))

pub part_goes_on : (physical front : Bytes) (b : ℕ) → physical ≡ front ++ b ∷ [] → b ≡ backslash → (goes_on physical ≡ true) × (part_of physical ≡ front ++ space ∷ [])
part_goes_on physical front b is e = part_by physical front b true is (eq-eqb b backslash e)

pub part_stops : (physical front : Bytes) (b : ℕ) → physical ≡ front ++ b ∷ [] → (b ≡ backslash → ⊥) → (goes_on physical ≡ false) × (part_of physical ≡ front ++ b ∷ [])
part_stops physical front b is ne = part_by physical front b false is (by (b == backslash) refl)
  where
    by : (t : Bool) → (b == backslash) ≡ t → (b == backslash) ≡ false
    by true e = absurd (ne (eqb-true b backslash e))
    by false e = e

-- a front and one more byte at the end of a line
pub appended : (line front : Bytes) (x : ℕ) (mid new part : Bytes) → mid ≡ line ++ front → new ≡ mid ++ x ∷ [] → part ≡ front ++ x ∷ [] → new ≡ line ++ part
appended line front x mid new part m n p = n ∙ (ap (λ l. l ++ x ∷ []) m ∙ (append_assoc line front (x ∷ []) ∙ ap (λ l. line ++ l) (sym p)))

-- bytes in front of bytes in front
pub onto_line-twice : (n k : ℕ) (a b : Bytes) (ls : List Line) → onto_line n a (onto_line k b ls) ≡ onto_line n (a ++ b) ls
onto_line-twice n k a b [] = refl
onto_line-twice n k a b (l ∷ ls) = ap (λ t. record { number = n; text = t } ∷ ls) (sym (append_assoc a b l.text))

-- after the first physical line
pub begins_first : (before text physical rest : Bytes) → lines_of text ≡ physical ∷ lines_of rest → BeginsWith before text (before ++ part_of physical) 1 rest (goes_on physical)
begins_first before text physical rest is = record {
  first = part_of physical;
  whole = refl;
  lines = λ number. ap (joined_lines number) is;
}

-- after one more
pub begins_more : (before text line : Bytes) (count : ℕ) (rest physical after : Bytes) → BeginsWith before text line count rest true → lines_of rest ≡ physical ∷ lines_of after
    → BeginsWith before text (line ++ part_of physical) (count + 1) after (goes_on physical)
begins_more before text line count rest physical after h is = record {
  first = h.first ++ part_of physical;
  whole = ap (λ l. l ++ part_of physical) h.whole ∙ append_assoc before h.first (part_of physical);
  lines = λ number. h.lines number ∙ (ap (λ ls. onto_line number h.first (joined_lines (number + count) ls)) is ∙ by number (goes_on physical));
}
  where
    by : (number : ℕ) (more : Bool)
        → onto_line number h.first (if more then onto_line (number + count) (part_of physical) (joined_lines (number + count + 1) (lines_of after))
        else record { number = number + count; text = part_of physical } ∷ joined_lines (number + count + 1) (lines_of after))
        ≡ (if more then onto_line number (h.first ++ part_of physical) (joined_lines (number + (count + 1)) (lines_of after))
        else record { number = number; text = h.first ++ part_of physical } ∷ joined_lines (number + (count + 1)) (lines_of after))
    by number true =
        let e : number + count + 1 ≡ number + (count + 1) = omega arith in
        onto_line-twice number (number + count) h.first (part_of physical) _ ∙ ap (λ k. onto_line number (h.first ++ part_of physical) (joined_lines k (lines_of after))) e
    by number false =
        let e : number + count + 1 ≡ number + (count + 1) = omega arith in
        ap (λ k. record { number = number; text = h.first ++ part_of physical } ∷ joined_lines k (lines_of after)) e

-- the logical line is at its end
pub begins_stopped : (before text line : Bytes) (count : ℕ) (rest : Bytes) → BeginsWith before text line count rest false → Begins before text line count rest
begins_stopped before text line count rest h = record { first = h.first; whole = h.whole; lines = h.lines }

-- so is the text
pub begins_ended : (before text line : Bytes) (count : ℕ) (rest : Bytes) (more : Bool) → rest ≡ [] → BeginsWith before text line count rest more → Begins before text line count rest
begins_ended before text line count rest false none h = begins_stopped before text line count rest h
begins_ended before text line count rest true none h = record {
  first = h.first;
  whole = h.whole;
  lines = λ number. h.lines number ∙ subst (λ s. onto_line number h.first (joined_lines (number + count) (lines_of s)) ≡ record { number = number; text = h.first } ∷ joined_lines (number + count) (lines_of s)) (sym none) refl;
}
