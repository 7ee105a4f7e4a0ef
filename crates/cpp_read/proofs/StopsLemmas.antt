-- Laws of HasNoStop: such bytes may be passed in a steady mode, where only the end of the line counts.
use Rattle.std.proofs.Common.{◌≡◌, ℕ, ◌+◌, ◌<◌, ◌≤◌, ◌∷◌, ◌++◌, ◌==◌, ◌||◌, true, false, List, [], length, get_or, drop, append_assoc, refl, ap, sym, subst, ◌∙◌, arith}
use Rattle.std.proofs.lemmas.Bool.{false≢true}
use Rattle.ut_text.specs.Bytes.{Bytes}
use Rattle.cpp_read.specs.declared.cursor.PlacedByte.{PlacedByte}
use Rattle.cpp_read.specs.declared.modes.Mode.{Mode}
use Rattle.cpp_read.specs.declared.modes.Mode.TheVariants.{Code, Line, Open, Block, Close, Str, StrEscape, Char, CharEscape}
use Rattle.cpp_read.specs.Splices.{spliced_bytes, line_after}
use Rattle.cpp_read.specs.Cursors.{begins_splice}
use Rattle.cpp_read.specs.Comments.{uncommented}
use Rattle.cpp_read.specs.LineSteps.{after_line, newline_end}
use Rattle.cpp_read.specs.Stops.{is_stop, HasNoStop, Skips, is_steady}
use Rattle.cpp_read.proofs.SplicesLemmas.{at_front, clear_step, neither}

record Apart (b : ℕ) : Type 0 where
  backslash : (b == 92) ≡ false
  newline : (b == 10) ≡ false
  return : (b == 13) ≡ false
  slash : (b == 47) ≡ false
  star : (b == 42) ≡ false
  double : (b == 34) ≡ false
  single : (b == 39) ≡ false

apart : (b : ℕ) → is_stop b ≡ false → Apart b
apart b h =
    let p = neither (b == 92 || b == 10 || b == 13 || b == 47 || b == 42 || b == 34) (b == 39) h in
    let q = neither (b == 92 || b == 10 || b == 13 || b == 47 || b == 42) (b == 34) p.0 in
    let r = neither (b == 92 || b == 10 || b == 13 || b == 47) (b == 42) q.0 in
    let s = neither (b == 92 || b == 10 || b == 13) (b == 47) r.0 in
    let t = neither (b == 92 || b == 10) (b == 13) s.0 in
    let u = neither (b == 92) (b == 10) t.0 in
    record { backslash = u.0; newline = u.1; return = t.1; slash = s.1; star = r.1; double = q.1; single = p.1 }

not_splice : (b : ℕ) (s : Bytes) → (b == 92) ≡ false → (b == 13) ≡ false → begins_splice (b ∷ s) ≡ false
not_splice b s h k = rw (h, k) refl

no_stop_at : (bytes : Bytes) (at line : ℕ) → at < length bytes → is_stop (get_or bytes at 0) ≡ false
    → spliced_bytes at line (drop at bytes) ≡ record { byte = get_or bytes at 0; line = line; end = at + 1 } ∷ spliced_bytes (at + 1) line (drop (at + 1) bytes)
no_stop_at bytes at line h stop =
    let a = apart (get_or bytes at 0) stop in
    let e : drop at bytes ≡ get_or bytes at 0 ∷ drop (at + 1) bytes = at_front bytes at h in
    let n : line_after line (get_or bytes at 0) ≡ line = rw a.newline refl in
    ap (spliced_bytes at line) e ∙ clear_step at line (get_or bytes at 0) (drop (at + 1) bytes) (not_splice (get_or bytes at 0) (drop (at + 1) bytes) a.backslash a.return)
    ∙ ap (λ k. record { byte = get_or bytes at 0; line = line; end = at + 1 } ∷ spliced_bytes (at + 1) k (drop (at + 1) bytes)) n

no_stop_more : (f : List PlacedByte) (c : PlacedByte) → HasNoStop f → is_stop c.byte ≡ false → HasNoStop (f ++ c ∷ [])
no_stop_more [] c d h = (h, tt)
no_stop_more (x ∷ f) c d h = (d.0, no_stop_more f c d.1 h)

pub skips_none : (s : List PlacedByte) → Skips s s
skips_none s = record { front = []; no_stop = tt; is = refl }

pub skips_more : (bytes : Bytes) (at line : ℕ) (s : List PlacedByte) → at < length bytes → is_stop (get_or bytes at 0) ≡ false → Skips s (spliced_bytes at line (drop at bytes)) → Skips s (spliced_bytes (at + 1) line (drop (at + 1) bytes))
skips_more bytes at line s h stop k =
    let c : PlacedByte = record { byte = get_or bytes at 0; line = line; end = at + 1 } in
    let e = no_stop_at bytes at line h stop in
    record {
      front = k.front ++ c ∷ [];
      no_stop = no_stop_more k.front c k.no_stop stop;
      is = k.is ∙ ap (λ (t : List PlacedByte). k.front ++ t) e ∙ sym (append_assoc k.front (c ∷ []) (spliced_bytes (at + 1) line (drop (at + 1) bytes)));
    }

pub skips_same : (s t u : List PlacedByte) → Skips s t → u ≡ t → Skips s u
skips_same s t u k e = record { front = k.front; no_stop = k.no_stop; is = k.is ∙ ap (λ (v : List PlacedByte). k.front ++ v) (sym e) }

-- what is read in a mode after such bytes
pub record After (old new : List PlacedByte) : Type 0 where
  pub same : after_line new ≡ after_line old
  pub ends : newline_end new ≡ newline_end old
  pub shorter : length new ≤ length old

one : (m : Mode) (c : PlacedByte) (s : List PlacedByte) → is_steady m ≡ true → Apart c.byte → After (uncommented m (c ∷ s)) (uncommented m s)
one Code c s h a = record { same = rw (a.slash, a.double, a.single, a.newline) refl; ends = rw (a.slash, a.double, a.single, a.newline) refl; shorter = rw (a.slash, a.double, a.single) (omega arith) }
one Line c s h a = record { same = rw a.newline refl; ends = rw a.newline refl; shorter = rw a.newline (omega arith) }
one Block c s h a = record { same = rw a.star refl; ends = rw a.star refl; shorter = rw a.star (omega arith) }
one Open c s h a = absurd (false≢true h)
one Close c s h a = absurd (false≢true h)
one Str c s h a = record { same = rw (a.backslash, a.double, a.newline) refl; ends = rw (a.backslash, a.double, a.newline) refl; shorter = rw (a.backslash, a.double, a.newline) (omega arith) }
one StrEscape c s h a = absurd (false≢true h)
one Char c s h a = record { same = rw (a.backslash, a.single, a.newline) refl; ends = rw (a.backslash, a.single, a.newline) refl; shorter = rw (a.backslash, a.single, a.newline) (omega arith) }
one CharEscape c s h a = absurd (false≢true h)

after_front : (m : Mode) (f s : List PlacedByte) → is_steady m ≡ true → HasNoStop f → After (uncommented m (f ++ s)) (uncommented m s)
after_front m [] s h d = record { same = refl; ends = refl; shorter = omega arith }
after_front m (c ∷ f) s h d =
    let k = one m c (f ++ s) h (apart c.byte d.0) in
    let r = after_front m f s h d.1 in
    record { same = r.same ∙ k.same; ends = r.ends ∙ k.ends; shorter = omega arith }

pub after : (m : Mode) (old new : List PlacedByte) → is_steady m ≡ true → Skips old new → After (uncommented m old) (uncommented m new)
after m old new h k = subst (λ (t : List PlacedByte). After (uncommented m t) (uncommented m new)) (sym k.is) (after_front m k.front new h k.no_stop)
