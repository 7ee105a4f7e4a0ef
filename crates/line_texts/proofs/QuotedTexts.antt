-- Texts between quotation marks.
use Rattle.std.proofs.Common.{◌≡◌, ◌≢◌, ℕ, ◌+◌, ◌<◌, Bool, true, false, [], ◌∷◌, ◌++◌, length, get_or, refl, sym, ap, ◌∙◌, arith, length-append, append_assoc}
use Rattle.std.specs.Prelude.{◌==◌, codes, Option, Some, None, if◌then◌else◌}
use Rattle.std.specs.List.{flat_map}
use Rattle.std.proofs.lemmas.Bool.{eqb-true, eqb-false, ne_eqb}
use Rattle.std.proofs.lemmas.List.{append_cancel_left}
use Rattle.ut_text.specs.Bytes.{Bytes, tab}
use Rattle.line_texts.specs.Cursor.{mark, backslash, quoted_byte, quoted}
use Rattle.line_texts.proofs.ListTexts.{AreApart, list_once, no_list}

-- how a byte is written
pub data Written (b : ℕ) : Type 0 where
  Mark : b ≡ mark → quoted_byte b ≡ codes "\\\"" → Written b
  Backslash : b ≡ backslash → quoted_byte b ≡ codes "\\\\" → Written b
  Tab : b ≡ tab → quoted_byte b ≡ codes "\\t" → Written b
  Plain : b ≢ mark → b ≢ backslash → quoted_byte b ≡ b ∷ [] → Written b

pub written : (b : ℕ) → Written b
written b = by (b == mark) (b == backslash) (b == tab) refl refl refl
  where
    by : (m k t : Bool) → (b == mark) ≡ m → (b == backslash) ≡ k → (b == tab) ≡ t → Written b
    by true k t e f g = Mark (eqb-true b mark e) (rw e refl)
    by false true t e f g = Backslash (eqb-true b backslash f) (rw (e, f) refl)
    by false false true e f g = Tab (eqb-true b tab g) (rw (e, f, g) refl)
    by false false false e f g = Plain (eqb-false b mark e) (eqb-false b backslash f) (rw (e, f, g) refl)

-- the byte that is written at the front, and what stands after it
escape_of : Bytes → Option (ℕ × Bytes)
escape_of [] = None
escape_of (c ∷ rest) =
    if c == mark then Some (mark, rest)
    else (if c == backslash then Some (backslash, rest) else (if c == 116 then Some (tab, rest) else None))

byte_of : Bytes → Option (ℕ × Bytes)
byte_of [] = None
byte_of (c ∷ rest) = if c == backslash then escape_of rest else Some (c, rest)

byte_of-quoted_byte : (b : ℕ) (rest : Bytes) → byte_of (quoted_byte b ++ rest) ≡ Some (b, rest)
unfolding byte_of escape_of
byte_of-quoted_byte b rest = by (written b)
  where
    by : Written b → byte_of (quoted_byte b ++ rest) ≡ Some (b, rest)
    by (Mark e q) = ap (λ t. byte_of (t ++ rest)) q ∙ ap (λ c. Some (c, rest)) (sym e)
    by (Backslash e q) = ap (λ t. byte_of (t ++ rest)) q ∙ ap (λ c. Some (c, rest)) (sym e)
    by (Tab e q) = ap (λ t. byte_of (t ++ rest)) q ∙ ap (λ c. Some (c, rest)) (sym e)
    by (Plain m k q) = ap (λ t. byte_of (t ++ rest)) q ∙ (rw (ne_eqb b backslash k) refl)

first_of_pair : Option (ℕ × Bytes) → ℕ
first_of_pair None = 0
first_of_pair (Some p) = p.0

second_of_pair : Option (ℕ × Bytes) → Bytes
second_of_pair None = []
second_of_pair (Some p) = p.1

-- a byte between quotation marks is read in one way
pub quoted_byte_once : (a b : ℕ) (s t : Bytes) → quoted_byte a ++ s ≡ quoted_byte b ++ t → (a ≡ b) × (s ≡ t)
unfolding first_of_pair second_of_pair
quoted_byte_once a b s t e =
    let same : Some (a, s) ≡ Some (b, t) = sym (byte_of-quoted_byte a s) ∙ ap byte_of e ∙ byte_of-quoted_byte b t in
    (ap first_of_pair same, ap second_of_pair same)

-- and isn't the quotation mark at the end
not_mark : (b : ℕ) (s t : Bytes) → quoted_byte b ++ s ≢ codes "\"" ++ t
not_mark b s t e = by (written b)
  where
    first : get_or (quoted_byte b ++ s) 0 0 ≡ mark
    first = ap (λ u. get_or u 0 0) e

    by : Written b → ⊥
    by (Mark m q) = omega (arith, sym (ap (λ u. get_or (u ++ s) 0 0) q) ∙ first)
    by (Backslash k q) = omega (arith, sym (ap (λ u. get_or (u ++ s) 0 0) q) ∙ first)
    by (Tab g q) = omega (arith, sym (ap (λ u. get_or (u ++ s) 0 0) q) ∙ first)
    by (Plain m k q) = m (sym (ap (λ u. get_or (u ++ s) 0 0) q) ∙ first)

-- what ends a quoted text
abbrev pub EndsQuoted : Bytes → Type 0
EndsQuoted here = (rest : Bytes) × (here ≡ codes "\"" ++ rest)

pub bytes_apart : AreApart quoted_byte (λ _. Unit {0}) (λ _. Unit {0}) EndsQuoted
bytes_apart = record {
  once = λ a b s t v w p q e. quoted_byte_once a b s t e;
  ended = λ b s t v (rest, e) f. not_mark b s rest (f ∙ e);
  begins = λ b s. tt;
  ends = λ t e. tt;
}

-- a byte takes a byte at least
pub quoted_byte_shorter : (bytes : Bytes) (b : ℕ) (rest : Bytes) → bytes ≡ quoted_byte b ++ rest → length rest < length bytes
quoted_byte_shorter bytes b rest e = by (written b)
  where
    len : length bytes ≡ length (quoted_byte b) + length rest
    len = ap length e ∙ length-append (quoted_byte b) rest

    by : Written b → length rest < length bytes
    by (Mark m q) = omega (arith, len, ap length q)
    by (Backslash k q) = omega (arith, len, ap length q)
    by (Tab g q) = omega (arith, len, ap length q)
    by (Plain m k q) = omega (arith, len, ap length q)

-- no byte stands here where neither an escape nor a plain byte does
pub no_quoted_byte : (bytes : Bytes) → ((rest : Bytes) → bytes ≢ codes "\\\"" ++ rest) → ((rest : Bytes) → bytes ≢ codes "\\\\" ++ rest) → ((rest : Bytes) → bytes ≢ codes "\\t" ++ rest) → ((b : ℕ) (rest : Bytes) → quoted_byte b ≡ b ∷ [] → bytes ≢ b ∷ rest) → (b : ℕ) (rest : Bytes) → bytes ≢ quoted_byte b ++ rest
no_quoted_byte bytes no_mark no_backslash no_tab no_plain b rest e = by (written b)
  where
    by : Written b → ⊥
    by (Mark m q) = no_mark rest (e ∙ ap (λ t. t ++ rest) q)
    by (Backslash k q) = no_backslash rest (e ∙ ap (λ t. t ++ rest) q)
    by (Tab g q) = no_tab rest (e ∙ ap (λ t. t ++ rest) q)
    by (Plain m k q) = no_plain b rest q (e ∙ ap (λ t. t ++ rest) q)

-- a quoted text, piece by piece
pub quoted_is : (text rest : Bytes) → quoted text ++ rest ≡ codes "\"" ++ (flat_map quoted_byte text ++ (codes "\"" ++ rest))
quoted_is text rest = ap (λ t. mark ∷ t) (append_assoc (flat_map quoted_byte text) (codes "\"") rest)

-- one quoted text stands here at most
pub quoted_once : (s t rest more : Bytes) → quoted s ++ rest ≡ quoted t ++ more → (s ≡ t) × (rest ≡ more)
quoted_once s t rest more e =
    let inner = append_cancel_left (codes "\"") _ _ (sym (quoted_is s rest) ∙ e ∙ quoted_is t more) in
    let both = list_once quoted_byte (λ _. Unit {0}) (λ _. Unit {0}) EndsQuoted bytes_apart s t (codes "\"" ++ rest) (codes "\"" ++ more) (λ k d h. tt) (λ k d h. tt) (rest, refl) (more, refl) inner in
    (both.0, append_cancel_left (codes "\"") rest more both.1)

-- no quoted text stands where, after some of its bytes, neither another one nor the mark does
pub no_quoted : (bytes read here : Bytes) → bytes ≡ codes "\"" ++ (flat_map quoted_byte read ++ here) → ((rest : Bytes) → here ≢ codes "\"" ++ rest) → ((b : ℕ) (rest : Bytes) → here ≢ quoted_byte b ++ rest) → (text rest : Bytes) → bytes ≢ quoted text ++ rest
no_quoted bytes read here e no_end no_byte text rest f =
    no_list quoted_byte (λ _. Unit {0}) (λ _. Unit {0}) EndsQuoted bytes_apart (flat_map quoted_byte read ++ here) read here refl (λ k d h. tt) tt
    (λ (more, end). no_end more end) (λ b more v q g. no_byte b more g) text (codes "\"" ++ rest) (λ k d h. tt) (rest, refl)
    (append_cancel_left (codes "\"") _ _ (sym e ∙ f ∙ quoted_is text rest))
