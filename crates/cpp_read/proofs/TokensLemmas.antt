-- Laws of tokens: the bytes of a token are passed.
use Rattle.std.proofs.Common.{◌≡◌, ℕ, ◌+◌, ◌<◌, ◌∷◌, Bool, true, false, not, [], take, drop, suc, zero, refl, sym, arith}
use Rattle.std.specs.List.{prefix_len}
use Rattle.std.proofs.lemmas.Bool.{false≢true}
use Rattle.ut_text.specs.Bytes.{Bytes}
use Rattle.cpp_read.specs.LogicalLines.{is_white}
use Rattle.cpp_read.specs.Tokens.{spellings_after, spellings_of, more_of}
use Rattle.cpp_read.specs.TokenSteps.{begins_token, token_len}
use Rattle.cpp_read.specs.Words.{after_white}

pub after-drop : (k : ℕ) (s : Bytes) → spellings_after k s ≡ spellings_after 0 (drop k s)
after-drop zero s = refl
after-drop (suc k) [] = refl
after-drop (suc k) (b ∷ s) = after-drop k s

pub first_token : (s : Bytes) → begins_token s ≡ true → spellings_of s ≡ take (token_len s) s ∷ spellings_of (drop (token_len s) s)
first_token [] h = absurd (false≢true h)
first_token (b ∷ s) h = by (is_white b) refl h
  where
    by : (x : Bool) → is_white b ≡ x → not x ≡ true → spellings_of (b ∷ s) ≡ take (token_len (b ∷ s)) (b ∷ s) ∷ spellings_of (drop (token_len (b ∷ s)) (b ∷ s))
    by true e h = absurd (false≢true h)
    by false e h = rw (e, after-drop (more_of b s) s) refl

pub some_token : (s : Bytes) → begins_token s ≡ true → 0 < token_len s
some_token [] h = absurd (false≢true h)
some_token (b ∷ s) h = omega arith

-- blanks in front show nothing
pub spellings-after_white : (s : Bytes) → spellings_of (after_white s) ≡ spellings_of s
spellings-after_white [] = refl
spellings-after_white (b ∷ s) = by (is_white b) refl (spellings-after_white s)
  where
    next : 1 + prefix_len is_white s ≡ suc (prefix_len is_white s)
    next = omega arith

    by : (x : Bool) → is_white b ≡ x → spellings_of (after_white s) ≡ spellings_of s → spellings_of (after_white (b ∷ s)) ≡ spellings_of (b ∷ s)
    by true e f = rw (e, next) f
    by false e f = rw (e, e) refl

-- without blanks in front, a text that begins with no token is empty
pub no_spellings : (s : Bytes) → begins_token (after_white s) ≡ false → spellings_of s ≡ []
no_spellings [] h = refl
no_spellings (b ∷ s) h = by (is_white b) refl h (no_spellings s)
  where
    next : 1 + prefix_len is_white s ≡ suc (prefix_len is_white s)
    next = omega arith

    by : (x : Bool) → is_white b ≡ x → begins_token (after_white (b ∷ s)) ≡ false → (begins_token (after_white s) ≡ false → spellings_of s ≡ []) → spellings_of (b ∷ s) ≡ []
    by true e h f = rw e (f (rw (e, next) at h))
    by false e h f = let k = rw (e, e) at h in absurd (false≢true (sym k))
