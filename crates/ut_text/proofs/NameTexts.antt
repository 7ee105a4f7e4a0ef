-- Names are ASCII, so that their texts are their bytes.
use Rattle.std.proofs.Common.{◌≡◌, ◌+◌, ◌∷◌, ◌++◌, ◌&&◌, ℕ, suc, take, Bool, true, false, [], refl, arith}
use Rattle.std.specs.Prelude.{nat_lt}
use Rattle.std.specs.List.{list_all, prefix_len}
use Rattle.std.proofs.lemmas.Bool.{false≢true}
use Rattle.std.proofs.lemmas.Grind.{common_steps}
use Rattle.ut_text.specs.Bytes.{Bytes}
use Rattle.ut_text.specs.ByteClasses.{is_name_byte}
use Rattle.ut_text.specs.Escapes.{escape, escaped}

-- a byte of a name is below 128
pub name_byte_low : (b : ℕ) → is_name_byte b ≡ true → nat_lt b 128 ≡ true
name_byte_low b h = grind (arith, common_steps)

-- in front of a text that is kept, a byte of a name is kept
pub name_byte_kept : (b : ℕ) (s t : Bytes) → is_name_byte b ≡ true → t ≡ s → escape b ++ t ≡ b ∷ s
name_byte_kept b s t h e = rw (name_byte_low b h, e) refl

-- bytes of names are their own text
pub escaped-name : (s : Bytes) → list_all is_name_byte s ≡ true → escaped s ≡ s
escaped-name [] h = refl
escaped-name (b ∷ s) h = by (is_name_byte b) refl h (escaped-name s)
  where
    by : (x : Bool) → is_name_byte b ≡ x → (x && list_all is_name_byte s) ≡ true → (list_all is_name_byte s ≡ true → escaped s ≡ s) → escaped (b ∷ s) ≡ b ∷ s
    by true e h f = name_byte_kept b s (escaped s) e (f h)
    by false e h f = absurd (false≢true h)

-- the bytes of a name at the front are bytes of names
pub front_name : (s : Bytes) → list_all is_name_byte (take (prefix_len is_name_byte s) s) ≡ true
front_name [] = refl
front_name (b ∷ s) = by (is_name_byte b) refl (front_name s)
  where
    next : 1 + prefix_len is_name_byte s ≡ suc (prefix_len is_name_byte s)
    next = omega arith

    by : (x : Bool) → is_name_byte b ≡ x → list_all is_name_byte (take (prefix_len is_name_byte s) s) ≡ true
        → list_all is_name_byte (take (prefix_len is_name_byte (b ∷ s)) (b ∷ s)) ≡ true
    by true e f = rw (e, next, e) f
    by false e f = rw e refl
