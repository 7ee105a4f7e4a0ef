-- The name that bytes are.
use Rattle.std.proofs.Common.{◌≡◌, ◌∙◌, refl, sym, ap, Bool, true, false, Option, None, Some, if◌then◌else◌, ℕ}
use Rattle.std.specs.Str.{IsUtf8, is_utf8}
use Rattle.std.proofs.lemmas.Str.{IsUtf8-from_is_utf8, is_utf8-from_IsUtf8}
use Rattle.ut_text.specs.Bytes.{Bytes}
use Rattle.ut_base.specs.Names.{named}
use Rattle.kbuild_folders.specs.Names.{file_name}

pub utf8_name : (bytes text : Bytes) → text ≡ bytes → IsUtf8 bytes → named text ≡ file_name bytes
utf8_name bytes text same is = ap named same ∙ sym (ap (λ b. if b then named bytes else None) (is_utf8-from_IsUtf8 bytes is))

pub no_utf8_name : (bytes : Bytes) → ¬ IsUtf8 bytes → None ≡ file_name bytes
no_utf8_name bytes none = sym (ap (λ b. if b then named bytes else None) (by (is_utf8 bytes) refl))
  where
    by : (b : Bool) → is_utf8 bytes ≡ b → is_utf8 bytes ≡ false
    by true e = absurd (none (IsUtf8-from_is_utf8 bytes e))
    by false e = e
