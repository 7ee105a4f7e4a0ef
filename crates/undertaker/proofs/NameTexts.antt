-- Names of both first forms are of bytes of names, so that their texts are their bytes.
use Rattle.std.proofs.Common.{◌≡◌, ◌∷◌, ◌&&◌, ℕ, Bool, true, false, List, [], refl}
use Rattle.std.specs.List.{list_all}
use Rattle.std.proofs.lemmas.Bool.{false≢true}
use Rattle.ut_text.specs.ByteClasses.{is_capital, begins_names, is_name_byte}
use Rattle.ut_text.specs.Escapes.{escaped}
use Rattle.ut_text.proofs.NameTexts.{escaped-name}
use Rattle.undertaker.specs.FirstKconfig.Form as kconfig
use Rattle.undertaker.specs.FirstSource.Form as source

capital_is_byte : (b : ℕ) → is_capital b ≡ true → is_name_byte b ≡ true
capital_is_byte b h = rw h refl

first_is_byte : (b : ℕ) → begins_names b ≡ true → is_name_byte b ≡ true
first_is_byte b h = rw h refl

front : (b : ℕ) (s : List ℕ) → is_name_byte b ≡ true → list_all is_name_byte s ≡ true → list_all is_name_byte (b ∷ s) ≡ true
front b s e h = rw (e, h) refl

-- a name of a Kconfig text is its own text
pub kconfig_name_kept : (s : List ℕ) → kconfig.is_name s ≡ true → escaped s ≡ s
kconfig_name_kept [] h = refl
kconfig_name_kept (b ∷ s) h = by (is_capital b) refl h
  where
    by : (x : Bool) → is_capital b ≡ x → (x && list_all is_name_byte s) ≡ true → escaped (b ∷ s) ≡ b ∷ s
    by true e h = escaped-name (b ∷ s) (front b s (capital_is_byte b e) h)
    by false e h = absurd (false≢true h)

-- so is a name of a source
pub source_name_kept : (s : List ℕ) → source.is_name s ≡ true → escaped s ≡ s
source_name_kept [] h = refl
source_name_kept (b ∷ s) h = by (begins_names b) refl h
  where
    by : (x : Bool) → begins_names b ≡ x → (x && list_all is_name_byte s) ≡ true → escaped (b ∷ s) ≡ b ∷ s
    by true e h = escaped-name (b ∷ s) (front b s (first_is_byte b e) h)
    by false e h = absurd (false≢true h)
