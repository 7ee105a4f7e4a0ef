-- Laws of the names of a piece: the bytes of a word are passed.
use Rattle.std.proofs.Common.{◌≡◌, ℕ, ◌==◌, ◌++◌, true, false, [], ◌∷◌, length, take, drop, suc, zero, refl, sym, ap}
use Rattle.std.specs.List.{list_all, prefix_len}
use Rattle.std.proofs.lemmas.Bool.{false≢true}
use Rattle.ut_text.specs.Bytes.{Bytes}
use Rattle.ut_text.specs.ByteClasses.{begins_names, is_name_byte}
use Rattle.ut_text.proofs.NameTexts.{front_name}
use Rattle.cpp_directives.specs.PieceNames.{more_of, first_len, begins_name, named, names_after, names_of_piece}

pub names-after_drop : (k : ℕ) (s : Bytes) → names_after k s ≡ names_after 0 (drop k s)
names-after_drop zero s = refl
names-after_drop (suc k) [] = refl
names-after_drop (suc k) (b ∷ s) = names-after_drop k s

pub first_word : (s : Bytes) → (length s == 0) ≡ false → names_of_piece s ≡ named (take (first_len s) s) ++ names_of_piece (drop (first_len s) s)
first_word [] h = absurd (false≢true (sym h))
first_word (b ∷ s) h = ap (λ ns. named (b ∷ take (more_of b s) s) ++ ns) (names-after_drop (more_of b s) s)

begins_byte : (b : ℕ) → begins_names b ≡ true → is_name_byte b ≡ true
begins_byte b h = rw h refl

-- a word that begins as names do is one
pub plain_word : (s : Bytes) → begins_name (take (first_len s) s) ≡ true → list_all is_name_byte (take (first_len s) s) ≡ true
plain_word [] h = refl
plain_word (b ∷ s) h = rw (begins_byte b h, h) (front_name s)
