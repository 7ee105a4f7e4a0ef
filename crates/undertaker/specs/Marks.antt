-- The symbols that were found, and the marks that tell of each symbol whether it was.
use Rattle.std.specs.Prelude.{◌≡◌, ◌<◌, ℕ, Bool, false, List, [], ◌∷◌, ◌++◌, length, get_or, if◌then◌else◌}
use Rattle.undertaker.specs.Dependencies.{is_among}

-- after the last there is no mark
abbrev pub is_marked : List Bool → ℕ → Bool
is_marked marks k = get_or marks k false

-- a symbol is marked exactly where it was found
abbrev pub Marked : List Bool → List ℕ → Type 0
Marked marks found = (k : ℕ) → k < length marks → is_marked marks k ≡ is_among found k

-- no symbol is marked
abbrev pub AreClear : List Bool → Type 0
AreClear marks = (k : ℕ) → is_marked marks k ≡ false

-- the symbols, with this one after them if it is new
abbrev pub with_one : List ℕ → ℕ → List ℕ
with_one found k = if is_among found k then found else found ++ k ∷ []

-- the symbols, with the new ones of more after them
abbrev pub added : List ℕ → List ℕ → List ℕ
added found [] = found
added found (k ∷ ks) = added (with_one found k) ks
