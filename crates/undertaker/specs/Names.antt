-- Names in order of first appearance, each once, and their numbers.
use Rattle.std.specs.Prelude.{ℕ, List, [], ◌∷◌, ◌++◌, Option, position, if◌then◌else◌}
use Rattle.std.specs.List.{list_any}
use Rattle.ut_text.specs.Bytes.{Bytes}
use Rattle.ut_text.specs.Text.{text_eq}

-- the place of a name
abbrev pub number_among : List Bytes → Bytes → Option ℕ
number_among names name = position (λ n. text_eq n name) names

-- the names, with this one after them if it is new
abbrev pub with_name : List Bytes → Bytes → List Bytes
with_name names name = if list_any (text_eq name) names then names else names ++ name ∷ []
