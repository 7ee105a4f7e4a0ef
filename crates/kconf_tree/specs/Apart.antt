-- Lists of which no two elements are equal, and the names of symbols. This project's rule.
use Rattle.std.specs.Prelude.{◌≡◌, Bool, false, List, [], ◌∷◌, map}
use Rattle.std.specs.List.{list_any}
use Rattle.ut_text.specs.Bytes.{Bytes}
use Rattle.kconf_tree.specs.declared.shape.Symbol.{Symbol}

-- no two are equal
abbrev pub AreApart : {A : Type 0} → (A → A → Bool) → List A → Type 0
AreApart eq [] = Unit {0}
AreApart eq (x ∷ xs) = (list_any (eq x) xs ≡ false) × AreApart eq xs

-- the names of symbols
abbrev pub names_in : List Symbol → List Bytes
names_in ss = map (λ (s : Symbol). s.name) ss
