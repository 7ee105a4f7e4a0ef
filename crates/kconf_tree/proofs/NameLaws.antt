-- The number of a symbol by its name, and that no two have one name.
use Rattle.std.proofs.Common.{◌≡◌, ℕ, List, position, ap, sym, ◌∙◌}
use Rattle.ut_text.specs.Text.{text_eq}
use Rattle.kconf_tree.specs.declared.shape.Symbol.{Symbol}
use Rattle.kconf_tree.specs.Shape.{Shape, number_of}
use Rattle.kconf_tree.specs.Apart.{names_in}
use Rattle.kconf_tree.proofs.Places.{position-map}

-- a name's number depends on the names alone
pub numbers_by_names : (s t : Shape) (name : List ℕ) → names_in s.symbols ≡ names_in t.symbols → number_of s name ≡ number_of t name
numbers_by_names s t name h = sym (position-map (λ (x : Symbol). x.name) (λ n. text_eq n name) s.symbols)
    ∙ (ap (position (λ n. text_eq n name)) h ∙ position-map (λ (x : Symbol). x.name) (λ n. text_eq n name) t.symbols)
