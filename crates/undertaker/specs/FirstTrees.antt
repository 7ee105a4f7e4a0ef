-- What a tree of the first form comes to: bool symbols with one prompt each, whose condition joins the symbols
-- that it depends on, and nothing else. This project's rule.
use Rattle.std.specs.Prelude.{◌≡◌, ℕ, ◌<◌, false, List, [], ◌∷◌, length, map, position}
use Rattle.ut_text.specs.Text.{text_eq}
use Rattle.kconf_tree.specs.declared.shape.Counts.TheVariants as counts
use Rattle.kconf_tree.specs.Shape.{Shape, symbol_at, counts_as, is_member, number_of}
use Rattle.kconf_tree.specs.Value.{Configuration, least, is_text_or_number}
use Rattle.kconf_tree.specs.Properties.{visibility_of, reverse_of, default_of}
use Rattle.undertaker.specs.Dependencies.{Graph, needs_at}

-- the value of a joined condition: one stands alone
abbrev pub joined_value : (ℕ → ℕ) → List ℕ → ℕ
joined_value v [] = 2
joined_value v (k ∷ []) = v k
joined_value v (j ∷ k ∷ ks) = least (map v (j ∷ k ∷ ks))

-- the tree has these symbols with these needs, and nothing else
pub record Shows (t : Shape) (g : Graph) : Type 0 where
  pub count : length t.symbols ≡ length g.names
  pub rows : length g.needs ≡ length g.names
  pub number : (name : List ℕ) → number_of t name ≡ position (λ n. text_eq n name) g.names
  pub no_choice : t.choices ≡ []
  pub no_member : (k : ℕ) → is_member t k ≡ false
  pub no_text : (k : ℕ) → is_text_or_number (symbol_at t k).kind ≡ false
  pub bool : (k : ℕ) → k < length g.names → counts_as t k ≡ counts.Bool
  pub visibility : (c : Configuration) (k : ℕ) → k < length g.names → visibility_of t c k ≡ joined_value c.value (needs_at g k)
  pub reverse : (c : Configuration) (k : ℕ) → k < length g.names → reverse_of t c k ≡ 0
  pub default : (c : Configuration) (k : ℕ) → k < length g.names → default_of t c k ≡ 0
