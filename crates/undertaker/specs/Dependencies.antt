-- The symbols of a tree of the first form, as the plain decision sees them: each has a name and the numbers
-- of the symbols that it depends on.
use Rattle.std.specs.Prelude.{◌≡◌, ◌==◌, ℕ, Bool, true, List, [], ◌∷◌, get_or, map, filter_map, ◌<◌, length, All}
use Rattle.std.specs.List.{list_all, list_any, flat_map}
use Rattle.undertaker.specs.Names.{number_among}
use Rattle.kconf_entries.specs.declared.expr.Expr.{Expr, out-Expr}
use Rattle.kconf_entries.specs.declared.expr.Expr.TheOpen.{Expr-F}
use Rattle.kconf_entries.specs.declared.entries.ConfigEntry.{ConfigEntry}

-- the names by number, and for each symbol what it needs
pub record Graph : Type 0 where
  pub names : List (List ℕ)
  pub needs : List (List ℕ)

-- ---- the graph of entries whose dependencies are names, or lists of names

-- the members of a joined condition
abbrev pub members_at : Expr → Expr-F Expr → List Expr
members_at e (Expr-F.And es) = es
members_at e x = e ∷ []

abbrev pub name_at : Expr-F Expr → List (List ℕ)
name_at (Expr-F.Name name) = name ∷ []
name_at x = []

abbrev pub names_of_members : List Expr → List (List ℕ)
names_of_members es = flat_map (λ (f : Expr). name_at (out-Expr f)) es

abbrev pub names_in : Expr → List (List ℕ)
names_in e = names_of_members (members_at e (out-Expr e))

-- the numbers of those names that are declared
abbrev pub numbers_of : List (List ℕ) → List (List ℕ) → List ℕ
numbers_of declared names = filter_map (number_among declared) names

abbrev pub declared_in : List ConfigEntry → List (List ℕ)
declared_in es = map (λ (e : ConfigEntry). e.name) es

abbrev pub rows_of : List (List ℕ) → List ConfigEntry → List (List ℕ)
rows_of declared es = map (λ (e : ConfigEntry). numbers_of declared (names_in e.depends)) es

abbrev pub graph_of : List ConfigEntry → Graph
graph_of es = record { names = declared_in es; needs = rows_of (declared_in es) es }

-- ---- closed sets

abbrev pub needs_at : Graph → ℕ → List ℕ
needs_at g k = get_or g.needs k []

-- each symbol depends on symbols
abbrev pub AreRows : Graph → Type 0
AreRows g = (k : ℕ) → All (λ j. j < length g.needs) (needs_at g k)

-- the set holds what each of its symbols needs
abbrev pub IsClosed : Graph → (ℕ → Bool) → Type 0
IsClosed g s = (k : ℕ) → s k ≡ true → list_all s (needs_at g k) ≡ true

abbrev pub is_among : List ℕ → ℕ → Bool
is_among ks k = list_any (λ j. j == k) ks

-- the numbers are the least closed set that holds the wanted ones
pub record IsLeastClosed (g : Graph) (wanted found : List ℕ) : Type 0 where
  pub rooted : list_all (is_among found) wanted ≡ true
  pub closed : IsClosed g (is_among found)
  pub least : (s : ℕ → Bool) → list_all s wanted ≡ true → IsClosed g s → list_all s found ≡ true
