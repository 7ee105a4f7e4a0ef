-- What the facts of needed nodes list: items of needed nodes, and the loose ones of starts, of conditions and of sources.
use Rattle.std.proofs.Common.{◌≡◌, ℕ, ◌<◌, Bool, true, false, ◌||◌, cond, List, [], ◌∷◌, map, filter, length, Option, None, Some, refl, ap, sym, subst, ◌∙◌, ◌⊎◌, inl, inr}
use Rattle.std.specs.List.{Contains}
use Rattle.std.proofs.lemmas.Bool.{false≢true}
use Rattle.ut_logic.specs.declared.item.Item.{Item}
use Rattle.ut_logic.specs.declared.item.Item.TheVariants as item
use Rattle.ut_logic.specs.declared.node.Node.{Node}
use Rattle.ut_logic.specs.declared.node.Node.TheVariants as node
use Rattle.ut_logic.specs.declared.facts.Fact.{Fact}
use Rattle.ut_logic.specs.Assign.{is_in}
use Rattle.ut_logic.specs.Facts.{Meets, MeetsAll}
use Rattle.ut_logic.specs.Item.{item_eq}
use Rattle.ut_logic.specs.Owners.{owner}
use Rattle.ut_logic.specs.Truth.{together}
use Rattle.model_slice.specs.Named.{names_of}
use Rattle.kconf_tree.specs.declared.shape.Counts.TheVariants as counts
use Rattle.kconf_tree.specs.Shape.{Shape}
use Rattle.kconf_tree.specs.Valid.{choice_counts}
use Rattle.kconf_constr.specs.Closed.{Fits}
use Rattle.cpp_blocks.specs.Alike.{free_lines}
use Rattle.cpp_blocks.specs.Facts.{start_fact}
use Rattle.cpp_blocks.specs.Given.{IsFreeOf}
use Rattle.cpp_blocks.specs.Mentions as mentions
use Rattle.cpp_blocks.specs.Turns.{pieces_of}
use Rattle.ut_case.specs.declared.question.Family.TheVariants as family
use Rattle.ut_case.specs.Environments.{starts_free}
use Rattle.ut_case.specs.Facts.{facts_for}
use Rattle.ut_case.specs.Items.{macro_at}
use Rattle.ut_case.specs.Names.{config_name}
use Rattle.ut_case.specs.Needs.{needed_facts}
use Rattle.ut_case.specs.Numbering.{shared}
use Rattle.ut_case.specs.Problem.{Basis, OfTree, Problem, directives_at}
use Rattle.ut_case.specs.Questions.{Question}
use Rattle.ut_case.specs.StartFormulas.{config_start_of, free_start_of, scope_of, undeclared_in}
use Rattle.case_laws.proofs.Basics.{or_left, or_right}
use Rattle.case_laws.proofs.FileNodes.{IsOfFile}
use Rattle.case_laws.proofs.Found.{Found, met_at, gives}
use Rattle.case_laws.proofs.StartKinds.{HasM, HasY, IsBasisItem, IsTextOf}

-- ---- filtered lists

pub in_filter : (keep : Item → Bool) (xs : List Item) (i : Item) → is_in (filter keep xs) i ≡ true → is_in xs i ≡ true
in_filter keep [] i h = absurd (false≢true h)
in_filter keep (x ∷ xs) i h = by (keep x) h (in_filter keep xs i)
  where
    split : (b : Bool) → item_eq x i ≡ b → (b || is_in (filter keep xs) i) ≡ true → (is_in (filter keep xs) i ≡ true → is_in xs i ≡ true) → is_in (x ∷ xs) i ≡ true
    split true e m rest = or_left (item_eq x i) (is_in xs i) e
    split false e m rest = or_right (item_eq x i) (is_in xs i) (rest m)

    by : (b : Bool) → is_in (cond b (x ∷ filter keep xs) (filter keep xs)) i ≡ true → (is_in (filter keep xs) i ≡ true → is_in xs i ≡ true) → is_in (x ∷ xs) i ≡ true
    by true m rest = split (item_eq x i) refl m rest
    by false m rest = or_right (item_eq x i) (is_in xs i) (rest m)

-- ---- facts of needed nodes

pub record IsNeededFact (p : Problem) (q : Question) (nodes : List Node) (fact : Fact) : Type 0 where
  pub needed : Contains nodes fact.node
  pub there : Contains (facts_for p q) fact
  pub names : names_of (facts_for p q) fact.node ≡ fact.names
  pub meets : (v : Item → Bool) → MeetsAll v (needed_facts p q nodes) → Meets v fact
  pub gives : (g : Fact → List Item) (i : Item) → is_in (g fact) i ≡ true → is_in (together (map g (needed_facts p q nodes))) i ≡ true

pub needed_fact : (p : Problem) (q : Question) (nodes : List Node) (n : Node) → Contains nodes n → (f : Found (facts_for p q) n) → IsNeededFact p q nodes f.fact
needed_fact p q nodes n there f = record {
  needed = subst (Contains nodes) (sym f.node) there;
  there = f.there;
  names = ap (names_of (facts_for p q)) f.node ∙ f.names;
  meets = λ v met. met_at v (facts_for p q) nodes met n there f;
  gives = λ g i h. gives g i (facts_for p q) nodes n there f h;
}

-- ---- what an item is

-- the fact of a macro that starts free
pub record IsFreeStart (p : Problem) (q : Question) (nodes : List Node) (file n : ℕ) : Type 0 where
  pub within : n < length (mentions.names_of (directives_at p file))
  pub fact : IsNeededFact p q nodes (start_fact file n (free_start_of file n))
  pub free : starts_free q.family (macro_at p file n) ≡ true

-- that of `CONFIG_N` for a symbol of texts or numbers
pub record IsTruthStart (p : Problem) (q : Question) (nodes : List Node) (file n : ℕ) : Type 0 where
  pub within : n < length (mentions.names_of (directives_at p file))
  pub asks : q.family ≡ family.Code → ⊥
  pub name : List ℕ
  pub named : config_name (macro_at p file n) ≡ Some name
  pub fact : IsNeededFact p q nodes (start_fact file n (config_start_of (shared p) q.family p.basis file n (macro_at p file n) name))
  pub text : IsTextOf p.basis name

abbrev pub HasChoice : Basis → Type 0
HasChoice b = (t : Shape) × (b ≡ OfTree t)

abbrev pub HasMode : Basis → ℕ → Type 0
HasMode b i = (t : Shape) × (b ≡ OfTree t) × (choice_counts t i ≡ counts.Tristate)

-- by its kind: of a needed node, an undeclared name with a number, an outer condition, or one that a source chooses
abbrev pub ItemIs : Problem → Question → List Node → Basis → Item → Type 0
ItemIs p q nodes b (item.SymY k) = Contains nodes (node.Sym k) × HasY b k
ItemIs p q nodes b (item.SymM k) = Contains nodes (node.Sym k) × HasM b k
ItemIs p q nodes b (item.Undeclared k) = k < length (undeclared_in (shared p) q.family)
ItemIs p q nodes b (item.ModeY i) = Contains nodes (node.Choice i) × HasChoice b
ItemIs p q nodes b (item.ModeM i) = Contains nodes (node.Choice i) × HasMode b i
ItemIs p q nodes b (item.Outer k) = Unit {0}
ItemIs p q nodes b (item.Same sym k) = ⊥
ItemIs p q nodes b (item.Below sym k) = ⊥
ItemIs p q nodes b (item.StartD file n) = IsFreeStart p q nodes file n
ItemIs p q nodes b (item.StartT file n) = IsFreeStart p q nodes file n
ItemIs p q nodes b (item.Truth file n) = IsTruthStart p q nodes file n
ItemIs p q nodes b (item.Piece file k) = k < length (pieces_of (directives_at p file))
ItemIs p q nodes b (item.Line file line) = Contains (free_lines (directives_at p file)) line
ItemIs p q nodes b (item.Block file block) = Contains nodes (node.Block file block)
ItemIs p q nodes b (item.StateD file n turn) = Contains nodes (node.State file n turn)
ItemIs p q nodes b (item.StateT file n turn) = Contains nodes (node.State file n turn)

-- ---- owners

abbrev node_in : Node → Option Node → Node
node_in d None = d
node_in d (Some n) = n

pub same_node : (a b : Node) → Some a ≡ Some b → a ≡ b
same_node a b e = ap (node_in a) e

module _ (p : Problem) (q : Question) (nodes : List Node) where
  -- the owner of an item is the needed node
  owner_needed : (a n : Node) → Some a ≡ Some n → Contains nodes n → Contains nodes a
  owner_needed a n e h = subst (Contains nodes) (sym (same_node a n e)) h

  -- what fits a tree
  pub fits_item : (t : Shape) (n : Node) → Contains nodes n → (i : Item) → Fits (scope_of (shared p) q.family t) i → (owner i ≡ Some n) ⊎ (owner i ≡ None) → ItemIs p q nodes (OfTree t) i
  fits_item t n h (item.SymY k) fit (inl e) = (owner_needed (node.Sym k) n e h, fit)
  fits_item t n h (item.SymY k) fit (inr e) = absurd (cc)
  fits_item t n h (item.SymM k) fit (inl e) = (owner_needed (node.Sym k) n e h, fit)
  fits_item t n h (item.SymM k) fit (inr e) = absurd (cc)
  fits_item t n h (item.Undeclared k) fit o = fit
  fits_item t n h (item.ModeY i) fit (inl e) = (owner_needed (node.Choice i) n e h, (t, refl))
  fits_item t n h (item.ModeY i) fit (inr e) = absurd (cc)
  fits_item t n h (item.ModeM i) fit (inl e) = (owner_needed (node.Choice i) n e h, (t, refl, fit))
  fits_item t n h (item.ModeM i) fit (inr e) = absurd (cc)
  fits_item t n h (item.Outer k) fit o = tt
  fits_item t n h (item.Same k j) fit o = absurd fit
  fits_item t n h (item.Below k j) fit o = absurd fit
  fits_item t n h (item.StartD file k) fit o = absurd fit
  fits_item t n h (item.StartT file k) fit o = absurd fit
  fits_item t n h (item.Truth file k) fit o = absurd fit
  fits_item t n h (item.Piece file k) fit o = absurd fit
  fits_item t n h (item.Line file k) fit o = absurd fit
  fits_item t n h (item.Block file k) fit o = absurd fit
  fits_item t n h (item.StateD file k turn) fit o = absurd fit
  fits_item t n h (item.StateT file k turn) fit o = absurd fit

  -- an item of a block or a state
  pub own_item : (b : Basis) (file : ℕ) (n : Node) → IsOfFile file n → Contains nodes n → (i : Item) → owner i ≡ Some n → ItemIs p q nodes b i
  own_item b file n of h (item.SymY k) e = absurd (subst (IsOfFile file) (sym (same_node (node.Sym k) n e)) of)
  own_item b file n of h (item.SymM k) e = absurd (subst (IsOfFile file) (sym (same_node (node.Sym k) n e)) of)
  own_item b file n of h (item.Undeclared k) e = absurd (cc)
  own_item b file n of h (item.ModeY i) e = absurd (subst (IsOfFile file) (sym (same_node (node.Choice i) n e)) of)
  own_item b file n of h (item.ModeM i) e = absurd (subst (IsOfFile file) (sym (same_node (node.Choice i) n e)) of)
  own_item b file n of h (item.Outer k) e = tt
  own_item b file n of h (item.Same k j) e = absurd (subst (IsOfFile file) (sym (same_node (node.Sym k) n e)) of)
  own_item b file n of h (item.Below k j) e = absurd (subst (IsOfFile file) (sym (same_node (node.Sym k) n e)) of)
  own_item b file n of h (item.StartD f k) e = absurd (cc)
  own_item b file n of h (item.StartT f k) e = absurd (cc)
  own_item b file n of h (item.Truth f k) e = absurd (cc)
  own_item b file n of h (item.Piece f k) e = absurd (cc)
  own_item b file n of h (item.Line f k) e = absurd (cc)
  own_item b file n of h (item.Block f k) e = owner_needed (node.Block f k) n e h
  own_item b file n of h (item.StateD f k turn) e = owner_needed (node.State f k turn) n e h
  own_item b file n of h (item.StateT f k turn) e = owner_needed (node.State f k turn) n e h

  -- a loose item of the basis
  pub loose_item : (b : Basis) (i : Item) → owner i ≡ None → IsBasisItem b (undeclared_in (shared p) q.family) i → ItemIs p q nodes b i
  loose_item b (item.SymY k) e h = absurd (cc)
  loose_item b (item.SymM k) e h = absurd (cc)
  loose_item b (item.Undeclared k) e h = h
  loose_item b (item.ModeY i) e h = absurd h
  loose_item b (item.ModeM i) e h = absurd h
  loose_item b (item.Outer k) e h = tt
  loose_item b (item.Same k j) e h = absurd h
  loose_item b (item.Below k j) e h = absurd h
  loose_item b (item.StartD f k) e h = absurd h
  loose_item b (item.StartT f k) e h = absurd h
  loose_item b (item.Truth f k) e h = absurd h
  loose_item b (item.Piece f k) e h = absurd h
  loose_item b (item.Line f k) e h = absurd h
  loose_item b (item.Block f k) e h = absurd h
  loose_item b (item.StateD f k turn) e h = absurd h
  loose_item b (item.StateT f k turn) e h = absurd h

  -- a piece or a line of a source
  pub free_item : (b : Basis) (file : ℕ) (i : Item) → IsFreeOf file (directives_at p file) i → ItemIs p q nodes b i
  free_item b file (item.SymY k) h = absurd h
  free_item b file (item.SymM k) h = absurd h
  free_item b file (item.Undeclared k) h = absurd h
  free_item b file (item.ModeY i) h = absurd h
  free_item b file (item.ModeM i) h = absurd h
  free_item b file (item.Outer k) h = absurd h
  free_item b file (item.Same k j) h = absurd h
  free_item b file (item.Below k j) h = absurd h
  free_item b file (item.StartD f k) h = absurd h
  free_item b file (item.StartT f k) h = absurd h
  free_item b file (item.Truth f k) h = absurd h
  free_item b file (item.Piece f k) h = subst (λ (g : ℕ). k < length (pieces_of (directives_at p g))) (sym h.0) h.1
  free_item b file (item.Line f k) h = subst (λ (g : ℕ). Contains (free_lines (directives_at p g)) k) (sym h.0) h.1
  free_item b file (item.Block f k) h = absurd h
  free_item b file (item.StateD f k turn) h = absurd h
  free_item b file (item.StateT f k turn) h = absurd h
