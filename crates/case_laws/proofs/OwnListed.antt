-- The fact of a node lists the node's own items.
use Rattle.std.proofs.Common.{◌≡◌, ℕ, true, false, [], ◌∷◌, map, length, Some, refl, ap, sym, subst, ◌∙◌, inl, inr}
use Rattle.std.specs.List.{Contains, range_with_len}
use Rattle.std.proofs.lemmas.List.Elements.{All-contains, Contains-append_cases}
use Rattle.ut_logic.specs.declared.item.Item.{Item}
use Rattle.ut_logic.specs.declared.item.Item.TheVariants as item
use Rattle.ut_logic.specs.declared.node.Node.{Node}
use Rattle.ut_logic.specs.declared.node.Node.TheVariants as node
use Rattle.ut_logic.specs.declared.facts.Fact.{Fact}
use Rattle.ut_logic.specs.declared.facts.Rules.{Rules}
use Rattle.ut_logic.specs.Assign.{is_in}
use Rattle.ut_logic.specs.Item.{item_eq}
use Rattle.ut_logic.specs.ItemIdentity.{item_eq-Decides}
use Rattle.ut_logic.specs.Owners.{owner}
use Rattle.kconf_tree.specs.declared.shape.Counts.{Counts}
use Rattle.kconf_tree.specs.declared.shape.Counts.TheVariants as counts
use Rattle.kconf_tree.specs.Shape.{Shape, counts_as}
use Rattle.kconf_tree.specs.Valid.{choice_counts}
use Rattle.kconf_constr.specs.Closed.{IsTrit}
use Rattle.kconf_constr.specs.FactsOf as tree
use Rattle.kconf_constr.specs.Scope.{Scope}
use Rattle.cpp_blocks.specs.Mentions as mentions
use Rattle.cpp_blocks.specs.Nodes.{IsListed}
use Rattle.ut_case.specs.BuiltFormulas.{built_of}
use Rattle.ut_case.specs.Facts.{source_facts}
use Rattle.ut_case.specs.Numbering.{shared}
use Rattle.ut_case.specs.Problem.{Basis, OfTree, OfRules, Problem, directives_at, source_at}
use Rattle.ut_case.specs.Questions.{Question}
use Rattle.ut_case.specs.StartFormulas.{scope_of, starts_from}
use Rattle.case_laws.proofs.Basics.{front_in, or_left, or_right}
use Rattle.case_laws.proofs.ItemKinds.{HasChoice, HasMode, same_node}
use Rattle.case_laws.proofs.FactKinds.{Kind, Tree, Name, Source, IsOfSource}
use Rattle.case_laws.proofs.Known.{unmap}
use Rattle.case_laws.proofs.Lower.{SourcesAreListed}
use Rattle.case_laws.proofs.StartKinds.{HasM, HasY}
use Rattle.case_laws.proofs.StartsListed.{Owns, built_listed, starts_listed}

-- ---- the facts of a tree

-- a fact of a tree is that of a symbol or of a choice
pub data TreeKind (s : Scope) (fact : Fact) : Type 0 where
  Symbol : (k : ℕ) → Contains (range_with_len 0 (length s.shape.symbols)) k → fact ≡ tree.symbol_fact s k → TreeKind s fact
  Choice : (i : ℕ) → Contains (range_with_len 0 (length s.shape.choices)) i → fact ≡ tree.choice_fact s i → TreeKind s fact

pub tree_kind : (s : Scope) (fact : Fact) → Contains (tree.facts_of s) fact → TreeKind s fact
tree_kind s fact h = elim (Contains-append_cases (map (tree.symbol_fact s) (range_with_len 0 (length s.shape.symbols))) (map (tree.choice_fact s) (range_with_len 0 (length s.shape.choices))) fact h) [
  | inl m ↦ let r = unmap (tree.symbol_fact s) (range_with_len 0 (length s.shape.symbols)) fact m in Symbol r.from r.there (sym r.is)
  | inr m ↦ let r = unmap (tree.choice_fact s) (range_with_len 0 (length s.shape.choices)) fact m in Choice r.from r.there (sym r.is)
]

-- ---- own items

-- a symbol or a choice has the item
abbrev pub OwnFits : Basis → Item → Type 0
OwnFits b (item.SymY k) = HasY b k
OwnFits b (item.SymM k) = HasM b k
OwnFits b (item.Undeclared k) = Unit {0}
OwnFits b (item.ModeY i) = HasChoice b
OwnFits b (item.ModeM i) = HasMode b i
OwnFits b (item.Outer k) = Unit {0}
OwnFits b (item.Same sym k) = ⊥
OwnFits b (item.Below sym k) = ⊥
OwnFits b (item.StartD file n) = Unit {0}
OwnFits b (item.StartT file n) = Unit {0}
OwnFits b (item.Truth file n) = Unit {0}
OwnFits b (item.Piece file k) = Unit {0}
OwnFits b (item.Line file k) = Unit {0}
OwnFits b (item.Block file k) = Unit {0}
OwnFits b (item.StateD file n turn) = Unit {0}
OwnFits b (item.StateT file n turn) = Unit {0}

abbrev number_in : Node → ℕ
number_in (node.Sym k) = k
number_in (node.Choice i) = i
number_in (node.Block file block) = 0
number_in (node.State file n turn) = 0

pub same_number : (a b : Node) → Some a ≡ Some b → number_in a ≡ number_in b
same_number a b e = ap number_in (same_node a b e)

itself : (i : Item) → item_eq i i ≡ true
itself i = (item_eq-Decides i i).1 refl

pub own_y : (c : Counts) (k : ℕ) → IsTrit c → is_in (tree.own_items c k) (item.SymY k) ≡ true
own_y counts.Bool k h = or_left (item_eq (item.SymY k) (item.SymY k)) false (itself (item.SymY k))
own_y counts.Tristate k h = or_left (item_eq (item.SymY k) (item.SymY k)) (is_in (item.SymM k ∷ []) (item.SymY k)) (itself (item.SymY k))
own_y counts.Neither k h = absurd h

pub own_m : (c : Counts) (k : ℕ) → c ≡ counts.Tristate → is_in (tree.own_items c k) (item.SymM k) ≡ true
own_m c k h = subst (λ (d : Counts). is_in (tree.own_items d k) (item.SymM k) ≡ true) (sym h)
    (or_right (item_eq (item.SymY k) (item.SymM k)) (is_in (item.SymM k ∷ []) (item.SymM k)) (or_left (item_eq (item.SymM k) (item.SymM k)) false (itself (item.SymM k))))

pub mode_y : (c : Counts) (i : ℕ) → is_in (tree.mode_items c i) (item.ModeY i) ≡ true
mode_y counts.Bool i = or_left (item_eq (item.ModeY i) (item.ModeY i)) false (itself (item.ModeY i))
mode_y counts.Tristate i = or_left (item_eq (item.ModeY i) (item.ModeY i)) (is_in (item.ModeM i ∷ []) (item.ModeY i)) (itself (item.ModeY i))
mode_y counts.Neither i = or_left (item_eq (item.ModeY i) (item.ModeY i)) false (itself (item.ModeY i))

pub mode_m : (c : Counts) (i : ℕ) → c ≡ counts.Tristate → is_in (tree.mode_items c i) (item.ModeM i) ≡ true
mode_m c i h = subst (λ (d : Counts). is_in (tree.mode_items d i) (item.ModeM i) ≡ true) (sym h)
    (or_right (item_eq (item.ModeY i) (item.ModeM i)) (is_in (item.ModeM i ∷ []) (item.ModeM i)) (or_left (item_eq (item.ModeM i) (item.ModeM i)) false (itself (item.ModeM i))))

abbrev tree_of : Shape → Basis → Shape
tree_of d (OfTree t) = t
tree_of d (OfRules r) = d

pub same_tree : (t u : Shape) → OfTree t ≡ OfTree u → t ≡ u
same_tree t u e = ap (tree_of t) e

module _ (s : Scope) where
  symbol_owns : (k : ℕ) (i : Item) → owner i ≡ Some (node.Sym k) → OwnFits (OfTree s.shape) i → is_in (tree.own_items (counts_as s.shape k) k) i ≡ true
  symbol_owns k (item.SymY j) e fit = let at : j ≡ k = same_number (node.Sym j) (node.Sym k) e in
      subst (λ (n : ℕ). is_in (tree.own_items (counts_as s.shape n) n) (item.SymY j) ≡ true) at (own_y (counts_as s.shape j) j fit)
  symbol_owns k (item.SymM j) e fit = let at : j ≡ k = same_number (node.Sym j) (node.Sym k) e in
      subst (λ (n : ℕ). is_in (tree.own_items (counts_as s.shape n) n) (item.SymM j) ≡ true) at (own_m (counts_as s.shape j) j fit)
  symbol_owns k (item.Undeclared j) e fit = absurd (cc)
  symbol_owns k (item.ModeY j) e fit = absurd (cc)
  symbol_owns k (item.ModeM j) e fit = absurd (cc)
  symbol_owns k (item.Outer j) e fit = absurd (cc)
  symbol_owns k (item.Same j n) e fit = absurd fit
  symbol_owns k (item.Below j n) e fit = absurd fit
  symbol_owns k (item.StartD file n) e fit = absurd (cc)
  symbol_owns k (item.StartT file n) e fit = absurd (cc)
  symbol_owns k (item.Truth file n) e fit = absurd (cc)
  symbol_owns k (item.Piece file n) e fit = absurd (cc)
  symbol_owns k (item.Line file n) e fit = absurd (cc)
  symbol_owns k (item.Block file n) e fit = absurd (cc)
  symbol_owns k (item.StateD file n turn) e fit = absurd (cc)
  symbol_owns k (item.StateT file n turn) e fit = absurd (cc)

  choice_owns : (k : ℕ) (i : Item) → owner i ≡ Some (node.Choice k) → OwnFits (OfTree s.shape) i → is_in (tree.mode_items (choice_counts s.shape k) k) i ≡ true
  choice_owns k (item.SymY j) e fit = absurd (cc)
  choice_owns k (item.SymM j) e fit = absurd (cc)
  choice_owns k (item.Undeclared j) e fit = absurd (cc)
  choice_owns k (item.ModeY j) e fit = let at : j ≡ k = same_number (node.Choice j) (node.Choice k) e in
      subst (λ (n : ℕ). is_in (tree.mode_items (choice_counts s.shape n) n) (item.ModeY j) ≡ true) at (mode_y (choice_counts s.shape j) j)
  choice_owns k (item.ModeM j) e fit = let at : j ≡ k = same_number (node.Choice j) (node.Choice k) e in
      subst (λ (n : ℕ). is_in (tree.mode_items (choice_counts s.shape n) n) (item.ModeM j) ≡ true) at
      (mode_m (choice_counts s.shape j) j (ap (λ (t : Shape). choice_counts t j) (same_tree s.shape fit.0 fit.1) ∙ fit.2))
  choice_owns k (item.Outer j) e fit = absurd (cc)
  choice_owns k (item.Same j n) e fit = absurd fit
  choice_owns k (item.Below j n) e fit = absurd fit
  choice_owns k (item.StartD file n) e fit = absurd (cc)
  choice_owns k (item.StartT file n) e fit = absurd (cc)
  choice_owns k (item.Truth file n) e fit = absurd (cc)
  choice_owns k (item.Piece file n) e fit = absurd (cc)
  choice_owns k (item.Line file n) e fit = absurd (cc)
  choice_owns k (item.Block file n) e fit = absurd (cc)
  choice_owns k (item.StateD file n turn) e fit = absurd (cc)
  choice_owns k (item.StateT file n turn) e fit = absurd (cc)

  tree_owns : (fact : Fact) → TreeKind s fact → (i : Item) → owner i ≡ Some fact.node → OwnFits (OfTree s.shape) i → is_in fact.items i ≡ true
  tree_owns fact (Symbol k within e) i o fit = subst (λ (f : Fact). is_in f.items i ≡ true) (sym e)
      (front_in (tree.own_items (counts_as s.shape k) k) (tree.loose_items (tree.symbol_fact s k).holds) i (symbol_owns k i (o ∙ ap (λ (f : Fact). Some f.node) e) fit))
  tree_owns fact (Choice k within e) i o fit = subst (λ (f : Fact). is_in f.items i ≡ true) (sym e)
      (front_in (tree.mode_items (choice_counts s.shape k) k) (tree.loose_items (tree.choice_fact s k).holds) i (choice_owns k i (o ∙ ap (λ (f : Fact). Some f.node) e) fit))

-- the fact of a name
name_owns : (k : ℕ) (r : Rules) (i : Item) → owner i ≡ Some (node.Sym k) → OwnFits (OfRules r) i → is_in (item.SymY k ∷ []) i ≡ true
name_owns k r (item.SymY j) e fit = let at : j ≡ k = same_number (node.Sym j) (node.Sym k) e in
    subst (λ (n : ℕ). is_in (item.SymY n ∷ []) (item.SymY j) ≡ true) at (or_left (item_eq (item.SymY j) (item.SymY j)) false (itself (item.SymY j)))
name_owns k r (item.SymM j) e fit = absurd fit
name_owns k r (item.Undeclared j) e fit = absurd (cc)
name_owns k r (item.ModeY j) e fit = absurd (cc)
name_owns k r (item.ModeM j) e fit = absurd (cc)
name_owns k r (item.Outer j) e fit = absurd (cc)
name_owns k r (item.Same j n) e fit = absurd fit
name_owns k r (item.Below j n) e fit = absurd fit
name_owns k r (item.StartD file n) e fit = absurd (cc)
name_owns k r (item.StartT file n) e fit = absurd (cc)
name_owns k r (item.Truth file n) e fit = absurd (cc)
name_owns k r (item.Piece file n) e fit = absurd (cc)
name_owns k r (item.Line file n) e fit = absurd (cc)
name_owns k r (item.Block file n) e fit = absurd (cc)
name_owns k r (item.StateD file n turn) e fit = absurd (cc)
name_owns k r (item.StateT file n turn) e fit = absurd (cc)

module _ (owns : Owns) (listed : SourcesAreListed) (p : Problem) (q : Question) where
  -- the fact of a source is listed
  pub source_listed : (fact : Fact) → IsOfSource p q fact → IsListed fact
  source_listed fact h = All-contains IsListed (source_facts (shared p) q.family h.file (source_at p h.file)) fact
      (listed h.file (directives_at p h.file) (starts_from (shared p) q.family h.file 0 (mentions.names_of (directives_at p h.file))) (built_of (shared p) q.family (source_at p h.file).paths)
      (starts_listed owns (shared p) q.family h.file 0 (mentions.names_of (directives_at p h.file))) (built_listed (shared p) q.family (source_at p h.file).paths)) h.there

  pub lists_own : (fact : Fact) → Kind p q fact → (i : Item) → owner i ≡ Some fact.node → OwnFits p.basis i → is_in fact.items i ≡ true
  lists_own fact (Tree h) i o fit = tree_owns (scope_of (shared p) q.family h.shape) fact (tree_kind (scope_of (shared p) q.family h.shape) fact h.there) i o (subst (λ (b : Basis). OwnFits b i) h.is fit)
  lists_own fact (Name h) i o fit = subst (λ (f : Fact). is_in f.items i ≡ true) (sym h.same) (name_owns h.number h.rules i (o ∙ ap (λ (f : Fact). Some f.node) h.same) (subst (λ (b : Basis). OwnFits b i) h.is fit))
  lists_own fact (Source h) i o fit = (source_listed fact h).own i o
