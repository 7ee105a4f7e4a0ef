-- A case whose configuration is read off truths on the needed nodes, and whose environment is theirs, has these truths on all
-- free items.
use Rattle.std.proofs.Common.{◌≡◌, ℕ, ◌==◌, ◌<◌, Bool, true, false, not, ◌&&◌, ◌||◌, cond, List, [], ◌∷◌, length, refl, ap, sym, subst, ◌∙◌, arith}
use Rattle.std.specs.Prelude.{slice_index_or}
use Rattle.std.specs.List.{Contains}
use Rattle.std.proofs.lemmas.Bool.{false≢true}
use Rattle.std.proofs.lemmas.List.Elements.{All-contains}
use Rattle.ut_logic.specs.declared.item.Item.{Item}
use Rattle.ut_logic.specs.declared.item.Item.TheVariants as item
use Rattle.ut_logic.specs.declared.node.Node.{Node}
use Rattle.ut_logic.specs.declared.node.Node.TheVariants as node
use Rattle.ut_logic.specs.declared.formula.Formula.{Formula}
use Rattle.ut_logic.specs.declared.formula.Formula.TheVariants.{Is}
use Rattle.ut_logic.specs.Assign.{is_in}
use Rattle.ut_logic.specs.Facts.{MeetsAll}
use Rattle.ut_logic.specs.Fold.{any_of, not_of}
use Rattle.ut_logic.specs.Item.{item_eq}
use Rattle.ut_logic.specs.ItemIdentity.{item_eq-Decides}
use Rattle.ut_logic.specs.Owners.{owner}
use Rattle.ut_logic.specs.Truth.{all_true, truth, truths}
use Rattle.ut_logic.proofs.FoldLaws.{truth-Is, truth-any_of, truth-not_of}
use Rattle.kconf_tree.specs.Shape.{Shape, counts_as}
use Rattle.kconf_tree.specs.Valid.{choice_counts}
use Rattle.kconf_tree.specs.Value.{Configuration}
use Rattle.kconf_constr.specs.Scope.{Scope}
use Rattle.kconf_constr.specs.Standing.{StandsFor, items_of}
use Rattle.kconf_constr.specs.Stands.{read_off, truths_of}
use Rattle.cpp_blocks.specs.Facts.{is_free, is_free_at}
use Rattle.cpp_blocks.specs.Run.{is_defined, is_true}
use Rattle.cpp_blocks.specs.Solution.{state_of}
use Rattle.ut_case.specs.declared.question.Family.{Family}
use Rattle.ut_case.specs.declared.question.Family.TheVariants as family
use Rattle.ut_case.specs.Cases.{Case}
use Rattle.ut_case.specs.Items.{item_truth}
use Rattle.ut_case.specs.Laws.{is_of_source}
use Rattle.ut_case.specs.Needs.{needed_facts}
use Rattle.ut_case.specs.Numbering.{shared}
use Rattle.ut_case.specs.Problem.{Basis, OfTree, Problem}
use Rattle.ut_case.specs.Questions.{Question}
use Rattle.ut_case.specs.StartFormulas.{free_start_of, scope_of, undeclared_in}
use Rattle.case_laws.proofs.Basics.{item_layer, same_number}
use Rattle.case_laws.proofs.ItemKinds.{IsFreeStart, ItemIs}
use Rattle.case_laws.proofs.OneList.{contains_in, in_any}
use Rattle.case_laws.proofs.OwnListed.{mode_m, mode_y, own_m, own_y, same_tree}
use Rattle.case_laws.proofs.TreeNodes.{of_tree, tree_there}

-- ---- lists

contains_item : (xs : List Item) (i : Item) → is_in xs i ≡ true → Contains xs i
contains_item xs i h = contains_in xs i (in_any (λ x. item_eq x i) i (λ x e. (item_eq-Decides x i).0 e) ((item_eq-Decides i i).1 refl) xs h)

-- ---- states

pub defined_back : (d t : Bool) → is_defined (state_of d t) ≡ d
defined_back true true = refl
defined_back true false = refl
defined_back false t = refl

pub true_back : (d t : Bool) → (t ≡ true → d ≡ true) → is_true (state_of d t) ≡ t
true_back true true h = refl
true_back true false h = refl
true_back false true h = absurd (false≢true (h refl))
true_back false false h = refl

-- ---- a free start

free_is : (file n : ℕ) → is_free file n (free_start_of file n) ≡ true
free_is file n = ap (is_free_at file n) (item_layer (item.StartD file n)) ∙ (λ i. same_number file i && same_number n i)

one_true : (b : Bool) → (b && true) ≡ true → b ≡ true
one_true true h = refl
one_true false h = h

implied : (t d : Bool) → (not t || (d || false)) ≡ true → t ≡ true → d ≡ true
implied true true h e = refl
implied true false h e = h
implied false d h e = absurd (false≢true e)

-- a macro that starts free is not true without being defined
pub free_defined : (p : Problem) (q : Question) (nodes : List Node) (v : Item → Bool) → MeetsAll v (needed_facts p q nodes) → (file n : ℕ) → IsFreeStart p q nodes file n → v (item.StartT file n) ≡ true → v (item.StartD file n) ≡ true
free_defined p q nodes v met file n start on = implied (v (item.StartT file n)) (v (item.StartD file n)) said on
  where
    start_d : Formula
    start_d = Is (item.StartD file n)

    start_t : Formula
    start_t = Is (item.StartT file n)

    held : all_true (truths v (cond true (any_of (not_of (Is (item.StartT file n)) ∷ Is (item.StartD file n) ∷ []) ∷ []) [])) ≡ true
    held = subst (λ (b : Bool). all_true (truths v (cond b (any_of (not_of (Is (item.StartT file n)) ∷ Is (item.StartD file n) ∷ []) ∷ []) [])) ≡ true) (free_is file n) (start.fact.meets v met).held

    said : (not (v (item.StartT file n)) || (v (item.StartD file n) || false)) ≡ true
    said = (λ i. sym (truth-not_of v (Is (item.StartT file n)) ∙ ap not (truth-Is v (item.StartT file n))) i || (sym (truth-Is v (item.StartD file n)) i || false))
        ∙ (sym (truth-any_of v (not_of (Is (item.StartT file n)) ∷ Is (item.StartD file n) ∷ [])) ∙ one_true (truth v (any_of (not_of (Is (item.StartT file n)) ∷ Is (item.StartD file n) ∷ []))) held)

-- ---- cases

-- an item that an environment has
abbrev pub is_of_environment : Item → Bool
is_of_environment (item.SymY k) = false
is_of_environment (item.SymM k) = false
is_of_environment (item.Undeclared k) = false
is_of_environment (item.ModeY k) = false
is_of_environment (item.ModeM k) = false
is_of_environment (item.Outer k) = false
is_of_environment (item.Same k j) = false
is_of_environment (item.Below k j) = false
is_of_environment (item.StartD file n) = true
is_of_environment (item.StartT file n) = true
is_of_environment (item.Truth file n) = true
is_of_environment (item.Piece file k) = true
is_of_environment (item.Line file k) = true
is_of_environment (item.Block file k) = false
is_of_environment (item.StateD file n turn) = false
is_of_environment (item.StateT file n turn) = false

-- a case that has these truths on the items that are free in the basis, and in its environment
pub record IsMadeOf (p : Problem) (q : Question) (nodes : List Node) (v : Item → Bool) (x : Case) : Type 0 where
  pub first : (k : ℕ) → ItemIs p q nodes p.basis (item.SymY k) → (x.configuration.value k == 2) ≡ v (item.SymY k)
  pub second : (k : ℕ) → ItemIs p q nodes p.basis (item.SymM k) → (x.configuration.value k == 1) ≡ v (item.SymM k)
  pub mode : (k : ℕ) → ItemIs p q nodes p.basis (item.ModeY k) → (x.configuration.mode k == 2) ≡ v (item.ModeY k)
  pub middle : (k : ℕ) → ItemIs p q nodes p.basis (item.ModeM k) → (x.configuration.mode k == 1) ≡ v (item.ModeM k)
  pub undeclared : (k : ℕ) → ItemIs p q nodes p.basis (item.Undeclared k) → x.configuration.undeclared (slice_index_or p.undeclared k []) ≡ v (item.Undeclared k)
  pub outers : (k : ℕ) → x.configuration.outer k ≡ v (item.Outer k)
  pub environment : (i : Item) → is_of_environment i ≡ true → x.environment i ≡ v i

-- has them on all free items
pub free_same : (p : Problem) (q : Question) (nodes : List Node) (v : Item → Bool) (x : Case) → MeetsAll v (needed_facts p q nodes) → IsMadeOf p q nodes v x
    → (i : Item) → ItemIs p q nodes p.basis i → is_of_source (owner i) ≡ false → item_truth p q.family x i ≡ v i
free_same p q nodes v x met made (item.SymY k) h o = made.first k h
free_same p q nodes v x met made (item.SymM k) h o = made.second k h
free_same p q nodes v x met made (item.Undeclared k) h o = made.undeclared k h
free_same p q nodes v x met made (item.ModeY k) h o = made.mode k h
free_same p q nodes v x met made (item.ModeM k) h o = made.middle k h
free_same p q nodes v x met made (item.Outer k) h o = made.outers k
free_same p q nodes v x met made (item.Same k j) h o = absurd h
free_same p q nodes v x met made (item.Below k j) h o = absurd h
free_same p q nodes v x met made (item.StartD file n) h o = defined_back (x.environment (item.StartD file n)) (x.environment (item.StartT file n)) ∙ made.environment (item.StartD file n) refl
free_same p q nodes v x met made (item.StartT file n) h o = true_back (x.environment (item.StartD file n)) (x.environment (item.StartT file n))
    (λ e. made.environment (item.StartD file n) refl ∙ free_defined p q nodes v met file n h (sym (made.environment (item.StartT file n) refl) ∙ e)) ∙ made.environment (item.StartT file n) refl
free_same p q nodes v x met made (item.Truth file n) h o = made.environment (item.Truth file n) refl
free_same p q nodes v x met made (item.Piece file n) h o = made.environment (item.Piece file n) refl
free_same p q nodes v x met made (item.Line file n) h o = made.environment (item.Line file n) refl
free_same p q nodes v x met made (item.Block file n) h o = absurd (false≢true (sym o))
free_same p q nodes v x met made (item.StateD file n turn) h o = absurd (false≢true (sym o))
free_same p q nodes v x met made (item.StateT file n turn) h o = absurd (false≢true (sym o))

-- ---- over a tree

-- a configuration that is the same as what is read off the truths, on the needed nodes
pub record IsReadOn (s : Scope) (nodes : List Node) (v : Item → Bool) (e : Configuration) : Type 0 where
  pub values : (k : ℕ) → Contains nodes (node.Sym k) → e.value k ≡ (read_off s v).value k
  pub modes : (i : ℕ) → Contains nodes (node.Choice i) → e.mode i ≡ (read_off s v).mode i
  pub outers : (k : ℕ) → e.outer k ≡ v (item.Outer k)
  pub undeclared : (name : List ℕ) → e.undeclared name ≡ (read_off s v).undeclared name

module _ (p : Problem) (q : Question) (t : Shape) (is : p.basis ≡ OfTree t) (nodes : List Node) (v : Item → Bool) (stands : StandsFor (scope_of (shared p) q.family t) (of_tree nodes) v (read_off (scope_of (shared p) q.family t) v))
    (e : Configuration) (read : IsReadOn (scope_of (shared p) q.family t) nodes v e) where
  abbrev s : Scope
  s = scope_of (shared p) q.family t

  abbrev c : Configuration
  c = read_off (scope_of (shared p) q.family t) v

  at_node : (n : Node) → Contains (of_tree nodes) n → (i : Item) → is_in (items_of s n) i ≡ true → truths_of s c i ≡ v i
  at_node n there i m = sym (All-contains (λ (j : Item). v j ≡ truths_of s c j) (items_of s n) i (stands.items n there) (contains_item (items_of s n) i m))

  first_is : (k : ℕ) → ItemIs p q nodes (OfTree t) (item.SymY k) → (e.value k == 2) ≡ v (item.SymY k)
  first_is k h = ap (λ (n : ℕ). n == 2) (read.values k h.0) ∙ at_node (node.Sym k) (tree_there nodes (node.Sym k) refl h.0) (item.SymY k) (own_y (counts_as t k) k h.1)

  second_is : (k : ℕ) → ItemIs p q nodes (OfTree t) (item.SymM k) → (e.value k == 1) ≡ v (item.SymM k)
  second_is k h = ap (λ (n : ℕ). n == 1) (read.values k h.0) ∙ at_node (node.Sym k) (tree_there nodes (node.Sym k) refl h.0) (item.SymM k) (own_m (counts_as t k) k h.1)

  mode_is : (k : ℕ) → ItemIs p q nodes (OfTree t) (item.ModeY k) → (e.mode k == 2) ≡ v (item.ModeY k)
  mode_is k h = ap (λ (n : ℕ). n == 2) (read.modes k h.0) ∙ at_node (node.Choice k) (tree_there nodes (node.Choice k) refl h.0) (item.ModeY k) (mode_y (choice_counts t k) k)

  middle_is : (k : ℕ) → ItemIs p q nodes (OfTree t) (item.ModeM k) → (e.mode k == 1) ≡ v (item.ModeM k)
  middle_is k h = ap (λ (n : ℕ). n == 1) (read.modes k h.0) ∙ at_node (node.Choice k) (tree_there nodes (node.Choice k) refl h.0) (item.ModeM k)
      (mode_m (choice_counts t k) k (ap (λ (u : Shape). choice_counts u k) (same_tree t h.1.0 h.1.1) ∙ h.1.2))

  same_name : (f : Family) (k : ℕ) → k < length (undeclared_in (shared p) f) → slice_index_or p.undeclared k [] ≡ slice_index_or (undeclared_in (shared p) f) k []
  same_name family.Code k lt = absurd (omega (arith, lt))
  same_name family.Kconfig k lt = refl
  same_name family.Whole k lt = absurd (omega (arith, lt))

  undeclared_is : (k : ℕ) → k < length (undeclared_in (shared p) q.family) → e.undeclared (slice_index_or p.undeclared k []) ≡ v (item.Undeclared k)
  undeclared_is k lt = ap e.undeclared (same_name q.family k lt) ∙ (read.undeclared (slice_index_or s.undeclared k []) ∙ sym (stands.undeclared k lt))

  abbrev In : Item → Type 0
  In i = ItemIs p q nodes p.basis i

  here : (i : Item) → ItemIs p q nodes p.basis i → ItemIs p q nodes (OfTree t) i
  here i h = subst (λ (b : Basis). ItemIs p q nodes b i) is h

  pub made_of : (environment : Item → Bool) → ((i : Item) → is_of_environment i ≡ true → environment i ≡ v i) → IsMadeOf p q nodes v (record { configuration = e; environment = environment })
  made_of environment same = record {
    first = λ k h. first_is k (here (item.SymY k) h);
    second = λ k h. second_is k (here (item.SymM k) h);
    mode = λ k h. mode_is k (here (item.ModeY k) h);
    middle = λ k h. middle_is k (here (item.ModeM k) h);
    undeclared = undeclared_is;
    outers = read.outers;
    environment = same;
  }
