-- What starts and a source's condition mention is listed beside them, or belongs to nodes that they name; and these have facts.
use Rattle.std.proofs.Common.{◌≡◌, Bool, true, false, not, ◌||◌, cond, List, [], ◌∷◌, ◌++◌, map, filter, Option, None, Some, is_some, refl, ap, sym, subst, ◌∙◌, inl, inr}
use Rattle.std.specs.List.{AllByRecursion, flat_map, list_any}
use Rattle.std.specs.Option.{option_to_list}
use Rattle.std.proofs.lemmas.Bool.{false≢true}
use Rattle.std.proofs.lemmas.List.Elements.{All-from_recursion}
use Rattle.std.proofs.lemmas.List.Folds.{list_any-append}
use Rattle.ut_logic.specs.declared.item.Item.{Item}
use Rattle.ut_logic.specs.declared.item.Item.TheVariants as item
use Rattle.ut_logic.specs.declared.node.Node.{Node}
use Rattle.ut_logic.specs.declared.node.Node.TheVariants as node
use Rattle.ut_logic.specs.declared.formula.Formula.{Formula}
use Rattle.ut_logic.specs.Assign.{is_in}
use Rattle.ut_logic.specs.Item.{item_eq}
use Rattle.ut_logic.specs.ItemIdentity.{item_eq-Decides}
use Rattle.ut_logic.specs.Node.{node_eq}
use Rattle.ut_logic.specs.NodeIdentity.{node_eq-Decides}
use Rattle.ut_logic.specs.Owners.{owner}
use Rattle.ut_logic.specs.Truth.{mentioned, together}
use Rattle.kconf_constr.specs.FactsOf.{is_loose, loose_items}
use Rattle.cpp_blocks.specs.Facts.{is_of_run}
use Rattle.cpp_blocks.specs.Nodes.{IsListedBy, IsListedFormula, IsListedStart, IsOfTree}
use Rattle.ut_case.specs.StartFormulas.{Formulas, owners_in, start_of}
use Rattle.case_laws.proofs.Basics.{joined, or_left, or_right}
use Rattle.case_laws.proofs.Said.{Has, Says}

-- ---- items and their owners

-- the owner of an item, as a list
abbrev pub owner_list : Item → List Node
owner_list i = option_to_list (owner i)

-- the owner of one of the items is among their owners
owned : (xs : List Item) (i : Item) (n : Node) → is_in xs i ≡ true → owner i ≡ Some n → list_any (node_eq n) (flat_map owner_list xs) ≡ true
owned [] i n h e = absurd (false≢true h)
owned (x ∷ xs) i n h e = by (item_eq x i) refl h (owned xs i n)
  where
    whole : list_any (node_eq n) (flat_map owner_list (x ∷ xs)) ≡ (list_any (node_eq n) (owner_list x) || list_any (node_eq n) (flat_map owner_list xs))
    whole = list_any-append (node_eq n) (owner_list x) (flat_map owner_list xs)

    by : (b : Bool) → item_eq x i ≡ b → (b || is_in xs i) ≡ true → (is_in xs i ≡ true → owner i ≡ Some n → list_any (node_eq n) (flat_map owner_list xs) ≡ true) → list_any (node_eq n) (flat_map owner_list (x ∷ xs)) ≡ true
    by true g k rest = whole ∙ or_left (list_any (node_eq n) (owner_list x)) (list_any (node_eq n) (flat_map owner_list xs))
        (ap (λ (o : Option Node). list_any (node_eq n) (option_to_list o)) (ap owner ((item_eq-Decides x i).0 g) ∙ e) ∙ or_left (node_eq n n) false ((node_eq-Decides n n).1 refl))
    by false g k rest = whole ∙ or_right (list_any (node_eq n) (owner_list x)) (list_any (node_eq n) (flat_map owner_list xs)) (rest k e)

-- Q holds of an item's owner, if it has one
abbrev pub OfOwner : (Node → Type 0) → Item → Type 0
OfOwner Q i = (n : Node) → owner i ≡ Some n → Q n

one_owner : (Q : Node → Type 0) (o : Option Node) → ((n : Node) → o ≡ Some n → Q n) → AllByRecursion Q (option_to_list o)
one_owner Q None h = tt
one_owner Q (Some n) h = (h n refl, tt)

-- and of all owners, what holds of the owner of each item
owners_pass : (Q : Node → Type 0) (xs : List Item) → Has (OfOwner Q) xs → AllByRecursion Q (flat_map owner_list xs)
owners_pass Q [] h = tt
owners_pass Q (x ∷ xs) h = joined Q (owner_list x) (flat_map owner_list xs) (one_owner Q (owner x) (h x (or_left (item_eq x x) (is_in xs x) ((item_eq-Decides x x).1 refl))))
    (owners_pass Q xs (λ i m. h i (or_right (item_eq x i) (is_in xs i) m)))

-- a loose item stays
loose_stays : (xs : List Item) (i : Item) → is_loose i ≡ true → is_in xs i ≡ true → is_in (filter is_loose xs) i ≡ true
loose_stays [] i l h = h
loose_stays (x ∷ xs) i l h = by (item_eq x i) refl h (loose_stays xs i l)
  where
    keep : (b : Bool) → is_in (filter is_loose xs) i ≡ true → is_in (cond b (x ∷ filter is_loose xs) (filter is_loose xs)) i ≡ true
    keep true r = or_right (item_eq x i) (is_in (filter is_loose xs) i) r
    keep false r = r

    by : (b : Bool) → item_eq x i ≡ b → (b || is_in xs i) ≡ true → (is_in xs i ≡ true → is_in (filter is_loose xs) i ≡ true) → is_in (cond (is_loose x) (x ∷ filter is_loose xs) (filter is_loose xs)) i ≡ true
    by true e m f = ap (λ b. is_in (cond b (x ∷ filter is_loose xs) (filter is_loose xs)) i) (ap is_loose ((item_eq-Decides x i).0 e) ∙ l) ∙ or_left (item_eq x i) (is_in (filter is_loose xs) i) e
    by false e m f = keep (is_loose x) (f m)

-- ---- what stands beside formulas

-- what one of the formulas mentions is listed, or belongs to a node that is named
listed_by : (fs : List Formula) (names : List Node) (i : Item) → is_in (together (map mentioned fs)) i ≡ true → IsListedBy (names ++ owners_in fs) (loose_items fs) i
listed_by fs names i m = by (owner i) refl
  where
    by : (o : Option Node) → owner i ≡ o → IsListedBy (names ++ owners_in fs) (loose_items fs) i
    by None e = inl (e, loose_stays (together (map mentioned fs)) i (ap (λ (o : Option Node). not (is_some o)) e) m)
    by (Some n) e = inr (n, e, list_any-append (node_eq n) names (owners_in fs) ∙ or_right (list_any (node_eq n) names) (list_any (node_eq n) (owners_in fs)) (owned (together (map mentioned fs)) i n m e))

first_there : (f g : Formula) (i : Item) → is_in (mentioned f) i ≡ true → is_in (together (map mentioned (f ∷ g ∷ []))) i ≡ true
first_there f g i m = list_any-append (λ x. item_eq x i) (mentioned f) (together (map mentioned (g ∷ []))) ∙ or_left (is_in (mentioned f) i) (is_in (together (map mentioned (g ∷ []))) i) m

second_there : (f g : Formula) (i : Item) → is_in (mentioned g) i ≡ true → is_in (together (map mentioned (f ∷ g ∷ []))) i ≡ true
second_there f g i m = list_any-append (λ x. item_eq x i) (mentioned f) (together (map mentioned (g ∷ []))) ∙ or_right (is_in (mentioned f) i) (is_in (together (map mentioned (g ∷ []))) i)
    (list_any-append (λ x. item_eq x i) (mentioned g) [] ∙ or_left (is_in (mentioned g) i) (is_in [] i) m)

-- the owner of an item outside the run is a symbol or a choice
tree_owner : (i : Item) → is_of_run i ≡ false → OfOwner IsOfTree i
tree_owner (item.SymY k) off n e = let is : node.Sym k ≡ n = cc in subst IsOfTree is tt
tree_owner (item.SymM k) off n e = let is : node.Sym k ≡ n = cc in subst IsOfTree is tt
tree_owner (item.ModeY k) off n e = let is : node.Choice k ≡ n = cc in subst IsOfTree is tt
tree_owner (item.ModeM k) off n e = let is : node.Choice k ≡ n = cc in subst IsOfTree is tt
tree_owner (item.Same k j) off n e = let is : node.Sym k ≡ n = cc in subst IsOfTree is tt
tree_owner (item.Below k j) off n e = let is : node.Sym k ≡ n = cc in subst IsOfTree is tt
tree_owner (item.Undeclared k) off n e = absurd (cc)
tree_owner (item.Outer k) off n e = absurd (cc)
tree_owner (item.StartD file k) off n e = absurd (cc)
tree_owner (item.StartT file k) off n e = absurd (cc)
tree_owner (item.Truth file k) off n e = absurd (cc)
tree_owner (item.Piece file k) off n e = absurd (cc)
tree_owner (item.Line file k) off n e = absurd (cc)
tree_owner (item.Block file k) off n e = absurd (false≢true (sym off))
tree_owner (item.StateD file k turn) off n e = absurd (false≢true (sym off))
tree_owner (item.StateT file k turn) off n e = absurd (false≢true (sym off))

-- what holds of these nodes, and of the owner of all that the formulas mention
pub named_pass : (Q : Node → Type 0) (fs : List Formula) (names : List Node) → AllByRecursion Q names → ((i : Item) → is_in (together (map mentioned fs)) i ≡ true → OfOwner Q i) → AllByRecursion Q (names ++ owners_in fs)
named_pass Q fs names h g = joined Q names (owners_in fs) h (owners_pass Q (together (map mentioned fs)) g)

-- what holds of each item of both formulas
pub of_both_said : (P : Item → Type 0) (f g : Formula) → Says P f → Says P g → (i : Item) → is_in (together (map mentioned (f ∷ g ∷ []))) i ≡ true → P i
of_both_said P f g h k i m = by (is_in (mentioned f) i) refl (sym (list_any-append (λ x. item_eq x i) (mentioned f) (together (map mentioned (g ∷ [])))) ∙ m)
  where
    second : (b : Bool) → is_in (mentioned g) i ≡ b → (b || false) ≡ true → P i
    second true e r = k i e
    second false e r = absurd (false≢true r)

    by : (b : Bool) → is_in (mentioned f) i ≡ b → (b || is_in (together (map mentioned (g ∷ []))) i) ≡ true → P i
    by true e r = h i e
    by false e r = second (is_in (mentioned g) i) refl (sym (list_any-append (λ x. item_eq x i) (mentioned g) []) ∙ r)

-- a start with its nodes and items, where its formulas stand outside the run
pub start_listed : (f : Formulas) (names : List Node) → AllByRecursion IsOfTree names → Says (λ i. is_of_run i ≡ false) f.d → Says (λ i. is_of_run i ≡ false) f.t → IsListedStart (start_of f names)
start_listed f names tree d t = record {
  nodes = All-from_recursion IsOfTree (names ++ owners_in (f.d ∷ f.t ∷ [])) (named_pass IsOfTree (f.d ∷ f.t ∷ []) names tree
      (λ i m. tree_owner i (of_both_said (λ j. is_of_run j ≡ false) f.d f.t d t i m)));
  d = λ i m. listed_by (f.d ∷ f.t ∷ []) names i (first_there f.d f.t i m);
  t = λ i m. listed_by (f.d ∷ f.t ∷ []) names i (second_there f.d f.t i m);
}

-- one formula
pub of_one_said : (P : Item → Type 0) (f : Formula) → Says P f → (i : Item) → is_in (together (map mentioned (f ∷ []))) i ≡ true → P i
of_one_said P f h i m = by (is_in (mentioned f) i) refl (sym (list_any-append (λ x. item_eq x i) (mentioned f) []) ∙ m)
  where
    by : (b : Bool) → is_in (mentioned f) i ≡ b → (b || false) ≡ true → P i
    by true e r = h i e
    by false e r = absurd (false≢true r)

pub one_listed : (f : Formula) (names : List Node) → IsListedFormula (names ++ owners_in (f ∷ [])) (loose_items (f ∷ [])) f
one_listed f names i m = listed_by (f ∷ []) names i (list_any-append (λ x. item_eq x i) (mentioned f) [] ∙ or_left (is_in (mentioned f) i) (is_in [] i) m)

pub one_named : (f : Formula) (names : List Node) → AllByRecursion IsOfTree names → Says (λ i. is_of_run i ≡ false) f → AllByRecursion IsOfTree (names ++ owners_in (f ∷ []))
one_named f names tree h = named_pass IsOfTree (f ∷ []) names tree (λ i m. tree_owner i (of_one_said (λ j. is_of_run j ≡ false) f h i m))
