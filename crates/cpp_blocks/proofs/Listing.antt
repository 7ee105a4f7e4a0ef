-- Facts list what they mention.
use Rattle.std.proofs.Common.{◌≡◌, ◌⊎◌, inl, inr, ℕ, ◌+◌, zero, suc, Bool, true, false, ◌||◌, cond, List, [], ◌∷◌, ◌++◌, map, filter, slice_get, Some, None, refl, sym, ap, ◌∙◌, subst, arith, append_assoc}
use Rattle.std.specs.Prelude.{Contains}
use Rattle.std.specs.List.{list_any, flat_map}
use Rattle.std.specs.Cmp.{eq_by_cmp_equiv}
use Rattle.std.proofs.lemmas.Bool.{false≢true}
use Rattle.std.proofs.lemmas.List.Folds.{list_any-append}
use Rattle.ut_logic.specs.declared.item.Item.{Item}
use Rattle.ut_logic.specs.declared.item.Item.TheVariants as item
use Rattle.ut_logic.specs.declared.node.Node.{Node}
use Rattle.ut_logic.specs.declared.node.Node.TheVariants as node
use Rattle.ut_logic.specs.declared.facts.Definition.{Definition}
use Rattle.ut_logic.specs.declared.formula.Formula.{Formula}
use Rattle.ut_logic.specs.declared.formula.Formula.TheVariants.{Yes, No, Is}
use Rattle.ut_logic.specs.Assign.{is_in}
use Rattle.ut_logic.specs.Fold.{not_of, all_of, any_of}
use Rattle.ut_logic.specs.Item.{item_eq, item_total}
use Rattle.ut_logic.specs.ItemIdentity.{item_eq-Decides}
use Rattle.ut_logic.specs.Node.{node_eq, node_total}
use Rattle.ut_logic.specs.Owners.{owner}
use Rattle.ut_logic.specs.Truth.{mentioned, together}
use Rattle.ut_logic.proofs.MentionLaws.{mentioned-Yes, mentioned-No, mentioned-Is, mentioned-all_of, mentioned-any_of, mentioned-not_of}
use Rattle.cpp_directives.specs.declared.condition.Cond.{Cond}
use Rattle.cpp_directives.specs.declared.condition.Cond.TheOpen.{Cond-F}
use Rattle.cpp_directives.specs.declared.condition.Cond.TheFolds.{fold-roll-Cond, ind-Cond, map-Cond}
use Rattle.cpp_directives.specs.declared.condition.Cond.TheViews.{roll-Cond}
use Rattle.cpp_directives.specs.declared.directive.Directive.{Directive}
use Rattle.cpp_directives.specs.declared.directive.Gives.{Gives}
use Rattle.cpp_directives.specs.declared.directive.Gives.TheVariants.{Zero, Nonzero, Free}
use Rattle.cpp_directives.specs.declared.directive.What.{What}
use Rattle.cpp_directives.specs.declared.directive.What.TheVariants.{If, Elif, Else, Endif, Define, Undef}
use Rattle.cpp_blocks.specs.declared.groups.OpenGroups.{OpenGroups}
use Rattle.cpp_blocks.specs.declared.starts.StartOf.{StartOf}
use Rattle.cpp_blocks.specs.declared.starts.BuiltOf.{BuiltOf}
use Rattle.cpp_blocks.specs.Facts.{file_fact, start_fact, start_holds, is_free, is_block, states_from, at_first, facts_of}
use Rattle.cpp_blocks.specs.Formulas.{Source, source_of, Turn, turns_after, piece_in, defined_item, true_item, state_node, formula_step, formula_of, states_in}
use Rattle.cpp_blocks.specs.Mentions.{names_step, names_in}
use Rattle.cpp_blocks.specs.Nodes.{IsListedBy, mentioned_in, IsListed, IsListedStart, IsListedBuilt}
use Rattle.cpp_blocks.specs.Steps.{Standing, current, is_piece, group_formula, group_fact, next_group, given_truth, given_items, state_fact, define_fact, undef_fact, fact_at, facts_along, after}
use Rattle.cpp_blocks.specs.Turns.{touched_at}
use Rattle.cpp_blocks.proofs.Along.{each_front, each_back, each_both}
use Rattle.cpp_blocks.proofs.Meeting.{Each}
use Rattle.cpp_blocks.proofs.Sorted.{states_all, blocks_all}

-- ---- members

pub same_item : (i : Item) → item_eq i i ≡ true
same_item i = (eq_by_cmp_equiv item_total).refl i

pub same_node : (n : Node) → node_eq n n ≡ true
same_node n = (eq_by_cmp_equiv node_total).refl n

or_left : (a b : Bool) → a ≡ true → (a || b) ≡ true
or_left a b h = ap (λ c. c || b) h

or_right : (a b : Bool) → b ≡ true → (a || b) ≡ true
or_right true b h = refl
or_right false b h = h

-- the first member, and one of the others
named_first : (n : Node) (ns : List Node) → list_any (node_eq n) (n ∷ ns) ≡ true
named_first n ns = or_left (node_eq n n) (list_any (node_eq n) ns) (same_node n)

named_later : (n m : Node) (ns : List Node) → list_any (node_eq n) ns ≡ true → list_any (node_eq n) (m ∷ ns) ≡ true
named_later n m ns h = or_right (node_eq n m) (list_any (node_eq n) ns) h

named_front : (n : Node) (ns ms : List Node) → list_any (node_eq n) ns ≡ true → list_any (node_eq n) (ns ++ ms) ≡ true
named_front n ns ms h = list_any-append (node_eq n) ns ms ∙ or_left (list_any (node_eq n) ns) (list_any (node_eq n) ms) h

named_back : (n : Node) (ns ms : List Node) → list_any (node_eq n) ms ≡ true → list_any (node_eq n) (ns ++ ms) ≡ true
named_back n ns ms h = list_any-append (node_eq n) ns ms ∙ or_right (list_any (node_eq n) ns) (list_any (node_eq n) ms) h

pub in_first : (i : Item) (is : List Item) → is_in (i ∷ is) i ≡ true
in_first i is = or_left (item_eq i i) (is_in is i) (same_item i)

pub in_later : (i j : Item) (is : List Item) → is_in is i ≡ true → is_in (j ∷ is) i ≡ true
in_later i j is h = or_right (item_eq j i) (is_in is i) h

in_filter : (p : Item → Bool) (is : List Item) (i : Item) → p i ≡ true → is_in is i ≡ true → is_in (filter p is) i ≡ true
in_filter p [] i h m = absurd (false≢true m)
in_filter p (x ∷ is) i h m = by (item_eq x i) refl m (in_filter p is i h)
  where
    keep : (b : Bool) → is_in (filter p is) i ≡ true → is_in (cond b (x ∷ filter p is) (filter p is)) i ≡ true
    keep true r = in_later i x (filter p is) r
    keep false r = r

    by : (b : Bool) → item_eq x i ≡ b → (b || is_in is i) ≡ true → (is_in is i ≡ true → is_in (filter p is) i ≡ true) → is_in (cond (p x) (x ∷ filter p is) (filter p is)) i ≡ true
    by true e m f = let same : x ≡ i = (item_eq-Decides x i).0 e in
        ap (λ b. is_in (cond b (x ∷ filter p is) (filter p is)) i) (ap p same ∙ h) ∙ or_left (item_eq x i) (is_in (filter p is) i) e
    by false e m f = keep (p x) (f m)

-- ---- what formulas mention

-- P holds of each item that a formula mentions
abbrev pub Says : (Item → Type 0) → Formula → Type 0
Says P f = (i : Item) → is_in (mentioned f) i ≡ true → P i

pub none_in : (i : Item) → is_in [] i ≡ true → ⊥
none_in i h = false≢true h

pub says_none : (P : Item → Type 0) (f : Formula) → mentioned f ≡ [] → Says P f
says_none P f e i h = absurd (none_in i (sym (ap (λ is. is_in is i) e) ∙ h))

pub says_is : (P : Item → Type 0) (x : Item) → P x → Says P (Is x)
says_is P x p i h = by (item_eq x i) refl (sym (ap (λ is. is_in is i) (mentioned-Is x)) ∙ h)
  where
    by : (b : Bool) → item_eq x i ≡ b → (b || false) ≡ true → P i
    by true e k = subst P ((item_eq-Decides x i).0 e) p
    by false e k = absurd (false≢true k)

says_together : (P : Item → Type 0) (fs : List Formula) → Each (Says P) fs → (i : Item) → is_in (together (map mentioned fs)) i ≡ true → P i
says_together P [] h i m = absurd (none_in i m)
says_together P (f ∷ fs) h i m = by (is_in (mentioned f) i) refl (sym (list_any-append (λ x. item_eq x i) (mentioned f) (together (map mentioned fs))) ∙ m) (says_together P fs h.1 i)
  where
    by : (b : Bool) → is_in (mentioned f) i ≡ b → (b || is_in (together (map mentioned fs)) i) ≡ true → (is_in (together (map mentioned fs)) i ≡ true → P i) → P i
    by true e k rest = h.0 i e
    by false e k rest = rest k

pub says_all : (P : Item → Type 0) (fs : List Formula) → Each (Says P) fs → Says P (all_of fs)
says_all P fs h i m = says_together P fs h i (mentioned-all_of fs i m)

pub says_any : (P : Item → Type 0) (fs : List Formula) → Each (Says P) fs → Says P (any_of fs)
says_any P fs h i m = says_together P fs h i (mentioned-any_of fs i m)

pub says_not : (P : Item → Type 0) (f : Formula) → Says P f → Says P (not_of f)
says_not P f h i m = h i (sym (ap (λ is. is_in is i) (mentioned-not_of f)) ∙ m)

pub says_append : (P : Item → Type 0) (xs ys : List Item) → ((i : Item) → is_in xs i ≡ true → P i) → ((i : Item) → is_in ys i ≡ true → P i) → (i : Item) → is_in (xs ++ ys) i ≡ true → P i
says_append P xs ys f g i m = by (is_in xs i) refl (sym (list_any-append (λ x. item_eq x i) xs ys) ∙ m)
  where
    by : (b : Bool) → is_in xs i ≡ b → (b || is_in ys i) ≡ true → P i
    by true e k = f i e
    by false e k = g i k

-- ---- conditions

module _ (src : Source) (turn : Turn) (P : Item → Type 0) (pieces : (text : List ℕ) → P (item.Piece src.file (piece_in src text (turn.piece text)))) where
  -- both items of a name's state
  abbrev Both : List ℕ → Type 0
  Both name = P (defined_item src name (turn.name name)) × P (true_item src name (turn.name name))

  each : (ps : List ((c : Cond) × (Each Both (names_in c) → Says P (formula_of src turn c)))) → Each Both (flat_map (λ names. names) (map names_in (map (λ p. p.0) ps)))
      → Each (Says P) (map (formula_of src turn) (map (λ p. p.0) ps))
  each [] k = tt
  each (p ∷ ps) k = let rest : List (List ℕ) = flat_map (λ names. names) (map names_in (map (λ p. p.0) ps)) in
      (p.1 (each_front Both (names_in p.0) rest k), each ps (each_back Both (names_in p.0) rest k))

  constant : (b : Bool) → Says P (formula_step src turn (Cond-F.Const b))
  constant true = says_none P Yes mentioned-Yes
  constant false = says_none P No mentioned-No

  one_layer : (y : Cond-F ((c : Cond) × (Each Both (names_in c) → Says P (formula_of src turn c))))
      → Each Both (names_step (map-Cond Cond (List (List ℕ)) names_in (map-Cond _ Cond (λ p. p.0) y)))
      → Says P (formula_step src turn (map-Cond Cond Formula (formula_of src turn) (map-Cond _ Cond (λ p. p.0) y)))
  one_layer (Cond-F.Const b) k = constant b
  one_layer (Cond-F.Defined name) k = says_is P (defined_item src name (turn.name name)) k.0.0
  one_layer (Cond-F.Plain name) k = says_is P (true_item src name (turn.name name)) k.0.1
  one_layer (Cond-F.Piece text) k = says_is P (item.Piece src.file (piece_in src text (turn.piece text))) (pieces text)
  one_layer (Cond-F.Neg p) k = says_not P (formula_of src turn p.0) (p.1 k)
  one_layer (Cond-F.AllOf ps) k = says_all P (map (formula_of src turn) (map (λ p. p.0) ps)) (each ps k)
  one_layer (Cond-F.AnyOf ps) k = says_any P (map (formula_of src turn) (map (λ p. p.0) ps)) (each ps k)

  rolled : (x : Cond-F Cond) → (Each Both (names_step (map-Cond Cond (List (List ℕ)) names_in x)) → Says P (formula_step src turn (map-Cond Cond Formula (formula_of src turn) x)))
      → Each Both (names_in (roll-Cond x)) → Says P (formula_of src turn (roll-Cond x))
  rolled x h k = subst (Says P) (sym (fold-roll-Cond Formula (formula_step src turn) x)) (h (subst (Each Both) (fold-roll-Cond (List (List ℕ)) names_step x) k))

  says_cond : (c : Cond) → Each Both (names_in c) → Says P (formula_of src turn c)
  says_cond = ind-Cond (λ c. Each Both (names_in c) → Says P (formula_of src turn c))
      (λ x y is. rolled x (subst (λ (z : Cond-F Cond). Each Both (names_step (map-Cond Cond (List (List ℕ)) names_in z)) → Says P (formula_step src turn (map-Cond Cond Formula (formula_of src turn) z))) is (one_layer y)))

-- ---- blocks

-- an item of a block's formula: a piece, or an item of a node that is named
abbrev IsOfBlock : List Node → Item → Type 0
IsOfBlock names i = (is_piece i ≡ true) ⊎ ((n : Node) × (owner i ≡ Some n) × (list_any (node_eq n) names ≡ true))

piece_owner : (i : Item) → is_piece i ≡ true → owner i ≡ None
piece_owner (item.Piece file piece) h = refl
piece_owner (item.SymY a) h = absurd (false≢true h)
piece_owner (item.SymM a) h = absurd (false≢true h)
piece_owner (item.Undeclared a) h = absurd (false≢true h)
piece_owner (item.ModeY a) h = absurd (false≢true h)
piece_owner (item.ModeM a) h = absurd (false≢true h)
piece_owner (item.Outer a) h = absurd (false≢true h)
piece_owner (item.Same a b) h = absurd (false≢true h)
piece_owner (item.Below a b) h = absurd (false≢true h)
piece_owner (item.StartD a b) h = absurd (false≢true h)
piece_owner (item.StartT a b) h = absurd (false≢true h)
piece_owner (item.Truth a b) h = absurd (false≢true h)
piece_owner (item.Line a b) h = absurd (false≢true h)
piece_owner (item.Block a b) h = absurd (false≢true h)
piece_owner (item.StateD a b c) h = absurd (false≢true h)
piece_owner (item.StateT a b c) h = absurd (false≢true h)

-- the item of a block
own_block : (file block : ℕ) (i : Item) → owner i ≡ Some (node.Block file block) → i ≡ item.Block file block
own_block file block (item.Block f b) h = let e : node.Block f b ≡ node.Block file block = cc in let p : f ≡ file = cc in let q : b ≡ block = cc in λ j. item.Block (p j) (q j)
own_block file block (item.SymY a) h = absurd (cc)
own_block file block (item.SymM a) h = absurd (cc)
own_block file block (item.Undeclared a) h = absurd (cc)
own_block file block (item.ModeY a) h = absurd (cc)
own_block file block (item.ModeM a) h = absurd (cc)
own_block file block (item.Outer a) h = absurd (cc)
own_block file block (item.Same a b) h = absurd (cc)
own_block file block (item.Below a b) h = absurd (cc)
own_block file block (item.StartD a b) h = absurd (cc)
own_block file block (item.StartT a b) h = absurd (cc)
own_block file block (item.Truth a b) h = absurd (cc)
own_block file block (item.Piece a b) h = absurd (cc)
own_block file block (item.Line a b) h = absurd (cc)
own_block file block (item.StateD a b c) h = absurd (cc)
own_block file block (item.StateT a b c) h = absurd (cc)

-- an item of a state is whether it is defined, or whether it is true
own_state : (file name turn : ℕ) (i : Item) → owner i ≡ Some (node.State file name turn) → (i ≡ item.StateD file name turn) ⊎ (i ≡ item.StateT file name turn)
own_state file name turn (item.StateD f n t) h = let e : node.State f n t ≡ node.State file name turn = cc in let p : f ≡ file = cc in let q : n ≡ name = cc in let r : t ≡ turn = cc in inl (λ j. item.StateD (p j) (q j) (r j))
own_state file name turn (item.StateT f n t) h = let e : node.State f n t ≡ node.State file name turn = cc in let p : f ≡ file = cc in let q : n ≡ name = cc in let r : t ≡ turn = cc in inr (λ j. item.StateT (p j) (q j) (r j))
own_state file name turn (item.SymY a) h = absurd (cc)
own_state file name turn (item.SymM a) h = absurd (cc)
own_state file name turn (item.Undeclared a) h = absurd (cc)
own_state file name turn (item.ModeY a) h = absurd (cc)
own_state file name turn (item.ModeM a) h = absurd (cc)
own_state file name turn (item.Outer a) h = absurd (cc)
own_state file name turn (item.Same a b) h = absurd (cc)
own_state file name turn (item.Below a b) h = absurd (cc)
own_state file name turn (item.StartD a b) h = absurd (cc)
own_state file name turn (item.StartT a b) h = absurd (cc)
own_state file name turn (item.Truth a b) h = absurd (cc)
own_state file name turn (item.Piece a b) h = absurd (cc)
own_state file name turn (item.Line a b) h = absurd (cc)
own_state file name turn (item.Block a b) h = absurd (cc)

-- a definition by itself
one_defined : (d : Definition) → Contains (d ∷ []) d
one_defined d = (0, omega arith, refl)

-- the fact of a block lists what its formula mentions
block_listed : (file block : ℕ) (names : List Node) (items : List Item) (formula : Formula) → ((i : Item) → is_in (mentioned formula) i ≡ true → IsListedBy names (item.Block file block ∷ items) i)
    → IsListed (record { node = node.Block file block; holds = []; defines = record { item = item.Block file block; formula = formula } ∷ []; names = names; items = item.Block file block ∷ items })
block_listed file block names items formula h = record {
  own = λ i o. subst (λ x. is_in (item.Block file block ∷ items) x ≡ true) (sym (own_block file block i o)) (in_first (item.Block file block) items);
  defined = λ i o. (record { item = item.Block file block; formula = formula }, one_defined (record { item = item.Block file block; formula = formula }), sym (own_block file block i o));
  mentions = λ i m. says_append (IsListedBy names (item.Block file block ∷ items)) (mentioned formula) [] h (λ x k. absurd (none_in x k)) i m;
}

by_piece : (file block : ℕ) (names : List Node) (formula : Formula) (i : Item) → is_in (mentioned formula) i ≡ true → IsOfBlock names i → IsListedBy names (item.Block file block ∷ filter is_piece (mentioned formula)) i
by_piece file block names formula i m (inl p) = inl (piece_owner i p, in_later i (item.Block file block) (filter is_piece (mentioned formula)) (in_filter is_piece (mentioned formula) i p m))
by_piece file block names formula i m (inr n) = inr n

-- the nodes that the fact of a group names
abbrev group_names : ℕ → ℕ → List ℕ → List Node → List Node
group_names file parent earlier states = node.Block file parent ∷ map (λ group. node.Block file group) earlier ++ states

earlier_said : (file : ℕ) (P : Item → Type 0) (earlier : List ℕ) (cond : Formula) → Each (λ g. P (item.Block file g)) earlier → Says P cond → Each (Says P) (map (λ group. not_of (Is (item.Block file group))) earlier ++ cond ∷ [])
earlier_said file P [] cond h s = (s, tt)
earlier_said file P (g ∷ gs) cond h s = (says_not P (Is (item.Block file g)) (says_is P (item.Block file g) h.0), earlier_said file P gs cond h.1 s)

earlier_named : (file : ℕ) (front : List Node) (earlier : List ℕ) (states : List Node) → Each (λ g. IsOfBlock (front ++ map (λ group. node.Block file group) earlier ++ states) (item.Block file g)) earlier
earlier_named file front [] states = tt
earlier_named file front (g ∷ gs) states = (
  inr (
    node.Block file g,
    refl,
    named_front (node.Block file g) (front ++ node.Block file g ∷ map (λ group. node.Block file group) gs) states
        (named_back (node.Block file g) front (node.Block file g ∷ map (λ group. node.Block file group) gs) (named_first (node.Block file g) (map (λ group. node.Block file group) gs))),
  ),
  more gs (earlier_named file (front ++ node.Block file g ∷ []) gs states),
)
  where
    more : (hs : List ℕ) → Each (λ h. IsOfBlock ((front ++ node.Block file g ∷ []) ++ map (λ group. node.Block file group) gs ++ states) (item.Block file h)) hs
        → Each (λ h. IsOfBlock (front ++ node.Block file g ∷ map (λ group. node.Block file group) gs ++ states) (item.Block file h)) hs
    more hs e = subst (λ (ns : List Node). Each (λ h. IsOfBlock (ns ++ states) (item.Block file h)) hs) (append_assoc front (node.Block file g ∷ []) (map (λ group. node.Block file group) gs)) e

-- the fact of a group is listed, where its condition mentions pieces and items of these states
group_listed : (file block parent : ℕ) (earlier : List ℕ) (states : List Node) (cond : Formula) → Says (IsOfBlock (group_names file parent earlier states)) cond → IsListed (group_fact file block parent earlier states cond)
group_listed file block parent earlier states cond s = block_listed file block (group_names file parent earlier states) (filter is_piece (mentioned (group_formula file parent earlier cond))) (group_formula file parent earlier cond)
    (λ i m. by_piece file block (group_names file parent earlier states) (group_formula file parent earlier cond) i m
    (says_all (IsOfBlock (group_names file parent earlier states)) (Is (item.Block file parent) ∷ map (λ group. not_of (Is (item.Block file group))) earlier ++ cond ∷ []) (
      says_is (IsOfBlock (group_names file parent earlier states)) (item.Block file parent) (inr (node.Block file parent, refl, named_first (node.Block file parent) (map (λ group. node.Block file group) earlier ++ states))),
      earlier_said file (IsOfBlock (group_names file parent earlier states)) earlier cond (earlier_named file (node.Block file parent ∷ []) earlier states) s,
    ) i m))

states_named : (src : Source) (turn : Turn) (front : List Node) (names : List (List ℕ))
    → Each (λ name. IsOfBlock (front ++ map (λ x. state_node src x (turn.name x)) names) (defined_item src name (turn.name name)) × IsOfBlock (front ++ map (λ x. state_node src x (turn.name x)) names) (true_item src name (turn.name name))) names
states_named src turn front [] = tt
states_named src turn front (x ∷ xs) = ((inr (state_node src x (turn.name x), refl, here), inr (state_node src x (turn.name x), refl, here)), more xs (states_named src turn (front ++ state_node src x (turn.name x) ∷ []) xs))
  where
    here : list_any (node_eq (state_node src x (turn.name x))) (front ++ state_node src x (turn.name x) ∷ map (λ x. state_node src x (turn.name x)) xs) ≡ true
    here = named_back (state_node src x (turn.name x)) front (state_node src x (turn.name x) ∷ map (λ x. state_node src x (turn.name x)) xs) (named_first (state_node src x (turn.name x)) (map (λ x. state_node src x (turn.name x)) xs))

    more : (ns : List (List ℕ)) → Each (λ name. IsOfBlock ((front ++ state_node src x (turn.name x) ∷ []) ++ map (λ x. state_node src x (turn.name x)) xs) (defined_item src name (turn.name name)) × IsOfBlock ((front ++ state_node src x (turn.name x) ∷ []) ++ map (λ x. state_node src x (turn.name x)) xs) (true_item src name (turn.name name))) ns
        → Each (λ name. IsOfBlock (front ++ state_node src x (turn.name x) ∷ map (λ x. state_node src x (turn.name x)) xs) (defined_item src name (turn.name name)) × IsOfBlock (front ++ state_node src x (turn.name x) ∷ map (λ x. state_node src x (turn.name x)) xs) (true_item src name (turn.name name))) ns
    more ns e = subst (λ (all : List Node). Each (λ name. IsOfBlock all (defined_item src name (turn.name name)) × IsOfBlock all (true_item src name (turn.name name))) ns) (append_assoc front (state_node src x (turn.name x) ∷ []) (map (λ x. state_node src x (turn.name x)) xs)) e

-- the condition of a group mentions pieces and items of its states
cond_listed : (src : Source) (turn : Turn) (front : List Node) (c : Cond) → Says (IsOfBlock (front ++ states_in src turn c)) (formula_of src turn c)
cond_listed src turn front c = says_cond src turn (IsOfBlock (front ++ states_in src turn c)) (λ text. inl refl) c (states_named src turn front (names_in c))

next_listed : (src : Source) (next : ℕ) (cs : List OpenGroups) (states : List Node) (cond : Formula) → ((front : List Node) → Says (IsOfBlock (front ++ states)) cond) → Each IsListed (next_group src.file next cs states cond)
next_listed src next [] states cond s = tt
next_listed src next (c ∷ cs) states cond s = (group_listed src.file next c.parent (c.earlier ++ c.current ∷ []) states cond (s (node.Block src.file c.parent ∷ map (λ group. node.Block src.file group) (c.earlier ++ c.current ∷ []))), tt)

-- ---- macro lines

module _ (src : Source) (name : List ℕ) (turn block : ℕ) (items : List Item) where
  -- the nodes that the fact of a macro line names, and the items that it lists
  abbrev line_names : List Node
  line_names = state_node src name turn ∷ node.Block src.file block ∷ []

  abbrev line_items : List Item
  line_items = defined_item src name (suc turn) ∷ true_item src name (suc turn) ∷ items

  state_listed : (d t : Formula) → Says (IsListedBy line_names line_items) d → Says (IsListedBy line_names line_items) t → IsListed (state_fact src name turn block d t items)
  state_listed d t f g = record {
    own = λ i o. owned i (own_state _ _ _ i o);
    defined = λ i o. defines i (own_state _ _ _ i o);
    mentions = λ i m. says_append (IsListedBy line_names line_items) (mentioned d) (mentioned t ++ []) f (says_append (IsListedBy line_names line_items) (mentioned t) [] g (λ x k. absurd (none_in x k))) i m;
  }
    where
      owned : (i : Item) → (i ≡ defined_item src name (suc turn)) ⊎ (i ≡ true_item src name (suc turn)) → is_in line_items i ≡ true
      owned i (inl e) = subst (λ x. is_in line_items x ≡ true) (sym e) (in_first (defined_item src name (suc turn)) (true_item src name (suc turn) ∷ items))
      owned i (inr e) = subst (λ x. is_in line_items x ≡ true) (sym e) (in_later (true_item src name (suc turn)) (defined_item src name (suc turn)) (true_item src name (suc turn) ∷ items) (in_first (true_item src name (suc turn)) items))

      defines : (i : Item) → (i ≡ defined_item src name (suc turn)) ⊎ (i ≡ true_item src name (suc turn))
          → (x : Definition) × Contains (record { item = defined_item src name (suc turn); formula = d } ∷ record { item = true_item src name (suc turn); formula = t } ∷ []) x × (x.item ≡ i)
      defines i (inl e) = (record { item = defined_item src name (suc turn); formula = d }, (0, omega arith, refl), sym e)
      defines i (inr e) = (record { item = true_item src name (suc turn); formula = t }, (1, omega arith, refl), sym e)

  on_block : Says (IsListedBy line_names line_items) (Is (item.Block src.file block))
  on_block = says_is (IsListedBy line_names line_items) (item.Block src.file block) (inr (node.Block src.file block, refl, named_later (node.Block src.file block) (state_node src name turn) (node.Block src.file block ∷ []) (named_first (node.Block src.file block) [])))

  off_block : Says (IsListedBy line_names line_items) (not_of (Is (item.Block src.file block)))
  off_block = says_not (IsListedBy line_names line_items) (Is (item.Block src.file block)) on_block

  defined_before : Says (IsListedBy line_names line_items) (Is (defined_item src name turn))
  defined_before = says_is (IsListedBy line_names line_items) (defined_item src name turn) (inr (state_node src name turn, refl, named_first (state_node src name turn) (node.Block src.file block ∷ [])))

  true_before : Says (IsListedBy line_names line_items) (Is (true_item src name turn))
  true_before = says_is (IsListedBy line_names line_items) (true_item src name turn) (inr (state_node src name turn, refl, named_first (state_node src name turn) (node.Block src.file block ∷ [])))

given_listed : (src : Source) (name : List ℕ) (turn block line : ℕ) (gives : Gives) → Says (IsListedBy (line_names src name turn block []) (line_items src name turn block (given_items src.file line gives))) (given_truth src.file line gives)
given_listed src name turn block line Zero = says_none _ No mentioned-No
given_listed src name turn block line Nonzero = says_none _ Yes mentioned-Yes
given_listed src name turn block line Free = says_is (IsListedBy (line_names src name turn block []) (line_items src name turn block (item.Line src.file line ∷ []))) (item.Line src.file line)
    (inl (refl, in_later (item.Line src.file line) (defined_item src name (suc turn)) (true_item src name (suc turn) ∷ item.Line src.file line ∷ []) (in_later (item.Line src.file line) (true_item src name (suc turn)) (item.Line src.file line ∷ []) (in_first (item.Line src.file line) []))))

define_listed : (src : Source) (name : List ℕ) (turn block line : ℕ) (gives : Gives) → IsListed (define_fact src name turn block line gives)
define_listed src name turn block line gives =
    let items = given_items src.file line gives in
    let P = IsListedBy (line_names src name turn block items) (line_items src name turn block items) in
    let on = on_block src name turn block items in
    state_listed src name turn block items _ _
    (says_any P (Is (item.Block src.file block) ∷ Is (defined_item src name turn) ∷ []) (on, (defined_before src name turn block items, tt)))
    (says_any P (all_of (Is (item.Block src.file block) ∷ given_truth src.file line gives ∷ []) ∷ all_of (not_of (Is (item.Block src.file block)) ∷ Is (true_item src name turn) ∷ []) ∷ []) (
      says_all P (Is (item.Block src.file block) ∷ given_truth src.file line gives ∷ []) (on, (given_listed src name turn block line gives, tt)),
      (says_all P (not_of (Is (item.Block src.file block)) ∷ Is (true_item src name turn) ∷ []) (off_block src name turn block items, (true_before src name turn block items, tt)), tt),
    ))

undef_listed : (src : Source) (name : List ℕ) (turn block : ℕ) → IsListed (undef_fact src name turn block)
undef_listed src name turn block =
    let P = IsListedBy (line_names src name turn block []) (line_items src name turn block []) in
    state_listed src name turn block [] _ _
    (says_all P (not_of (Is (item.Block src.file block)) ∷ Is (defined_item src name turn) ∷ []) (off_block src name turn block [], (defined_before src name turn block [], tt)))
    (says_all P (not_of (Is (item.Block src.file block)) ∷ Is (true_item src name turn) ∷ []) (off_block src name turn block [], (true_before src name turn block [], tt)))

-- ---- directives

fact_listed : (src : Source) (touched : List (List ℕ)) (at : Standing) (line : ℕ) (w : What) → Each IsListed (fact_at src (turns_after touched) at line w)
fact_listed src touched at line (If c) = (group_listed src.file at.next (current at.chains) [] (states_in src (turns_after touched) c) (formula_of src (turns_after touched) c) (cond_listed src (turns_after touched) (node.Block src.file (current at.chains) ∷ []) c), tt)
fact_listed src touched at line (Elif c) = next_listed src at.next at.chains (states_in src (turns_after touched) c) (formula_of src (turns_after touched) c) (λ front. cond_listed src (turns_after touched) front c)
fact_listed src touched at line Else = next_listed src at.next at.chains [] Yes (λ front. says_none _ Yes mentioned-Yes)
fact_listed src touched at line Endif = tt
fact_listed src touched at line (Define x gives) = (define_listed src x _ _ line gives, tt)
fact_listed src touched at line (Undef x) = (undef_listed src x _ _, tt)

lines_listed : (src : Source) (ds : List Directive) (touched : List (List ℕ)) (at : Standing) → Each IsListed (facts_along src touched at ds)
lines_listed src [] touched at = tt
lines_listed src (d ∷ ds) touched at = each_both IsListed (fact_at src (turns_after touched) at d.line d.what) (facts_along src (touched ++ touched_at d.what) (after at d.what) ds)
    (fact_listed src touched at d.line d.what) (lines_listed src ds (touched ++ touched_at d.what) (after at d.what))

-- ---- starts

later_listed : (names : List Node) (items : List Item) (x i : Item) → IsListedBy names items i → IsListedBy names (x ∷ items) i
later_listed names items x i (inl m) = inl (m.0, in_later i x items m.1)
later_listed names items x i (inr n) = inr n

file_listed : (file : ℕ) (built : BuiltOf) → IsListedBuilt built → IsListed (file_fact file built)
file_listed file built l = block_listed file 0 built.names built.items built.formula (λ i m. later_listed built.names built.items (item.Block file 0) i (l.formula i m))

start_listed : (file k : ℕ) (s : StartOf) → IsListedStart s → IsListed (start_fact file k s)
start_listed file k s l = record {
  own = λ i o. owned i (own_state file k 0 i o);
  defined = λ i o. defines i (own_state file k 0 i o);
  mentions = λ i m. says_append (IsListedBy s.names (item.StateD file k 0 ∷ item.StateT file k 0 ∷ s.items)) (mentioned_in (start_holds file k s)) (mentioned s.d ++ (mentioned s.t ++ [])) holds
      (says_append (IsListedBy s.names (item.StateD file k 0 ∷ item.StateT file k 0 ∷ s.items)) (mentioned s.d) (mentioned s.t ++ []) says_d
      (says_append (IsListedBy s.names (item.StateD file k 0 ∷ item.StateT file k 0 ∷ s.items)) (mentioned s.t) [] says_t (λ x h. absurd (none_in x h)))) i m;
}
  where
    two : (i : Item) → IsListedBy s.names s.items i → IsListedBy s.names (item.StateD file k 0 ∷ item.StateT file k 0 ∷ s.items) i
    two i h = later_listed s.names (item.StateT file k 0 ∷ s.items) (item.StateD file k 0) i (later_listed s.names s.items (item.StateT file k 0) i h)

    says_d : Says (IsListedBy s.names (item.StateD file k 0 ∷ item.StateT file k 0 ∷ s.items)) s.d
    says_d i m = two i (l.d i m)

    says_t : Says (IsListedBy s.names (item.StateD file k 0 ∷ item.StateT file k 0 ∷ s.items)) s.t
    says_t i m = two i (l.t i m)

    implied : Says (IsListedBy s.names (item.StateD file k 0 ∷ item.StateT file k 0 ∷ s.items)) (any_of (not_of s.t ∷ s.d ∷ []))
    implied = says_any (IsListedBy s.names (item.StateD file k 0 ∷ item.StateT file k 0 ∷ s.items)) (not_of s.t ∷ s.d ∷ []) (says_not (IsListedBy s.names (item.StateD file k 0 ∷ item.StateT file k 0 ∷ s.items)) s.t says_t, (says_d, tt))

    holds : (i : Item) → is_in (mentioned_in (start_holds file k s)) i ≡ true → IsListedBy s.names (item.StateD file k 0 ∷ item.StateT file k 0 ∷ s.items) i
    holds i = by (is_free file k s)
      where
        by : (b : Bool) → is_in (mentioned_in (cond b (any_of (not_of s.t ∷ s.d ∷ []) ∷ []) [])) i ≡ true → IsListedBy s.names (item.StateD file k 0 ∷ item.StateT file k 0 ∷ s.items) i
        by true m = says_append (IsListedBy s.names (item.StateD file k 0 ∷ item.StateT file k 0 ∷ s.items)) (mentioned (any_of (not_of s.t ∷ s.d ∷ []))) [] implied (λ x h. absurd (none_in x h)) i m
        by false m = absurd (none_in i m)

    owned : (i : Item) → (i ≡ item.StateD file k 0) ⊎ (i ≡ item.StateT file k 0) → is_in (item.StateD file k 0 ∷ item.StateT file k 0 ∷ s.items) i ≡ true
    owned i (inl e) = subst (λ x. is_in (item.StateD file k 0 ∷ item.StateT file k 0 ∷ s.items) x ≡ true) (sym e) (in_first (item.StateD file k 0) (item.StateT file k 0 ∷ s.items))
    owned i (inr e) = subst (λ x. is_in (item.StateD file k 0 ∷ item.StateT file k 0 ∷ s.items) x ≡ true) (sym e) (in_later (item.StateT file k 0) (item.StateD file k 0) (item.StateT file k 0 ∷ s.items) (in_first (item.StateT file k 0) s.items))

    defines : (i : Item) → (i ≡ item.StateD file k 0) ⊎ (i ≡ item.StateT file k 0) → (x : Definition) × Contains (record { item = item.StateD file k 0; formula = s.d } ∷ record { item = item.StateT file k 0; formula = s.t } ∷ []) x × (x.item ≡ i)
    defines i (inl e) = (record { item = item.StateD file k 0; formula = s.d }, (0, omega arith, refl), sym e)
    defines i (inr e) = (record { item = item.StateT file k 0; formula = s.t }, (1, omega arith, refl), sym e)

-- a start at a place is one of them
pub start_member : (ss : List StartOf) → Each IsListedStart ss → (j : ℕ) (s : StartOf) → slice_get ss j ≡ Some s → IsListedStart s
start_member [] h j s e = absurd (cc)
start_member (x ∷ ss) h zero s e = let same : x ≡ s = cc in subst IsListedStart same h.0
start_member (x ∷ ss) h (suc j) s e = start_member ss h.1 j s e

-- each fact of a source is listed
pub all_listed : (file : ℕ) (ds : List Directive) (starts : List StartOf) (built : BuiltOf) → Each IsListedStart starts → IsListedBuilt built → Each IsListed (facts_of file ds starts built)
all_listed file ds starts built ls lb = each_both IsListed (file_fact file built ∷ filter (λ f. is_block f.node) (facts_along (source_of file ds) [] at_first ds)) (states_from file (facts_along (source_of file ds) [] at_first ds) 0 starts)
    (file_listed file built lb, blocks_all IsListed (facts_along (source_of file ds) [] at_first ds) (lines_listed (source_of file ds) ds [] at_first))
    (states_all IsListed file (facts_along (source_of file ds) [] at_first ds) 0 starts (lines_listed (source_of file ds) ds [] at_first)
    (λ j s e. start_listed file (0 + j) s (start_member starts ls j s e)))
