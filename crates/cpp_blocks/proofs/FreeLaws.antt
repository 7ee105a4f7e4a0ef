-- The loose items of a source's facts are those that are handed in with the source's condition and with starts, its pieces
-- and its free lines.
use Rattle.std.proofs.Common.{◌≡◌, ℕ, ◌+◌, suc, Bool, true, false, ◌||◌, cond, List, [], ◌∷◌, ◌++◌, map, filter, slice_get, All, Some, refl, ap, sym, subst, ◌⊎◌, inl, inr, arith}
use Rattle.std.specs.List.{Contains, flat_map}
use Rattle.std.proofs.lemmas.Bool.{false≢true}
use Rattle.std.proofs.lemmas.List.Elements.{All-contains_itself}
use Rattle.std.proofs.lemmas.Map.Views.{list_any-from_Contains}
use Rattle.ut_logic.specs.declared.item.Item.{Item}
use Rattle.ut_logic.specs.declared.item.Item.TheVariants as item
use Rattle.ut_logic.specs.declared.node.Node.{Node}
use Rattle.ut_logic.specs.declared.node.Node.TheVariants as node
use Rattle.ut_logic.specs.declared.facts.Fact.{Fact}
use Rattle.ut_logic.specs.declared.formula.Formula.{Formula}
use Rattle.ut_logic.specs.declared.formula.Formula.TheVariants.{Yes, No, Is}
use Rattle.ut_logic.specs.Assign.{is_in}
use Rattle.ut_logic.specs.Fold.{not_of}
use Rattle.ut_logic.specs.Item.{item_eq}
use Rattle.ut_logic.specs.ItemIdentity.{item_eq-Decides}
use Rattle.ut_logic.specs.Owners.{owner}
use Rattle.ut_logic.specs.Truth.{mentioned}
use Rattle.ut_logic.proofs.MentionLaws.{mentioned-Yes, mentioned-No}
use Rattle.cpp_directives.specs.declared.condition.Cond.{Cond}
use Rattle.cpp_directives.specs.declared.condition.Cond.TheOpen.{Cond-F}
use Rattle.cpp_directives.specs.declared.condition.Cond.TheFolds.{fold-roll-Cond, ind-Cond, map-Cond}
use Rattle.cpp_directives.specs.declared.condition.Cond.TheViews.{roll-Cond}
use Rattle.cpp_directives.specs.declared.directive.Directive.{Directive}
use Rattle.cpp_directives.specs.declared.directive.Gives.{Gives}
use Rattle.cpp_directives.specs.declared.directive.Gives.TheVariants.{Zero, Nonzero, Free}
use Rattle.cpp_directives.specs.declared.directive.What.{What}
use Rattle.cpp_directives.specs.declared.directive.What.TheVariants.{If, Elif, Else, Endif, Define, Undef}
use Rattle.cpp_blocks.specs.declared.groups.OpenGroups.{OpenGroups}
use Rattle.cpp_blocks.specs.declared.pieces.PieceOf.{PieceOf}
use Rattle.cpp_blocks.specs.declared.starts.StartOf.{StartOf}
use Rattle.cpp_blocks.specs.declared.starts.BuiltOf.{BuiltOf}
use Rattle.cpp_blocks.specs.Alike.{free_line, free_lines, given_line}
use Rattle.cpp_blocks.specs.Facts.{at_first, facts_of, file_fact, is_block, start_fact, states_from}
use Rattle.cpp_blocks.specs.Formulas.{Source, Turn, source_of, turns_after, piece_in, formula_step, formula_of, states_in, state_node, defined_item, true_item}
use Rattle.cpp_blocks.specs.Given.{IsFreeOf, IsOfBuilt, IsOfStart, ListsGiven}
use Rattle.cpp_blocks.specs.PieceIdentity.{piece_eq, piece_equiv, piece_eq-exact}
use Rattle.cpp_blocks.specs.Run.{touches}
use Rattle.cpp_blocks.specs.Steps.{Standing, after, current, fact_at, facts_along, given_items, group_fact, group_formula, is_piece, next_group, state_fact, defined_by_define, true_by_define, unless_on}
use Rattle.cpp_blocks.specs.Turns.{touched_at, pieces_at, pieces_from, pieces_in, pieces_of, pieces_step}
use Rattle.cpp_blocks.proofs.AlikeLaws.{each_from}
use Rattle.cpp_blocks.proofs.Along.{each_front, each_back, each_both}
use Rattle.cpp_blocks.proofs.Listing.{Says, says_all, says_any, says_is, says_none, says_not, same_item}
use Rattle.cpp_blocks.proofs.Meeting.{Each, each_of, all_of_each}
use Rattle.cpp_blocks.proofs.Numbers.{place_within}
use Rattle.cpp_blocks.proofs.Sorted.{states_all, blocks_all}

-- ---- items of lists

-- P holds of each item of a list
abbrev Has : (Item → Type 0) → List Item → Type 0
Has P xs = (i : Item) → is_in xs i ≡ true → P i

has_none : (P : Item → Type 0) → Has P []
has_none P i h = absurd (false≢true h)

has_more : (P : Item → Type 0) (x : Item) (xs : List Item) → P x → Has P xs → Has P (x ∷ xs)
has_more P x xs p rest i h = by (item_eq x i) refl h
  where
    by : (b : Bool) → item_eq x i ≡ b → (b || is_in xs i) ≡ true → P i
    by true e g = subst P ((item_eq-Decides x i).0 e) p
    by false e g = rest i g

-- of the pieces among items it holds where it holds of each that is a piece
has_pieces : (P : Item → Type 0) (xs : List Item) → Has (λ i. is_piece i ≡ true → P i) xs → Has P (filter is_piece xs)
has_pieces P [] h = has_none P
has_pieces P (x ∷ xs) h = by (is_piece x) refl (has_pieces P xs (λ i g. h i (later (item_eq x i) g)))
  where
    later : {b : Bool} (a : Bool) → b ≡ true → (a || b) ≡ true
    later true g = refl
    later false g = g

    by : (b : Bool) → is_piece x ≡ b → Has P (filter is_piece xs) → Has P (cond b (x ∷ filter is_piece xs) (filter is_piece xs))
    by true e rest = has_more P x (filter is_piece xs) (h x (ap (λ b. b || is_in xs x) (same_item x)) e) rest
    by false e rest = rest

-- ---- pieces of conditions

module _ (src : Source) (turn : Turn) (P : Item → Type 0) (states : (name : List ℕ) → P (defined_item src name (turn.name name)) × P (true_item src name (turn.name name))) where
  -- the item of a piece
  abbrev AtPiece : PieceOf → Type 0
  AtPiece p = P (item.Piece src.file (piece_in src p.text p.turn))

  each : (ps : List ((c : Cond) × (Each AtPiece (pieces_in turn.piece c) → Says P (formula_of src turn c)))) → Each AtPiece (flat_map (λ pieces. pieces) (map (pieces_in turn.piece) (map (λ p. p.0) ps)))
      → Each (Says P) (map (formula_of src turn) (map (λ p. p.0) ps))
  each [] k = tt
  each (p ∷ ps) k = let rest : List PieceOf = flat_map (λ pieces. pieces) (map (pieces_in turn.piece) (map (λ p. p.0) ps)) in
      (p.1 (each_front AtPiece (pieces_in turn.piece p.0) rest k), each ps (each_back AtPiece (pieces_in turn.piece p.0) rest k))

  constant : (b : Bool) → Says P (formula_step src turn (Cond-F.Const b))
  constant true = says_none P Yes mentioned-Yes
  constant false = says_none P No mentioned-No

  one_layer : (y : Cond-F ((c : Cond) × (Each AtPiece (pieces_in turn.piece c) → Says P (formula_of src turn c))))
      → Each AtPiece (pieces_step turn.piece (map-Cond Cond (List PieceOf) (pieces_in turn.piece) (map-Cond _ Cond (λ p. p.0) y)))
      → Says P (formula_step src turn (map-Cond Cond Formula (formula_of src turn) (map-Cond _ Cond (λ p. p.0) y)))
  one_layer (Cond-F.Const b) k = constant b
  one_layer (Cond-F.Defined name) k = says_is P (defined_item src name (turn.name name)) (states name).0
  one_layer (Cond-F.Plain name) k = says_is P (true_item src name (turn.name name)) (states name).1
  one_layer (Cond-F.Piece text) k = says_is P (item.Piece src.file (piece_in src text (turn.piece text))) k.0
  one_layer (Cond-F.Neg p) k = says_not P (formula_of src turn p.0) (p.1 k)
  one_layer (Cond-F.AllOf ps) k = says_all P (map (formula_of src turn) (map (λ p. p.0) ps)) (each ps k)
  one_layer (Cond-F.AnyOf ps) k = says_any P (map (formula_of src turn) (map (λ p. p.0) ps)) (each ps k)

  rolled : (x : Cond-F Cond) → (Each AtPiece (pieces_step turn.piece (map-Cond Cond (List PieceOf) (pieces_in turn.piece) x)) → Says P (formula_step src turn (map-Cond Cond Formula (formula_of src turn) x)))
      → Each AtPiece (pieces_in turn.piece (roll-Cond x)) → Says P (formula_of src turn (roll-Cond x))
  rolled x h k = subst (Says P) (sym (fold-roll-Cond Formula (formula_step src turn) x)) (h (subst (Each AtPiece) (fold-roll-Cond (List PieceOf) (pieces_step turn.piece) x) k))

  pub pieces_said : (c : Cond) → Each AtPiece (pieces_in turn.piece c) → Says P (formula_of src turn c)
  pieces_said = ind-Cond (λ c. Each AtPiece (pieces_in turn.piece c) → Says P (formula_of src turn c))
      (λ x y is. rolled x (subst (λ (z : Cond-F Cond). Each AtPiece (pieces_step turn.piece (map-Cond Cond (List PieceOf) (pieces_in turn.piece) z)) → Says P (formula_step src turn (map-Cond Cond Formula (formula_of src turn) z))) is (one_layer y)))

-- ---- what the facts of directives list

module _ (file : ℕ) (ds : List Directive) where
  abbrev src : Source
  src = source_of file ds

  -- an item of this node, or a free one
  abbrev IsOwnOrFree : Node → Item → Type 0
  IsOwnOrFree n i = (owner i ≡ Some n) ⊎ IsFreeOf file ds i

  abbrev ListsFree : Fact → Type 0
  ListsFree f = Has (IsOwnOrFree f.node) f.items

  -- where it is a piece, it is a free item
  abbrev IsFreePiece : Item → Type 0
  IsFreePiece i = is_piece i ≡ true → IsFreeOf file ds i

  earlier_said : (earlier : List ℕ) (formula : Formula) → Says IsFreePiece formula → Each (Says IsFreePiece) (map (λ group. not_of (Is (item.Block file group))) earlier ++ formula ∷ [])
  earlier_said [] formula s = (s, tt)
  earlier_said (g ∷ gs) formula s = (says_not IsFreePiece (Is (item.Block file g)) (says_is IsFreePiece (item.Block file g) (λ h. absurd (false≢true h))), earlier_said gs formula s)

  group_lists : (block parent : ℕ) (earlier : List ℕ) (states : List Node) (formula : Formula) → Says IsFreePiece formula → ListsFree (group_fact file block parent earlier states formula)
  group_lists block parent earlier states formula s = let all = group_formula file parent earlier formula in
      has_more (IsOwnOrFree (node.Block file block)) (item.Block file block) (filter is_piece (mentioned all)) (inl refl)
      (has_pieces (IsOwnOrFree (node.Block file block)) (mentioned all) (λ i m p. inr (says_all IsFreePiece (Is (item.Block file parent) ∷ map (λ group. not_of (Is (item.Block file group))) earlier ++ formula ∷ []) (
        says_is IsFreePiece (item.Block file parent) (λ h. absurd (false≢true h)),
        earlier_said earlier formula s,
      ) i m p)))

  next_lists : (block : ℕ) (chains : List OpenGroups) (states : List Node) (formula : Formula) → Says IsFreePiece formula → Each ListsFree (next_group file block chains states formula)
  next_lists block [] states formula s = tt
  next_lists block (c ∷ cs) states formula s = (group_lists block c.parent (c.earlier ++ c.current ∷ []) states formula s, tt)

  state_lists : (name : List ℕ) (turn block : ℕ) (d t : Formula) (items : List Item) → Has (IsFreeOf file ds) items → ListsFree (state_fact src name turn block d t items)
  state_lists name turn block d t items h = let n = state_node src name (suc turn) in
      has_more (IsOwnOrFree n) (defined_item src name (suc turn)) (true_item src name (suc turn) ∷ items) (inl refl)
      (has_more (IsOwnOrFree n) (true_item src name (suc turn)) items (inl refl) (λ i m. inr (h i m)))

  -- a piece and a line of the source
  abbrev IsPiece : PieceOf → Type 0
  IsPiece p = IsFreePiece (item.Piece file (piece_in src p.text p.turn))

  abbrev IsLine : ℕ → Type 0
  IsLine line = Contains (free_lines ds) line

  cond_said : (turn : Turn) (c : Cond) → Each IsPiece (pieces_in turn.piece c) → Says IsFreePiece (formula_of src turn c)
  cond_said turn c = pieces_said src turn IsFreePiece (λ name. (λ h. absurd (false≢true h), λ h. absurd (false≢true h))) c

  line_lists : (line : ℕ) (gives : Gives) → Each IsLine (given_line line gives) → Has (IsFreeOf file ds) (given_items file line gives)
  line_lists line Zero h = has_none (IsFreeOf file ds)
  line_lists line Nonzero h = has_none (IsFreeOf file ds)
  line_lists line Free h = has_more (IsFreeOf file ds) (item.Line file line) [] (refl, h.0) (has_none (IsFreeOf file ds))

  at_line : (touched : List (List ℕ)) (at : Standing) (line : ℕ) (what : What) → Each IsPiece (pieces_at (touches touched) what) → Each IsLine (free_line line what) → Each ListsFree (fact_at src (turns_after touched) at line what)
  at_line touched at line (If c) p l = (group_lists at.next (current at.chains) [] (states_in src (turns_after touched) c) (formula_of src (turns_after touched) c) (cond_said (turns_after touched) c p), tt)
  at_line touched at line (Elif c) p l = next_lists at.next at.chains (states_in src (turns_after touched) c) (formula_of src (turns_after touched) c) (cond_said (turns_after touched) c p)
  at_line touched at line Else p l = next_lists at.next at.chains [] Yes (says_none IsFreePiece Yes mentioned-Yes)
  at_line touched at line Endif p l = tt
  at_line touched at line (Define x gives) p l = let turn : Turn = turns_after touched in
      (state_lists x (turn.name x) (current at.chains) (defined_by_define src x (turn.name x) (current at.chains)) (true_by_define src x (turn.name x) (current at.chains) line gives) (given_items file line gives) (line_lists line gives l), tt)
  at_line touched at line (Undef x) p l = let turn : Turn = turns_after touched in
      (state_lists x (turn.name x) (current at.chains) (unless_on file (current at.chains) (Is (defined_item src x (turn.name x)))) (unless_on file (current at.chains) (Is (true_item src x (turn.name x)))) [] (has_none (IsFreeOf file ds)), tt)

  along : (es : List Directive) (touched : List (List ℕ)) (at : Standing) → Each IsPiece (pieces_from touched es) → Each IsLine (free_lines es) → Each ListsFree (facts_along src touched at es)
  along [] touched at p l = tt
  along (d ∷ es) touched at p l = let later : List (List ℕ) = touched ++ touched_at d.what in
      each_both ListsFree (fact_at src (turns_after touched) at d.line d.what) (facts_along src later (after at d.what) es)
      (at_line touched at d.line d.what (each_front IsPiece (pieces_at (touches touched) d.what) (pieces_from later es) p) (each_front IsLine (free_line d.line d.what) (free_lines es) l))
      (along es later (after at d.what) (each_back IsPiece (pieces_at (touches touched) d.what) (pieces_from later es) p) (each_back IsLine (free_line d.line d.what) (free_lines es) l))

  -- ---- the pieces and lines of the source are its own

  piece_there : (p : PieceOf) → Contains (pieces_of ds) p → IsPiece p
  piece_there p there h = (refl, place_within (piece_eq p) (pieces_of ds) (list_any-from_Contains piece_equiv p (pieces_of ds) there))

  all_there : (ps : List PieceOf) → Each (Contains (pieces_of ds)) ps → Each IsPiece ps
  all_there [] h = tt
  all_there (p ∷ ps) h = (piece_there p h.0, all_there ps h.1)

  pieces_there : Each IsPiece (pieces_from [] ds)
  pieces_there = each_from piece_eq piece_equiv.refl piece_eq-exact IsPiece [] (pieces_from [] ds)
      (all_there (pieces_of ds) (each_of (Contains (pieces_of ds)) (pieces_of ds) (All-contains_itself (pieces_of ds))))

  lines_there : Each IsLine (free_lines ds)
  lines_there = each_of IsLine (free_lines ds) (All-contains_itself (free_lines ds))

  lines_list : Each ListsFree (facts_along src [] at_first ds)
  lines_list = along ds [] at_first pieces_there lines_there

  -- ---- all facts

  module _ (starts : List StartOf) (built : BuiltOf) where
    abbrev IsGiven : Fact → Item → Type 0
    IsGiven f i = (owner i ≡ Some f.node) ⊎ (IsOfBuilt file built f i ⊎ (IsOfStart file starts f i ⊎ IsFreeOf file ds i))

    abbrev Lists : Fact → Type 0
    Lists = ListsGiven file ds starts built

    weaker : (fs : List Fact) → Each ListsFree fs → Each Lists fs
    weaker [] h = tt
    weaker (f ∷ fs) h = (λ i m. widen i (h.0 i m), weaker fs h.1)
      where
        widen : (i : Item) → IsOwnOrFree f.node i → IsGiven f i
        widen i (inl own) = inl own
        widen i (inr free) = inr (inr (inr free))

    file_lists : Lists (file_fact file built)
    file_lists = has_more (IsGiven (file_fact file built)) (item.Block file 0) built.items (inl refl) (λ i m. inr (inl (record { fact = refl; listed = m })))

    start_lists : (k : ℕ) (s : StartOf) → slice_get starts k ≡ Some s → Lists (start_fact file k s)
    start_lists k s at = let P = IsGiven (start_fact file k s) in
        has_more P (item.StateD file k 0) (item.StateT file k 0 ∷ s.items) (inl refl) (has_more P (item.StateT file k 0) s.items (inl refl)
        (λ i m. inr (inr (inl (record { name = k; start = s; at = at; fact = refl; listed = m })))))

    pub all_given : Each Lists (facts_of file ds starts built)
    all_given = each_both Lists (file_fact file built ∷ filter (λ f. is_block f.node) lines) (states_from file lines 0 starts)
        (file_lists, blocks_all Lists lines own)
        (states_all Lists file lines 0 starts own (λ j s e. let at : j ≡ 0 + j = omega arith in start_lists (0 + j) s (subst (λ n. slice_get starts n ≡ Some s) at e)))
      where
        lines : List Fact
        lines = facts_along src [] at_first ds

        own : Each Lists (facts_along src [] at_first ds)
        own = weaker (facts_along src [] at_first ds) lines_list

-- each item that a fact of a source lists is its own, or is given
pub all_listed_given : (file : ℕ) (ds : List Directive) (starts : List StartOf) (built : BuiltOf) → All (ListsGiven file ds starts built) (facts_of file ds starts built)
all_listed_given file ds starts built = all_of_each (ListsGiven file ds starts built) (facts_of file ds starts built) (all_given file ds starts built)
