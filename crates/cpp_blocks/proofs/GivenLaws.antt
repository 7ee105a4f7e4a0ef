-- What the facts of a source list and name beside their own: loose items, and the symbols of starts and of the source's
-- condition.
use Rattle.std.proofs.Common.{◌≡◌, ℕ, suc, Bool, true, false, ◌||◌, cond, List, [], ◌∷◌, ◌++◌, map, filter, All, None, Some, refl, ap, sym, subst, ◌∙◌, ◌⊎◌, inl, inr}
use Rattle.std.specs.List.{AllByRecursion, Contains}
use Rattle.std.proofs.lemmas.Bool.{false≢true}
use Rattle.std.proofs.lemmas.List.Elements.{All-from_recursion, recursion_from_All, All-contains, All-contains_itself}
use Rattle.ut_text.specs.Bytes.{Bytes}
use Rattle.ut_logic.specs.declared.item.Item.{Item}
use Rattle.ut_logic.specs.declared.item.Item.TheVariants as item
use Rattle.ut_logic.specs.declared.node.Node.{Node}
use Rattle.ut_logic.specs.declared.node.Node.TheVariants as node
use Rattle.ut_logic.specs.declared.facts.Fact.{Fact}
use Rattle.ut_logic.specs.declared.formula.Formula.{Formula}
use Rattle.ut_logic.specs.declared.formula.Formula.TheVariants.{Yes, Is}
use Rattle.ut_logic.specs.Assign.{is_in}
use Rattle.ut_logic.specs.Item.{item_eq}
use Rattle.ut_logic.specs.ItemIdentity.{item_eq-Decides}
use Rattle.ut_logic.specs.Owners.{owner}
use Rattle.ut_logic.specs.Truth.{mentioned}
use Rattle.cpp_directives.specs.declared.condition.Cond.{Cond}
use Rattle.cpp_directives.specs.declared.directive.Directive.{Directive}
use Rattle.cpp_directives.specs.declared.directive.Gives.{Gives}
use Rattle.cpp_directives.specs.declared.directive.Gives.TheVariants.{Zero, Nonzero, Free}
use Rattle.cpp_directives.specs.declared.directive.What.{What}
use Rattle.cpp_directives.specs.declared.directive.What.TheVariants.{If, Elif, Else, Endif, Define, Undef}
use Rattle.cpp_blocks.specs.declared.groups.OpenGroups.{OpenGroups}
use Rattle.cpp_blocks.specs.declared.starts.StartOf.{StartOf}
use Rattle.cpp_blocks.specs.declared.starts.BuiltOf.{BuiltOf}
use Rattle.cpp_blocks.specs.Facts.{at_first, facts_of, is_block, is_state, states_from}
use Rattle.cpp_blocks.specs.Formulas.{Source, Turn, source_of, turns_after, formula_of, states_in, state_node, defined_item, true_item}
use Rattle.cpp_blocks.specs.Mentions.{names_in}
use Rattle.cpp_blocks.specs.Nodes.{AreLoose, IsOfTree, ListsOwn, NamesGiven}
use Rattle.cpp_blocks.specs.Steps.{Standing, after, block_fact, current, fact_at, facts_along, given_items, group_formula, is_piece, next_group, state_fact, defined_by_define, true_by_define, unless_on}
use Rattle.cpp_blocks.specs.Turns.{touched_at}

-- ---- lists

joined : {X : Type 0} (P : X → Type 0) (xs ys : List X) → AllByRecursion P xs → AllByRecursion P ys → AllByRecursion P (xs ++ ys)
joined P [] ys h g = g
joined P (x ∷ xs) ys h g = (h.0, joined P xs ys h.1 g)

kept : {X : Type 0} (P : X → Type 0) (p : X → Bool) (xs : List X) → AllByRecursion P xs → AllByRecursion P (filter p xs)
kept P p [] h = tt
kept P p (x ∷ xs) h = by (p x) (kept P p xs h.1)
  where
    by : (b : Bool) → AllByRecursion P (filter p xs) → AllByRecursion P (cond b (x ∷ filter p xs) (filter p xs))
    by true rest = (h.0, rest)
    by false rest = rest

mapped : {X Y : Type 0} (P : Y → Type 0) (f : X → Y) → ((x : X) → P (f x)) → (xs : List X) → AllByRecursion P (map f xs)
mapped P f h [] = tt
mapped P f h (x ∷ xs) = (h x, mapped P f h xs)

-- ---- what the facts of directives list and name

-- an item of this node, or of none
abbrev IsOwnOrLoose : Node → Item → Type 0
IsOwnOrLoose n i = (owner i ≡ None) ⊎ (owner i ≡ Some n)

one_more : (n : Node) (x : Item) (items : List Item) → IsOwnOrLoose n x → ((i : Item) → is_in items i ≡ true → IsOwnOrLoose n i) → (i : Item) → is_in (x ∷ items) i ≡ true → IsOwnOrLoose n i
one_more n x items own rest i h = by (item_eq x i) refl h
  where
    by : (b : Bool) → item_eq x i ≡ b → (b || is_in items i) ≡ true → IsOwnOrLoose n i
    by true e g = subst (IsOwnOrLoose n) ((item_eq-Decides x i).0 e) own
    by false e g = rest i g

loose : (n : Node) (items : List Item) → AreLoose items → (i : Item) → is_in items i ≡ true → IsOwnOrLoose n i
loose n items h i g = inl (h i g)

none_loose : AreLoose []
none_loose i h = absurd (false≢true h)

piece_loose : (i : Item) → is_piece i ≡ true → owner i ≡ None
piece_loose (item.Piece file k) h = refl
piece_loose (item.SymY k) h = absurd (false≢true h)
piece_loose (item.SymM k) h = absurd (false≢true h)
piece_loose (item.Undeclared k) h = absurd (false≢true h)
piece_loose (item.ModeY k) h = absurd (false≢true h)
piece_loose (item.ModeM k) h = absurd (false≢true h)
piece_loose (item.Outer k) h = absurd (false≢true h)
piece_loose (item.Same k j) h = absurd (false≢true h)
piece_loose (item.Below k j) h = absurd (false≢true h)
piece_loose (item.StartD file n) h = absurd (false≢true h)
piece_loose (item.StartT file n) h = absurd (false≢true h)
piece_loose (item.Truth file n) h = absurd (false≢true h)
piece_loose (item.Line file n) h = absurd (false≢true h)
piece_loose (item.Block file n) h = absurd (false≢true h)
piece_loose (item.StateD file n turn) h = absurd (false≢true h)
piece_loose (item.StateT file n turn) h = absurd (false≢true h)

pieces_loose : (xs : List Item) → AreLoose (filter is_piece xs)
pieces_loose [] = none_loose
pieces_loose (x ∷ xs) = by (is_piece x) refl (pieces_loose xs)
  where
    by : (b : Bool) → is_piece x ≡ b → AreLoose (filter is_piece xs) → AreLoose (cond b (x ∷ filter is_piece xs) (filter is_piece xs))
    by true e rest i h = first (item_eq x i) refl h
      where
        first : (c : Bool) → item_eq x i ≡ c → (c || is_in (filter is_piece xs) i) ≡ true → owner i ≡ None
        first true g k = ap owner (sym ((item_eq-Decides x i).0 g)) ∙ piece_loose x e
        first false g k = rest i k
    by false e rest i h = rest i h

line_loose : (file line : ℕ) (gives : Gives) → AreLoose (given_items file line gives)
line_loose file line Zero i h = absurd (false≢true h)
line_loose file line Nonzero i h = absurd (false≢true h)
line_loose file line Free i h = by (item_eq (item.Line file line) i) refl h
  where
    by : (b : Bool) → item_eq (item.Line file line) i ≡ b → (b || false) ≡ true → owner i ≡ None
    by true e g = ap owner (sym ((item_eq-Decides (item.Line file line) i).0 e))
    by false e g = absurd (false≢true g)

-- a node of a run
abbrev IsOfRun : Node → Type 0
IsOfRun n = IsOfTree n → ⊥

block_run : (file block : ℕ) → IsOfRun (node.Block file block)
block_run file block h = h

state_run : (file name turn : ℕ) → IsOfRun (node.State file name turn)
state_run file name turn h = h

-- the fact of a directive names nodes of the run alone
abbrev IsOfLine : Fact → Type 0
IsOfLine f = ListsOwn f × AllByRecursion IsOfRun f.names

block_line : (file block parent : ℕ) (earlier : List ℕ) (states : List Node) (formula : Formula) → AllByRecursion IsOfRun states → IsOfLine (block_fact file block parent earlier states formula)
block_line file block parent earlier states formula h = (
  one_more (node.Block file block) (item.Block file block) (filter is_piece (mentioned formula)) (inr refl) (loose (node.Block file block) (filter is_piece (mentioned formula)) (pieces_loose (mentioned formula))),
  (block_run file parent, joined IsOfRun (map (λ group. node.Block file group) earlier) states (mapped IsOfRun (λ group. node.Block file group) (block_run file) earlier) h),
)

state_line : (src : Source) (name : Bytes) (turn block : ℕ) (d t : Formula) (items : List Item) → AreLoose items → IsOfLine (state_fact src name turn block d t items)
state_line src name turn block d t items h = let n = state_node src name (suc turn) in (
  one_more n (defined_item src name (suc turn)) (true_item src name (suc turn) ∷ items) (inr refl) (one_more n (true_item src name (suc turn)) items (inr refl) (loose n items h)),
  (λ k. k, (λ k. k, tt)),
)

next_line : (file block : ℕ) (chains : List OpenGroups) (states : List Node) (formula : Formula) → AllByRecursion IsOfRun states → AllByRecursion IsOfLine (next_group file block chains states formula)
next_line file block [] states formula h = tt
next_line file block (c ∷ cs) states formula h = (block_line file block c.parent (c.earlier ++ c.current ∷ []) states (group_formula file c.parent (c.earlier ++ c.current ∷ []) formula) h, tt)

module _ (src : Source) where
  states_run : (turn : Turn) (cond : Cond) → AllByRecursion IsOfRun (states_in src turn cond)
  states_run turn cond = mapped IsOfRun (λ (name : Bytes). state_node src name (turn.name name)) (λ name k. k) (names_in cond)

  at_line : (turn : Turn) (at : Standing) (line : ℕ) (what : What) → AllByRecursion IsOfLine (fact_at src turn at line what)
  at_line turn at line (If cond) = (block_line src.file at.next (current at.chains) [] (states_in src turn cond) (group_formula src.file (current at.chains) [] (formula_of src turn cond)) (states_run turn cond), tt)
  at_line turn at line (Elif cond) = next_line src.file at.next at.chains (states_in src turn cond) (formula_of src turn cond) (states_run turn cond)
  at_line turn at line Else = next_line src.file at.next at.chains [] Yes tt
  at_line turn at line Endif = tt
  at_line turn at line (Define name gives) = (state_line src name (turn.name name) (current at.chains) (defined_by_define src name (turn.name name) (current at.chains)) (true_by_define src name (turn.name name) (current at.chains) line gives) (given_items src.file line gives) (line_loose src.file line gives), tt)
  at_line turn at line (Undef name) = (state_line src name (turn.name name) (current at.chains) (unless_on src.file (current at.chains) (Is (defined_item src name (turn.name name)))) (unless_on src.file (current at.chains) (Is (true_item src name (turn.name name)))) [] none_loose, tt)

  along : (touched : List Bytes) (at : Standing) (ds : List Directive) → AllByRecursion IsOfLine (facts_along src touched at ds)
  along touched at [] = tt
  along touched at (d ∷ ds) = joined IsOfLine (fact_at src (turns_after touched) at d.line d.what) (facts_along src (touched ++ touched_at d.what) (after at d.what) ds) (at_line (turns_after touched) at d.line d.what)
      (along (touched ++ touched_at d.what) (after at d.what) ds)

weaker : {X : Type 0} (P Q : X → Type 0) → ((x : X) → P x → Q x) → (xs : List X) → AllByRecursion P xs → AllByRecursion Q xs
weaker P Q f [] h = tt
weaker P Q f (x ∷ xs) h = (f x h.0, weaker P Q f xs h.1)

-- ---- all facts

lists_from : (file : ℕ) (lines : List Fact) (name : ℕ) (starts : List StartOf) → AllByRecursion ListsOwn lines → AllByRecursion (λ (s : StartOf). AreLoose s.items) starts → AllByRecursion ListsOwn (states_from file lines name starts)
lists_from file lines name [] own h = tt
lists_from file lines name (start ∷ starts) own h = let n = node.State file name 0 in (
  one_more n (item.StateD file name 0) (item.StateT file name 0 ∷ start.items) (inr refl) (one_more n (item.StateT file name 0) start.items (inr refl) (loose n start.items h.0)),
  joined ListsOwn (filter (λ f. is_state name f.node) lines) (states_from file lines (suc name) starts) (kept ListsOwn (λ f. is_state name f.node) lines own) (lists_from file lines (suc name) starts own h.1),
)

pub all_own : (file : ℕ) (ds : List Directive) (starts : List StartOf) (built : BuiltOf) → All (λ (s : StartOf). AreLoose s.items) starts → AreLoose built.items → All ListsOwn (facts_of file ds starts built)
all_own file ds starts built given loose_built = All-from_recursion ListsOwn (facts_of file ds starts built) (
  one_more (node.Block file 0) (item.Block file 0) built.items (inr refl) (loose (node.Block file 0) built.items loose_built),
  joined ListsOwn (filter (λ f. is_block f.node) lines) (states_from file lines 0 starts) (kept ListsOwn (λ f. is_block f.node) lines own) (lists_from file lines 0 starts own (recursion_from_All (λ (s : StartOf). AreLoose s.items) starts given)),
)
  where
    lines : List Fact
    lines = facts_along (source_of file ds) [] at_first ds

    own : AllByRecursion ListsOwn lines
    own = weaker IsOfLine ListsOwn (λ f h. h.0) lines (along (source_of file ds) [] at_first ds)

-- the facts of directives name no symbol
line_names : (starts : List StartOf) (built : BuiltOf) (f : Fact) → IsOfLine f → NamesGiven starts built f
line_names starts built f h n there of = absurd (All-contains IsOfRun f.names n (All-from_recursion IsOfRun f.names h.1) there of)

names_from : (all : List StartOf) (built : BuiltOf) (file : ℕ) (lines : List Fact) (name : ℕ) (starts : List StartOf) → AllByRecursion (NamesGiven all built) lines → AllByRecursion (Contains all) starts → AllByRecursion (NamesGiven all built) (states_from file lines name starts)
names_from all built file lines name [] own h = tt
names_from all built file lines name (start ∷ starts) own h = (
  λ n there of. inr (start, h.0, there),
  joined (NamesGiven all built) (filter (λ f. is_state name f.node) lines) (states_from file lines (suc name) starts) (kept (NamesGiven all built) (λ f. is_state name f.node) lines own) (names_from all built file lines (suc name) starts own h.1),
)

pub all_given : (file : ℕ) (ds : List Directive) (starts : List StartOf) (built : BuiltOf) → All (NamesGiven starts built) (facts_of file ds starts built)
all_given file ds starts built = All-from_recursion (NamesGiven starts built) (facts_of file ds starts built) (
  λ n there of. inl there,
  joined (NamesGiven starts built) (filter (λ f. is_block f.node) lines) (states_from file lines 0 starts) (kept (NamesGiven starts built) (λ f. is_block f.node) lines own) (names_from starts built file lines 0 starts own each),
)
  where
    lines : List Fact
    lines = facts_along (source_of file ds) [] at_first ds

    own : AllByRecursion (NamesGiven starts built) lines
    own = weaker IsOfLine (NamesGiven starts built) (line_names starts built) lines (along (source_of file ds) [] at_first ds)

    each : AllByRecursion (Contains starts) starts
    each = recursion_from_All (Contains starts) starts (All-contains_itself starts)
