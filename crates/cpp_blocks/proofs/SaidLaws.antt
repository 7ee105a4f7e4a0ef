-- What a source's facts mention is of its run, or said by the source's condition or a start; and they define items of their own.
use Rattle.std.proofs.Common.{◌≡◌, ℕ, ◌+◌, Bool, true, false, ◌||◌, cond, List, [], ◌∷◌, ◌++◌, map, filter, slice_get, All, Some, refl, ap, subst, ◌∙◌, inl, inr, arith}
use Rattle.std.proofs.lemmas.List.Folds.{list_any-append}
use Rattle.ut_logic.specs.declared.item.Item.{Item}
use Rattle.ut_logic.specs.declared.item.Item.TheVariants as item
use Rattle.ut_logic.specs.declared.node.Node.{Node}
use Rattle.ut_logic.specs.declared.facts.Definition.{Definition}
use Rattle.ut_logic.specs.declared.facts.Fact.{Fact}
use Rattle.ut_logic.specs.declared.formula.Formula.{Formula}
use Rattle.ut_logic.specs.declared.formula.Formula.TheVariants.{Yes, No, Is}
use Rattle.ut_logic.specs.Assign.{is_in}
use Rattle.ut_logic.specs.Fold.{all_of, any_of, not_of}
use Rattle.ut_logic.specs.Item.{item_eq}
use Rattle.ut_logic.specs.Owners.{owner}
use Rattle.ut_logic.specs.Truth.{mentioned}
use Rattle.ut_logic.proofs.MentionLaws.{mentioned-Yes, mentioned-No}
use Rattle.cpp_directives.specs.declared.condition.Cond.{Cond}
use Rattle.cpp_directives.specs.declared.directive.Directive.{Directive}
use Rattle.cpp_directives.specs.declared.directive.Gives.{Gives}
use Rattle.cpp_directives.specs.declared.directive.Gives.TheVariants.{Zero, Nonzero, Free}
use Rattle.cpp_directives.specs.declared.directive.What.{What}
use Rattle.cpp_directives.specs.declared.directive.What.TheVariants.{If, Elif, Else, Endif, Define, Undef}
use Rattle.cpp_blocks.specs.declared.groups.OpenGroups.{OpenGroups}
use Rattle.cpp_blocks.specs.declared.pieces.PieceOf.{PieceOf}
use Rattle.cpp_blocks.specs.declared.starts.StartOf.{StartOf}
use Rattle.cpp_blocks.specs.declared.starts.BuiltOf.{BuiltOf}
use Rattle.cpp_blocks.specs.Facts.{at_first, facts_of, file_fact, is_block, is_free, is_of_run, start_fact, start_holds, states_from}
use Rattle.cpp_blocks.specs.Formulas.{Source, Turn, source_of, turns_after, piece_in, formula_of, states_in, defined_item, true_item}
use Rattle.cpp_blocks.specs.Given.{DefinesOwn, MentionsGiven}
use Rattle.cpp_blocks.specs.Nodes.{mentioned_by, mentioned_in}
use Rattle.cpp_blocks.specs.Steps.{Standing, after, current, fact_at, facts_along, given_items, given_truth, group_fact, group_formula, next_group, state_fact, unless_on, defined_by_define, true_by_define}
use Rattle.cpp_blocks.specs.Turns.{touched_at, pieces_in}
use Rattle.cpp_blocks.proofs.Along.{each_both}
use Rattle.cpp_blocks.proofs.FreeLaws.{pieces_said}
use Rattle.cpp_blocks.proofs.Listing.{Says, none_in, says_all, says_any, says_append, says_is, says_none, says_not}
use Rattle.cpp_blocks.proofs.Meeting.{Each, all_of_each}
use Rattle.cpp_blocks.proofs.Sorted.{states_all, blocks_all}

-- ---- directives

-- an item of the run
abbrev OfRun : Item → Type 0
OfRun i = is_of_run i ≡ true

-- a fact that mentions these alone, and defines items of its own
abbrev IsPlain : Fact → Type 0
IsPlain f = ((i : Item) → is_in (mentioned_by f) i ≡ true → OfRun i) × DefinesOwn f

one_own : (n : Node) (d : Definition) → owner d.item ≡ Some n → All (λ (x : Definition). owner x.item ≡ Some n) (d ∷ [])
one_own n d e = all_of_each (λ (x : Definition). owner x.item ≡ Some n) (d ∷ []) (e, tt)

two_own : (n : Node) (d e : Definition) → owner d.item ≡ Some n → owner e.item ≡ Some n → All (λ (x : Definition). owner x.item ≡ Some n) (d ∷ e ∷ [])
two_own n d e g h = all_of_each (λ (x : Definition). owner x.item ≡ Some n) (d ∷ e ∷ []) (g, (h, tt))

module _ (src : Source) where
  block_is : (block : ℕ) → Says OfRun (Is (item.Block src.file block))
  block_is block = says_is OfRun (item.Block src.file block) refl

  earlier_are : (earlier : List ℕ) (formula : Formula) → Says OfRun formula → Each (Says OfRun) (map (λ group. not_of (Is (item.Block src.file group))) earlier ++ formula ∷ [])
  earlier_are [] formula s = (s, tt)
  earlier_are (g ∷ gs) formula s = (says_not OfRun (Is (item.Block src.file g)) (block_is g), earlier_are gs formula s)

  group_is : (block parent : ℕ) (earlier : List ℕ) (states : List Node) (formula : Formula) → Says OfRun formula → IsPlain (group_fact src.file block parent earlier states formula)
  group_is block parent earlier states formula s = (
    says_append OfRun (mentioned (group_formula src.file parent earlier formula)) []
        (says_all OfRun (Is (item.Block src.file parent) ∷ map (λ group. not_of (Is (item.Block src.file group))) earlier ++ formula ∷ []) (block_is parent, earlier_are earlier formula s)) (λ i h. absurd (none_in i h)),
    one_own _ _ refl,
  )

  next_is : (block : ℕ) (chains : List OpenGroups) (states : List Node) (formula : Formula) → Says OfRun formula → Each IsPlain (next_group src.file block chains states formula)
  next_is block [] states formula s = tt
  next_is block (c ∷ cs) states formula s = (group_is block c.parent (c.earlier ++ c.current ∷ []) states formula s, tt)

  state_is : (name : List ℕ) (turn block : ℕ) (d t : Formula) (items : List Item) → Says OfRun d → Says OfRun t → IsPlain (state_fact src name turn block d t items)
  state_is name turn block d t items f g = (
    says_append OfRun (mentioned d) (mentioned t ++ []) f (says_append OfRun (mentioned t) [] g (λ i h. absurd (none_in i h))),
    two_own _ _ _ refl refl,
  )

  before_is : (i : Item) → OfRun i → (block : ℕ) → Says OfRun (unless_on src.file block (Is i))
  before_is i h block = says_all OfRun (not_of (Is (item.Block src.file block)) ∷ Is i ∷ []) (says_not OfRun (Is (item.Block src.file block)) (block_is block), (says_is OfRun i h, tt))

  given_is : (line : ℕ) (gives : Gives) → Says OfRun (given_truth src.file line gives)
  given_is line Zero = says_none OfRun No mentioned-No
  given_is line Nonzero = says_none OfRun Yes mentioned-Yes
  given_is line Free = says_is OfRun (item.Line src.file line) refl

  defined_is : (name : List ℕ) (turn block : ℕ) → Says OfRun (defined_by_define src name turn block)
  defined_is name turn block = says_any OfRun (Is (item.Block src.file block) ∷ Is (defined_item src name turn) ∷ []) (block_is block, (says_is OfRun (defined_item src name turn) refl, tt))

  true_is : (name : List ℕ) (turn block line : ℕ) (gives : Gives) → Says OfRun (true_by_define src name turn block line gives)
  true_is name turn block line gives = says_any OfRun (all_of (Is (item.Block src.file block) ∷ given_truth src.file line gives ∷ []) ∷ unless_on src.file block (Is (true_item src name turn)) ∷ []) (
    says_all OfRun (Is (item.Block src.file block) ∷ given_truth src.file line gives ∷ []) (block_is block, (given_is line gives, tt)),
    (before_is (true_item src name turn) refl block, tt),
  )

  all_pieces : (ps : List PieceOf) → Each (λ (p : PieceOf). OfRun (item.Piece src.file (piece_in src p.text p.turn))) ps
  all_pieces [] = tt
  all_pieces (p ∷ ps) = (refl, all_pieces ps)

  cond_is : (turn : Turn) (c : Cond) → Says OfRun (formula_of src turn c)
  cond_is turn c = pieces_said src turn OfRun (λ name. (refl, refl)) c (all_pieces (pieces_in turn.piece c))

  line_is : (touched : List (List ℕ)) (at : Standing) (line : ℕ) (what : What) → Each IsPlain (fact_at src (turns_after touched) at line what)
  line_is touched at line (If c) = (group_is at.next (current at.chains) [] (states_in src (turns_after touched) c) (formula_of src (turns_after touched) c) (cond_is (turns_after touched) c), tt)
  line_is touched at line (Elif c) = next_is at.next at.chains (states_in src (turns_after touched) c) (formula_of src (turns_after touched) c) (cond_is (turns_after touched) c)
  line_is touched at line Else = next_is at.next at.chains [] Yes (says_none OfRun Yes mentioned-Yes)
  line_is touched at line Endif = tt
  line_is touched at line (Define x gives) = let turn : Turn = turns_after touched in (
    state_is x (turn.name x) (current at.chains) (defined_by_define src x (turn.name x) (current at.chains)) (true_by_define src x (turn.name x) (current at.chains) line gives) (given_items src.file line gives)
        (defined_is x (turn.name x) (current at.chains)) (true_is x (turn.name x) (current at.chains) line gives),
    tt,
  )
  line_is touched at line (Undef x) = let turn : Turn = turns_after touched in (
    state_is x (turn.name x) (current at.chains) (unless_on src.file (current at.chains) (Is (defined_item src x (turn.name x)))) (unless_on src.file (current at.chains) (Is (true_item src x (turn.name x)))) []
        (before_is (defined_item src x (turn.name x)) refl (current at.chains)) (before_is (true_item src x (turn.name x)) refl (current at.chains)),
    tt,
  )

  lines_are : (ds : List Directive) (touched : List (List ℕ)) (at : Standing) → Each IsPlain (facts_along src touched at ds)
  lines_are [] touched at = tt
  lines_are (d ∷ ds) touched at = each_both IsPlain (fact_at src (turns_after touched) at d.line d.what) (facts_along src (touched ++ touched_at d.what) (after at d.what) ds)
      (line_is touched at d.line d.what) (lines_are ds (touched ++ touched_at d.what) (after at d.what))

-- ---- starts

-- an item of both formulas of a start
abbrev IsOfBoth : StartOf → Item → Type 0
IsOfBoth s i = is_in (mentioned s.d ++ mentioned s.t) i ≡ true

or_left : (a b : Bool) → a ≡ true → (a || b) ≡ true
or_left a b h = ap (λ c. c || b) h

or_right : (a b : Bool) → b ≡ true → (a || b) ≡ true
or_right true b h = refl
or_right false b h = h

d_of : (s : StartOf) → Says (IsOfBoth s) s.d
d_of s i m = list_any-append (λ x. item_eq x i) (mentioned s.d) (mentioned s.t) ∙ or_left (is_in (mentioned s.d) i) (is_in (mentioned s.t) i) m

t_of : (s : StartOf) → Says (IsOfBoth s) s.t
t_of s i m = list_any-append (λ x. item_eq x i) (mentioned s.d) (mentioned s.t) ∙ or_right (is_in (mentioned s.d) i) (is_in (mentioned s.t) i) m

start_says : (file k : ℕ) (s : StartOf) (i : Item) → is_in (mentioned_by (start_fact file k s)) i ≡ true → IsOfBoth s i
start_says file k s i m = says_append (IsOfBoth s) (mentioned_in (start_holds file k s)) (mentioned s.d ++ (mentioned s.t ++ [])) (held (is_free file k s))
    (says_append (IsOfBoth s) (mentioned s.d) (mentioned s.t ++ []) (d_of s) (says_append (IsOfBoth s) (mentioned s.t) [] (t_of s) (λ j h. absurd (none_in j h)))) i m
  where
    held : (b : Bool) → (j : Item) → is_in (mentioned_in (cond b (any_of (not_of s.t ∷ s.d ∷ []) ∷ []) [])) j ≡ true → IsOfBoth s j
    held true j h = says_append (IsOfBoth s) (mentioned (any_of (not_of s.t ∷ s.d ∷ []))) [] (says_any (IsOfBoth s) (not_of s.t ∷ s.d ∷ []) (says_not (IsOfBoth s) s.t (t_of s), (d_of s, tt))) (λ x g. absurd (none_in x g)) j h
    held false j h = absurd (none_in j h)

-- ---- all facts

module _ (file : ℕ) (ds : List Directive) (starts : List StartOf) (built : BuiltOf) where
  -- what is asked of each fact
  abbrev IsSaid : Fact → Type 0
  IsSaid f = MentionsGiven file starts built f × DefinesOwn f

  weaker : (fs : List Fact) → Each IsPlain fs → Each IsSaid fs
  weaker [] h = tt
  weaker (f ∷ fs) h = ((λ i m. inl (h.0.0 i m), h.0.1), weaker fs h.1)

  file_said : IsSaid (file_fact file built)
  file_said = (
    λ i m. inr (inl (record { fact = refl; said = says_append (λ (j : Item). is_in (mentioned built.formula) j ≡ true) (mentioned built.formula) [] (λ j h. h) (λ j h. absurd (none_in j h)) i m })),
    one_own _ _ refl,
  )

  start_said : (k : ℕ) (s : StartOf) → slice_get starts k ≡ Some s → IsSaid (start_fact file k s)
  start_said k s e = (
    λ i m. inr (inr (record { name = k; start = s; at = e; fact = refl; said = start_says file k s i m })),
    two_own _ _ _ refl refl,
  )

  abbrev lines : List Fact
  lines = facts_along (source_of file ds) [] at_first ds

  lines_said : Each IsSaid lines
  lines_said = weaker lines (lines_are (source_of file ds) ds [] at_first)

  all_said : Each IsSaid (facts_of file ds starts built)
  all_said = each_both IsSaid (file_fact file built ∷ filter (λ f. is_block f.node) lines) (states_from file lines 0 starts)
      (file_said, blocks_all IsSaid lines lines_said)
      (states_all IsSaid file lines 0 starts lines_said (λ j s e. let at : j ≡ 0 + j = omega arith in start_said (0 + j) s (subst (λ n. slice_get starts n ≡ Some s) at e)))

  parted : (fs : List Fact) → Each IsSaid fs → Each (MentionsGiven file starts built) fs × Each DefinesOwn fs
  parted [] h = (tt, tt)
  parted (f ∷ fs) h = let rest = parted fs h.1 in ((h.0.0, rest.0), (h.0.1, rest.1))

  pub all_mention : All (MentionsGiven file starts built) (facts_of file ds starts built)
  all_mention = all_of_each (MentionsGiven file starts built) (facts_of file ds starts built) (parted (facts_of file ds starts built) all_said).0

  pub all_define : All DefinesOwn (facts_of file ds starts built)
  all_define = all_of_each DefinesOwn (facts_of file ds starts built) (parted (facts_of file ds starts built) all_said).1
