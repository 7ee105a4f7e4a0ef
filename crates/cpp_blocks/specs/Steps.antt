-- The facts of directives. A block is on where its parent is, no earlier group of its chain is, and its
-- condition holds. After a `#define` in a block a macro is defined where the block is on or it was defined
-- before, and true where the block is on and the line's truth is, or the block is off and it was true before;
-- after an `#undef` it is defined, and true, where the block is off and it was before.
-- Rule: ISO C, "Conditional inclusion" and "Macro replacement"; facts are this project's rule.
use Rattle.std.specs.Prelude.{ℕ, suc, Bool, true, false, List, [], ◌∷◌, ◌++◌, map, filter}
use Rattle.ut_text.specs.Bytes.{Bytes}
use Rattle.ut_logic.specs.declared.item.Item.{Item}
use Rattle.ut_logic.specs.declared.item.Item.TheVariants as item
use Rattle.ut_logic.specs.declared.node.Node.{Node}
use Rattle.ut_logic.specs.declared.node.Node.TheVariants as node
use Rattle.ut_logic.specs.declared.formula.Formula.{Formula}
use Rattle.ut_logic.specs.declared.formula.Formula.TheVariants.{Yes, No, Is}
use Rattle.ut_logic.specs.declared.facts.Fact.{Fact}
use Rattle.ut_logic.specs.Fold.{not_of, all_of, any_of}
use Rattle.ut_logic.specs.Truth.{mentioned}
use Rattle.cpp_directives.specs.declared.directive.Directive.{Directive}
use Rattle.cpp_directives.specs.declared.directive.Gives.{Gives}
use Rattle.cpp_directives.specs.declared.directive.Gives.TheVariants.{Zero, Nonzero, Free}
use Rattle.cpp_directives.specs.declared.directive.What.{What}
use Rattle.cpp_directives.specs.declared.directive.What.TheVariants.{If, Elif, Else, Endif, Define, Undef}
use Rattle.cpp_blocks.specs.declared.groups.OpenGroups.{OpenGroups}
use Rattle.cpp_blocks.specs.Formulas.{Source, Turn, turns_after, defined_item, true_item, state_node, formula_of, states_in}
use Rattle.cpp_blocks.specs.Turns.{touched_at}

-- where a directive stands: the number of the next block, and the open chains from the innermost, each with
-- the block round it, the groups before its current one, and that
pub record Standing : Type 0 where
  pub next : ℕ
  pub chains : List OpenGroups

-- the innermost open block
abbrev pub current : List OpenGroups → ℕ
current [] = 0
current (c ∷ cs) = c.current

-- ---- blocks

-- the parent is on, no earlier group is, and the condition holds
abbrev pub group_formula : ℕ → ℕ → List ℕ → Formula → Formula
group_formula file parent earlier cond = all_of (Is (item.Block file parent) ∷ map (λ group. not_of (Is (item.Block file group))) earlier ++ cond ∷ [])

-- whether an item is that of a piece
abbrev pub is_piece : Item → Bool
is_piece (item.Piece file piece) = true
is_piece _ = false

-- the fact of a block with this formula, which refers to its parent, the earlier groups and these states
abbrev pub block_fact : ℕ → ℕ → ℕ → List ℕ → List Node → Formula → Fact
block_fact file block parent earlier states formula = record {
  node = node.Block file block;
  holds = [];
  defines = record { item = item.Block file block; formula = formula } ∷ [];
  names = node.Block file parent ∷ map (λ group. node.Block file group) earlier ++ states;
  items = item.Block file block ∷ filter is_piece (mentioned formula);
}

-- the fact of a group with this condition
abbrev pub group_fact : ℕ → ℕ → ℕ → List ℕ → List Node → Formula → Fact
group_fact file block parent earlier states cond = block_fact file block parent earlier states (group_formula file parent earlier cond)

-- the fact of the next group of the innermost chain
abbrev pub next_group : ℕ → ℕ → List OpenGroups → List Node → Formula → List Fact
next_group file block [] states cond = []
next_group file block (c ∷ cs) states cond = group_fact file block c.parent (c.earlier ++ c.current ∷ []) states cond ∷ []

-- ---- macro lines

-- the truth that a `#define` gives
abbrev pub given_truth : ℕ → ℕ → Gives → Formula
given_truth file line Zero = No
given_truth file line Nonzero = Yes
given_truth file line Free = Is (item.Line file line)

-- the item of a free `#define`
abbrev pub given_items : ℕ → ℕ → Gives → List Item
given_items file line Zero = []
given_items file line Nonzero = []
given_items file line Free = item.Line file line ∷ []

-- the fact of a macro's state after a line of it in a block, where it was in the state of this turn before
abbrev pub state_fact : Source → Bytes → ℕ → ℕ → Formula → Formula → List Item → Fact
state_fact src name turn block d t items = record {
  node = state_node src name (suc turn);
  holds = [];
  defines = record { item = defined_item src name (suc turn); formula = d } ∷ record { item = true_item src name (suc turn); formula = t } ∷ [];
  names = state_node src name turn ∷ node.Block src.file block ∷ [];
  items = defined_item src name (suc turn) ∷ true_item src name (suc turn) ∷ items;
}

-- the block is off, and it was so before
abbrev pub unless_on : ℕ → ℕ → Formula → Formula
unless_on file block before = all_of (not_of (Is (item.Block file block)) ∷ before ∷ [])

-- after a `#define` in a block a macro is defined where the block is on or it was defined before
abbrev pub defined_by_define : Source → Bytes → ℕ → ℕ → Formula
defined_by_define src name turn block = any_of (Is (item.Block src.file block) ∷ Is (defined_item src name turn) ∷ [])

-- and true where the block is on and the line's truth is, or the block is off and it was true before
abbrev pub true_by_define : Source → Bytes → ℕ → ℕ → ℕ → Gives → Formula
true_by_define src name turn block line gives = any_of (all_of (Is (item.Block src.file block) ∷ given_truth src.file line gives ∷ []) ∷ unless_on src.file block (Is (true_item src name turn)) ∷ [])

-- a `#define` in a block
abbrev pub define_fact : Source → Bytes → ℕ → ℕ → ℕ → Gives → Fact
define_fact src name turn block line gives = state_fact src name turn block (defined_by_define src name turn block) (true_by_define src name turn block line gives) (given_items src.file line gives)

-- an `#undef` in a block: the macro is defined, and true, where the block is off and it was before
abbrev pub undef_fact : Source → Bytes → ℕ → ℕ → Fact
undef_fact src name turn block = state_fact src name turn block (unless_on src.file block (Is (defined_item src name turn))) (unless_on src.file block (Is (true_item src name turn))) []

-- ---- directives

-- the fact of a directive, if it has one
abbrev pub fact_at : Source → Turn → Standing → ℕ → What → List Fact
fact_at src turn at line (If cond) = group_fact src.file at.next (current at.chains) [] (states_in src turn cond) (formula_of src turn cond) ∷ []
fact_at src turn at line (Elif cond) = next_group src.file at.next at.chains (states_in src turn cond) (formula_of src turn cond)
fact_at src turn at line Else = next_group src.file at.next at.chains [] Yes
fact_at src turn at line Endif = []
fact_at src turn at line (Define name gives) = define_fact src name (turn.name name) (current at.chains) line gives ∷ []
fact_at src turn at line (Undef name) = undef_fact src name (turn.name name) (current at.chains) ∷ []

-- the innermost chain has one more group
abbrev pub turned : Standing → List OpenGroups → Standing
turned at [] = at
turned at (c ∷ cs) = record { next = suc at.next; chains = record { parent = c.parent; earlier = c.earlier ++ c.current ∷ []; current = at.next } ∷ cs }

-- the chains round the innermost one
abbrev pub round : List OpenGroups → List OpenGroups
round [] = []
round (c ∷ cs) = cs

-- a chain begins with its first group
abbrev pub opened : Standing → Standing
opened at = record { next = suc at.next; chains = record { parent = current at.chains; earlier = []; current = at.next } ∷ at.chains }

-- the innermost chain ends
abbrev pub closed : Standing → Standing
closed at = record at { chains = round at.chains }

-- where the next directive stands
abbrev pub after : Standing → What → Standing
after at (If cond) = opened at
after at (Elif cond) = turned at at.chains
after at Else = turned at at.chains
after at Endif = closed at
after at (Define name gives) = at
after at (Undef name) = at

-- the facts of directives that stand there after these macro lines, in order
abbrev pub facts_along : Source → List Bytes → Standing → List Directive → List Fact
facts_along src touched at [] = []
facts_along src touched at (d ∷ ds) = fact_at src (turns_after touched) at d.line d.what ++ facts_along src (touched ++ touched_at d.what) (after at d.what) ds
