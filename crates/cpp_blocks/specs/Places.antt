-- What the code hands round of a source, in the words of `Formulas` and `Steps`.
use Rattle.std.specs.Prelude.{ℕ, List}
use Rattle.ut_logic.specs.declared.facts.Fact.{Fact}
use Rattle.ut_logic.specs.declared.formula.Formula.{Formula}
use Rattle.ut_logic.specs.declared.formula.Formula.TheVariants.{Is}
use Rattle.ut_logic.specs.declared.item.Item.{Item}
use Rattle.cpp_directives.specs.declared.directive.Gives.{Gives}
use Rattle.cpp_blocks.specs.declared.facts.Group.{Group}
use Rattle.cpp_blocks.specs.declared.facts.MacroLine.{MacroLine}
use Rattle.cpp_blocks.specs.declared.place.Place.{Place}
use Rattle.cpp_blocks.specs.declared.turns.Turns.{Turns}
use Rattle.cpp_blocks.specs.Counted.{turn_in, piece_turn}
use Rattle.cpp_blocks.specs.Formulas.{Source, Turn, source_of, defined_item, true_item}
use Rattle.cpp_blocks.specs.Steps.{group_fact, state_fact, unless_on, defined_by_define, true_by_define, define_fact, undef_fact}

-- how many macro lines of each name, and how many that touch each piece, were passed
abbrev pub kept_turns : Turns → Turn
kept_turns turns = record { name = turn_in turns; piece = piece_turn turns }

-- the source of a place
abbrev pub source_at : Place → Source
source_at place = source_of place.file place.blocks.now

-- the macro lines before a place
abbrev pub turns_at : Place → Turn
turns_at place = kept_turns place.turns.now

-- the fact of a group with this condition
abbrev pub group_at : Group → Formula → Fact
group_at g cond = group_fact g.file g.block g.parent g.earlier.now g.states.now cond

-- the fact of a macro's state after a line of it, with these formulas and these further items
abbrev pub state_at : MacroLine → Formula → Formula → List Item → Fact
state_at m d t items = state_fact (source_of m.file m.blocks.now) m.name.now m.turn m.block d t items

-- the macro is defined, or true, before this line
abbrev pub defined_before_at : MacroLine → Formula
defined_before_at m = Is (defined_item (source_of m.file m.blocks.now) m.name.now m.turn)

abbrev pub true_before_at : MacroLine → Formula
true_before_at m = Is (true_item (source_of m.file m.blocks.now) m.name.now m.turn)

-- the line's block is off, and it was so before
abbrev pub unless_on_at : MacroLine → Formula → Formula
unless_on_at m before = unless_on m.file m.block before

-- when the macro is defined, and when true, after a `#define`
abbrev pub defined_by_define_at : MacroLine → Formula
defined_by_define_at m = defined_by_define (source_of m.file m.blocks.now) m.name.now m.turn m.block

abbrev pub true_by_define_at : MacroLine → ℕ → Gives → Formula
true_by_define_at m line gives = true_by_define (source_of m.file m.blocks.now) m.name.now m.turn m.block line gives

-- the fact of a `#define` on this line
abbrev pub define_at : MacroLine → ℕ → Gives → Fact
define_at m line gives = define_fact (source_of m.file m.blocks.now) m.name.now m.turn m.block line gives

-- the fact of an `#undef`
abbrev pub undef_at : MacroLine → Fact
undef_at m = undef_fact (source_of m.file m.blocks.now) m.name.now m.turn m.block
