-- Which node an item belongs to. This project's rule.
use Rattle.std.specs.Prelude.{Option, None, Some}
use Rattle.ut_logic.specs.declared.item.Item.{Item}
use Rattle.ut_logic.specs.declared.item.Item.TheVariants as item
use Rattle.ut_logic.specs.declared.node.Node.{Node}
use Rattle.ut_logic.specs.declared.node.Node.TheVariants as node

-- the node whose item it is: what is said of a symbol is the symbol's, of a choice's mode the choice's, of a block and of
-- a macro's state that node's; all else is no node's
abbrev pub owner : Item → Option Node
owner (item.SymY sym) = Some (node.Sym sym)
owner (item.SymM sym) = Some (node.Sym sym)
owner (item.Undeclared name) = None
owner (item.ModeY choice) = Some (node.Choice choice)
owner (item.ModeM choice) = Some (node.Choice choice)
owner (item.Outer condition) = None
owner (item.Same sym k) = Some (node.Sym sym)
owner (item.Below sym k) = Some (node.Sym sym)
owner (item.StartD file name) = None
owner (item.StartT file name) = None
owner (item.Truth file name) = None
owner (item.Piece file piece) = None
owner (item.Line file line) = None
owner (item.Block file block) = Some (node.Block file block)
owner (item.StateD file name turn) = Some (node.State file name turn)
owner (item.StateT file name turn) = Some (node.State file name turn)
