-- What contracts see of a built tree. This project's rule.
use Rattle.std.specs.Prelude.{List}
use Rattle.ut_logic.specs.declared.node.Node.{Node}
use Rattle.kconf_tree.specs.Shape.{Shape}

-- the tree, and its nodes in the order in which values can be calculated
pub record OrderedTree : Type 0 where
  pub shape : Shape
  pub order : List Node
