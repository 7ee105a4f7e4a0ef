-- The fields of a tree, and what is true of them. No public contract cites this module.
use Rattle.kconf_tree.specs.declared.tree.Tree.TheInside.{Inside}
use Rattle.kconf_tree.specs.OrderedTree.{OrderedTree}
use Rattle.kconf_tree.specs.Links.{AreLinks}
use Rattle.kconf_tree.specs.WellMade.{IsOrderedTree}

-- the tree of the fields
abbrev pub ordered_tree_of : Inside → OrderedTree
ordered_tree_of t = record { shape = t.parts; order = t.order.items }

-- the rows are those of the selects and implies, and the order is one
pub record IsWhole (t : Inside) : Type 0 where
  pub links : AreLinks t.parts t.links
  pub tree : IsOrderedTree (ordered_tree_of t)
