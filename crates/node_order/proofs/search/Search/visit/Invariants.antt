-- The search goes on, the root is met, and what was no longer new stays so.
use Rattle.std.proofs.Common.{◌≢◌, get_or}
use Rattle.node_order.specs.declared.search.Mark.TheVariants.{New}
use Rattle.node_order.specs.Searching.{IsSearching, Keeps, work, path_of}
use Rattle.node_order.proofs.search.Search.visit.Given as goal

abbrev pub invariant-loop-top : goal.invariant-loop-top
invariant-loop-top l = record {
  search : IsSearching l.graph l.self;
  met : get_or l.self.marks.items l.root New ≢ New;
  kept : Keeps l.fn.self.marks.items l.self.marks.items;
}

abbrev pub decreases-loop-top : goal.decreases-loop-top
decreases-loop-top l = work l.graph l.self.marks.items (path_of l.self)
