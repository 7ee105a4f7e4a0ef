-- The facts from here on are indexed.
use Rattle.std.proofs.Common.{◌≡◌, drop}
use Rattle.indexmap.specs.IndexMap.{get}
use Rattle.ut_logic.specs.declared.node.Node.{Node}
use Rattle.ut_logic.specs.Node.{node_eq}
use Rattle.model_slice.specs.Found.{place_from}
use Rattle.model_slice.proofs.indexed.index.Given as goal

abbrev pub invariant-loop-place : goal.invariant-loop-place
invariant-loop-place l = (n : Node) → get node_eq l.map n ≡ place_from l.place (drop l.place l.facts) n
