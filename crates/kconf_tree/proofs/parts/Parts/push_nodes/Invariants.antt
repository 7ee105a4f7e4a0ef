-- What has been added, and what the rest adds, are the whole.
use Rattle.std.proofs.Common.{◌≡◌, ◌++◌, drop, get_or}
use Rattle.std.specs.List.{flat_map}
use Rattle.ut_logic.specs.declared.node.Node.TheVariants.{Sym}
use Rattle.kconf_tree.specs.Orders.{with_members}
use Rattle.kconf_tree.proofs.parts.Parts.push_nodes.Given as goal

abbrev pub invariant-loop-place : goal.invariant-loop-place
invariant-loop-place l = l.order.items ++ flat_map (λ k. with_members l.self (get_or l.nodes.keys k (Sym 0))) (drop l.place-index l.places) ≡ l.fn.order.items ++ flat_map (λ k. with_members l.self (get_or l.nodes.keys k (Sym 0))) l.places
