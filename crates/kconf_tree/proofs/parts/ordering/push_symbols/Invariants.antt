-- The nodes so far.
use Rattle.std.proofs.Common.{◌≡◌, ◌++◌, take, map}
use Rattle.ut_logic.specs.declared.node.Node.TheVariants.{Sym}
use Rattle.kconf_tree.proofs.parts.ordering.push_symbols.Given as goal

abbrev pub invariant-loop-symbol : goal.invariant-loop-symbol
invariant-loop-symbol l = l.order.items ≡ l.fn.order.items ++ map (λ k. Sym k) (take l.symbol-index l.symbols)
