-- What has been added, and what the rest adds, are the whole.
use Rattle.std.proofs.Common.{◌≡◌, ◌++◌, drop, map}
use Rattle.ut_logic.specs.declared.node.Node.TheVariants.{Sym}
use Rattle.kconf_constr.proofs.facts.add_members.Given as goal

abbrev pub invariant-loop-member : goal.invariant-loop-member
invariant-loop-member l = l.names.items ++ map (λ j. Sym j) (drop l.member-index l.members) ≡ l.fn.names.items ++ map (λ j. Sym j) l.members
