-- The clauses so far are those of the first that are written, after those that were there.
use Rattle.std.proofs.Common.{List, ◌++◌, take}
use Rattle.ut_logic.specs.declared.literals.Lit.{Lit}
use Rattle.clausify.specs.Tidy.{AreTidy}
use Rattle.clausify.proofs.tidy.tidy_each.Given as goal

abbrev pub invariant-loop-lits : goal.invariant-loop-lits
invariant-loop-lits l = (front : List (List Lit)) → AreTidy front l.initial.clauses.items → AreTidy (front ++ take l.lits-index l.written) l.clauses.items
