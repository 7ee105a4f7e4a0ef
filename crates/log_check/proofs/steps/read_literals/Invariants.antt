use Rattle.std.proofs.Common.{◌≡◌, ◌++◌, length}
use Rattle.std.specs.Prelude.{All}
use Rattle.std.specs.List.{flat_map}
use Rattle.ut_logic.specs.declared.literals.Lit.{Lit}
use Rattle.ut_logic.specs.Clauses.{IsOrdered}
use Rattle.log_check.specs.DerivationText.{literal_text, IsVariable}
use Rattle.log_check.proofs.steps.read_literals.Given as goal

abbrev pub invariant-loop-cursor : goal.invariant-loop-cursor
invariant-loop-cursor l = record {
  text : l.fn.cursor ≡ flat_map literal_text l.lits.items ++ l.cursor;
  ordered : IsOrdered l.lits.items;
  variables : All (λ (x : Lit). IsVariable x.var) l.lits.items;
}

abbrev pub decreases-loop-cursor : goal.decreases-loop-cursor
decreases-loop-cursor l = length l.cursor
