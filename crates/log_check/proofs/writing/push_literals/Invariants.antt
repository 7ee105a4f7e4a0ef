use Rattle.std.proofs.Common.{◌≡◌, ◌++◌, ◌^◌, ◌<◌, take}
use Rattle.std.specs.Prelude.{All}
use Rattle.std.specs.List.{flat_map}
use Rattle.ut_logic.specs.declared.literals.Lit.{Lit}
use Rattle.log_check.specs.DerivationText.{literal_text}
use Rattle.log_check.proofs.writing.push_literals.Given as goal

abbrev pub invariant-loop-lit : goal.invariant-loop-lit
invariant-loop-lit l = record {
  text : l.text.items ≡ l.fn.text.items ++ flat_map literal_text (take l.lit-index l.lits);
  fit : All (λ (x : Lit). x.var < 2 ^ 64) (take l.lit-index l.lits);
}
