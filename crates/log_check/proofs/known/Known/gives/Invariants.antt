use Rattle.std.proofs.Common.{drop}
use Rattle.std.specs.Prelude.{◌↔◌}
use Rattle.log_check.specs.Derivations.{ResolvesTo, ChainGives}
use Rattle.log_check.proofs.known.Known.gives.Given as goal

abbrev pub invariant-loop-pair : goal.invariant-loop-pair
invariant-loop-pair l =
    ResolvesTo l.self l.running (drop l.pair-index l.pair-items) l.line.result ↔ ChainGives l.self l.line.chain l.line.result
