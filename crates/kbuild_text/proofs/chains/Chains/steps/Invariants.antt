use Rattle.std.proofs.Common.{◌≡◌, ◌++◌, drop}
use Rattle.kbuild_text.specs.Chains as spec
use Rattle.kbuild_text.proofs.chains.Chains.steps.Given as goal

abbrev pub invariant-loop-chain : goal.invariant-loop-chain
invariant-loop-chain l = l.steps ++ spec.steps_of (drop l.chain-index l.self) ≡ spec.steps_of l.self
