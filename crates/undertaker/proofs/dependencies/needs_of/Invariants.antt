-- The rows so far are those of the entries so far.
use Rattle.std.proofs.Common.{◌≡◌, take}
use Rattle.undertaker.specs.Dependencies.{rows_of}
use Rattle.undertaker.proofs.dependencies.needs_of.Given as goal

abbrev pub invariant-loop-config : goal.invariant-loop-config
invariant-loop-config l = l.needs.items ≡ rows_of l.names (take l.config-index l.configs)
