-- The names so far and those that are left are all, and those that are left are new.
use Rattle.std.proofs.Common.{◌≡◌, ◌++◌, drop}
use Rattle.undertaker.specs.Dependencies.{declared_in}
use Rattle.undertaker.specs.FirstEntries.{AreFirst}
use Rattle.undertaker.proofs.dependencies.names_of.Given as goal

abbrev pub invariant-loop-config : goal.invariant-loop-config
invariant-loop-config l = (l.names ++ declared_in (drop l.config-index l.configs) ≡ declared_in l.configs) × AreFirst l.names (drop l.config-index l.configs)
