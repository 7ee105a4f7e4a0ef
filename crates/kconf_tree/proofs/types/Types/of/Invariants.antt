-- The entries so far are taken in.
use Rattle.std.proofs.Common.{◌≡◌, take}
use Rattle.kconf_tree.specs.Types.{types_of}
use Rattle.kconf_tree.proofs.types.Types.of.Given as goal

abbrev pub invariant-loop-config : goal.invariant-loop-config
invariant-loop-config l = l.map.entries ≡ types_of (take l.config-index l.configs)
