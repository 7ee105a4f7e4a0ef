-- What is left, added to what was found, gives the whole.
use Rattle.std.proofs.Common.{◌≡◌, ◌++◌, drop, map}
use Rattle.ut_logic.specs.Truth.{mentioned, together}
use Rattle.ut_logic.proofs.mentions.+mentions.Given as goal

abbrev pub invariant-mention_each-loop-f : goal.invariant-mention_each-loop-f
invariant-mention_each-loop-f l = l.items.items ++ together (map mentioned (drop l.f-index l.list)) ≡ l.fn.items.items ++ together (map mentioned l.list)
