-- The members so far, and those of the lines that are left.
use Rattle.std.proofs.Common.{◌≡◌, ◌++◌, drop}
use Rattle.kconf_entries.specs.Joined.{members_of_all}
use Rattle.kconf_progress.specs.Openers.{inherited}
use Rattle.kconf_progress.proofs.openers.inherited.Given as goal

abbrev pub invariant-loop-opener : goal.invariant-loop-opener
invariant-loop-opener l =
    l.list.items ++ members_of_all (inherited (drop l.opener-index l.openers)) ≡ members_of_all (inherited l.openers)
