use Rattle.std.proofs.Common.{◌≡◌, ◌++◌, drop}
use Rattle.kconf_entries.specs.Joined.{members_of_all}
use Rattle.kconf_progress.proofs.conditions.add_all_members.Given as goal

abbrev pub invariant-loop-condition : goal.invariant-loop-condition
invariant-loop-condition l =
    l.list.items ++ members_of_all (drop l.condition-index l.conditions) ≡ l.initial.list.items ++ members_of_all l.conditions
