-- The rest gives the same answer as the whole.
use Rattle.std.proofs.Common.{◌≡◌, drop, map, length}
use Rattle.ut_base.specs.declared.limits.Limit.TheVariants.{Members}
use Rattle.kconf_tree.specs.declared.shape.Choice.{Choice}
use Rattle.kconf_tree.specs.Limits.{first_past, max_members}
use Rattle.kconf_tree.proofs.limits.past_members.Given as goal

abbrev pub invariant-loop-choice : goal.invariant-loop-choice
invariant-loop-choice l = first_past Members max_members (map (λ (c : Choice). length c.members) (drop l.choice-index l.choices)) ≡ first_past Members max_members (map (λ (c : Choice). length c.members) l.choices)
