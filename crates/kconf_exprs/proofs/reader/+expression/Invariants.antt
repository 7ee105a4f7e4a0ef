-- The words get fewer, and what is begun makes the whole.
use Rattle.std.proofs.Common.{ℕ, ◌+◌, ◌*◌, ◌<◌, length}
use Rattle.kconf_exprs.specs.declared.joints.Joint.{Joint}
use Rattle.kconf_exprs.specs.declared.joints.Joint.TheVariants as joint
use Rattle.kconf_exprs.specs.Reading.{IsBegun, list_at}
use Rattle.kconf_exprs.proofs.reader.+expression.Given as goal

abbrev pub list_rank : Joint → ℕ
list_rank joint.Any = 5
list_rank joint.All = 3

abbrev pub member_rank : Joint → ℕ
member_rank joint.Any = 4
member_rank joint.All = 2

abbrev pub decreases-read_list : goal.decreases-read_list
decreases-read_list l = 6 * length l.words.now + list_rank l.joint

abbrev pub decreases-read_member : goal.decreases-read_member
decreases-read_member l = 6 * length l.words.now + member_rank l.joint

abbrev pub decreases-read_factor : goal.decreases-read_factor
decreases-read_factor l = 6 * length l.words.now + 1

abbrev pub decreases-read_negated : goal.decreases-read_negated
decreases-read_negated l = 6 * length l.words.now + 6

abbrev pub decreases-read_closed : goal.decreases-read_closed
decreases-read_closed l = 6 * length l.words.now + 6

abbrev pub invariant-read_list-members : goal.invariant-read_list-members
invariant-read_list-members l = record {
  begun : IsBegun l.joint l.room (list_at l.joint l.words) l.expr l.rest;
  shorter : length l.rest < length l.words;
}

abbrev pub decreases-read_list-members : goal.decreases-read_list-members
decreases-read_list-members l = length l.rest
